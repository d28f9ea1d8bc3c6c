-- A rule's test and the fact that it tests. Assumes nothing.
use mathlib.Core.Path.{◌≡◌, refl}
use mathlib.Core.Bool.{Bool, true, false}
use Prim.Native.Nat.{ℕ}
use native.Mathlib.Omega.{arith}

-- A test shows a fact: it is passed exactly when the fact holds.
pub data Shows (P : Type 0) : Bool → Type 0 where
  yes : P → Shows P true
  no : (P → ⊥) → Shows P false

-- A test that is passed where the fact holds, and only there.
pub shown : {P : Type 0} (b : Bool) → (b ≡ true → P) → (P → b ≡ true) → Shows P b
shown true f g = yes (f refl)
shown false f g = no (λ p. let z : ◌≡◌ {A = ℕ} 0 1 = cc (g p) in absurd (omega arith))

-- The fact holds: the test is passed.
pub passes : {P : Type 0} {b : Bool} → Shows P b → P → b ≡ true
passes (yes q) p = refl
passes (no n) p = absurd (n p)

-- The fact does not hold: the test is not passed.
pub fails : {P : Type 0} {b : Bool} → Shows P b → (P → ⊥) → b ≡ false
fails (yes p) n = absurd (n p)
fails (no m) n = refl

-- The test is passed: the fact holds.
pub proved : {P : Type 0} {b : Bool} → Shows P b → b ≡ true → P
proved (yes p) e = p
proved (no n) e = let z : ◌≡◌ {A = ℕ} 0 1 = cc in absurd (omega arith)

-- The test is not passed: the fact does not hold.
pub refuted : {P : Type 0} {b : Bool} → Shows P b → b ≡ false → P → ⊥
refuted (yes p) e q = let z : ◌≡◌ {A = ℕ} 0 1 = cc in omega arith
refuted (no n) e q = n q

-- What is shown holds if its contrary is impossible.
pub decided : {P : Type 0} {b : Bool} → Shows P b → ((P → ⊥) → ⊥) → P
decided (yes p) n = p
decided (no p) n = absurd (n p)
