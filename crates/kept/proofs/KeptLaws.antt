-- Where text is kept, and what a room that was filled with one value holds. Assumes nothing.
use mathlib.Core.Path.{◌≡◌, refl, ap, ◌∙◌}
use mathlib.Core.Bool.{true, ◌&&◌}
use mathlib.Core.List.{List}
use Prim.Native.Nat.{ℕ, zero, suc}
use native.Mathlib.Omega.{arith}
use borrow.Author.Tests.{eq-eqb}
use lib.ListN.{drop, replicate}
use Rattle.records.specs.Sized.{laid}
use Rattle.rooms.specs.Rooms.{all_are}
use Rattle.text.specs.Text.{Put}

-- ---- Where text is kept.

-- The same place, end and buffer, otherwise written.
pub put_at : {ws : List ℕ} {at at₁ r r₁ : ℕ} {o o' o₁ : List ℕ} → at ≡ at₁ → r₁ ≡ r → o₁ ≡ o' → Put ws at r o o' → Put ws at₁ r₁ o o₁
put_at {ws} {at} {at₁} {r} {r₁} {o} {o'} {o₁} e f g p =
    let ends = p.ends in
    let fits = p.fits in
    record { ends = omega arith; fits = omega arith; lays = g ∙ p.lays ∙ ap (λ (k : ℕ). laid k ws o) e }

-- ---- Rooms of one value.

-- A list of one value is that throughout, and so is its end.
pub all_replicate : (v n : ℕ) → all_are v (replicate n v) ≡ true
all_replicate v zero = refl
all_replicate v (suc n) = ap (◌&& all_are v (replicate n v)) (eq-eqb v v refl) ∙ all_replicate v n

pub all_dropped : (v k n : ℕ) → all_are v (drop k (replicate n v)) ≡ true
all_dropped v zero n = all_replicate v n
all_dropped v (suc k) zero = refl
all_dropped v (suc k) (suc n) = all_dropped v k n
