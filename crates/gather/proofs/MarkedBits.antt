-- A word whose bits are set by a test, one after another: of the bits that are passed it has those of which the test holds. Assumes nothing.
use Prim.Native.Nat.{ℕ, ◌+◌, ◌<◌}
use mathlib.Core.Path.{◌≡◌, refl, sym, ap, ◌∙◌}
use mathlib.Core.Bool.{Bool, true, false, ◌&&◌, ◌||◌, and-false}
use native.Mathlib.Omega.{arith}
use lib.Dec.{eqb, ltb, leb}
use borrow.Author.Tests.{lt-ltb, le-ltb, le-leb, lt-leb}
use Rattle.words.specs.Bits.{bit}
use Rattle.words.proofs.BitLaws.{if_lt, if_le, if_eq, bit-zero}

-- Of the first n bits, x has those that are passed and of which p holds, and no others.
pub record Marked (n : ℕ) (p passed : ℕ → Bool) (x : ℕ) : Type 0 where
  pub each : (i : ℕ) → i < n → bit x i ≡ (passed i && p i)

-- Bit c is passed too.
abbrev pub Passes : (ℕ → Bool) → ℕ → (ℕ → Bool) → Type 0
Passes passed c passed' = (i : ℕ) → passed' i ≡ (eqb i c || passed i)

-- The bits before c and bit c are those before c + 1; bit c and those from c + 1 on are those from c on.
pub passes_up : (c : ℕ) → Passes (λ i. ltb i c) c (λ i. ltb i (c + 1))
passes_up c i =
    if_eq (λ (b : Bool). ltb i (c + 1) ≡ (b || ltb i c)) i c (λ e. lt-ltb i (c + 1) (omega arith))
    (λ ne. if_lt (λ (b : Bool). ltb i (c + 1) ≡ b) i c (λ l. lt-ltb i (c + 1) (omega arith)) (λ l. le-ltb i (c + 1) (omega arith)))

pub passes_down : (c : ℕ) → Passes (λ i. leb (c + 1) i) c (λ i. leb c i)
passes_down c i =
    if_eq (λ (b : Bool). leb c i ≡ (b || leb (c + 1) i)) i c (λ e. le-leb c i (omega arith))
    (λ ne. if_le (λ (b : Bool). leb c i ≡ b) (c + 1) i (λ l. le-leb c i (omega arith)) (λ l. lt-leb c i (omega arith)))

-- At first none is.
pub marked_none : (n : ℕ) (p passed : ℕ → Bool) → ((i : ℕ) → i < n → passed i ≡ false) → Marked n p passed 0
marked_none n p passed none = record { each = λ i lt. bit-zero i ∙ sym (ap (λ (b : Bool). b && p i) (none i lt)) }

module _ {n : ℕ} {p passed : ℕ → Bool} {x : ℕ} (m : Marked n p passed x) (c : ℕ) (passed' : ℕ → Bool) (more : Passes passed c passed') where
  -- A bit is set by what holds of it.
  pub marked-take : (here : Bool) (y : ℕ) → here ≡ p c → ((i : ℕ) → i < n → bit y i ≡ ((eqb i c && here) || bit x i)) → Marked n p passed' y
  marked-take here y e with = record { each = each }
    where
      either : (b q : Bool) → (b || (q && b)) ≡ b
      either true q = refl
      either false q = and-false q

      each : (i : ℕ) → i < n → bit y i ≡ (passed' i && p i)
      each i lt =
          with i lt
          ∙ ap (λ (b : Bool). (eqb i c && here) || b) (m.each i lt)
          ∙ if_eq (λ (b : Bool). ((b && here) || (passed i && p i)) ≡ ((b || passed i) && p i)) i c
          (λ q. rw (e, q) (either (p c) (passed c))) (λ q. refl)
          ∙ sym (ap (λ (b : Bool). b && p i) (more i))

  -- One of which it does not hold is left as it is.
  pub marked_skip : (c < n → p c ≡ false) → Marked n p passed' x
  marked_skip e = record { each = each }
    where
      each : (i : ℕ) → i < n → bit x i ≡ (passed' i && p i)
      each i lt =
          m.each i lt
          ∙ if_eq (λ (b : Bool). (passed i && p i) ≡ ((b || passed i) && p i)) i c
          (λ q. let off : p c ≡ false = e (omega arith) in rw (q, off) (and-false (passed c))) (λ q. refl)
          ∙ sym (ap (λ (b : Bool). b && p i) (more i))

-- At last all are.
pub marked_all : {n : ℕ} {p passed : ℕ → Bool} {x : ℕ} → Marked n p passed x → ((i : ℕ) → i < n → passed i ≡ true) → (c : ℕ) → c < n → bit x c ≡ p c
marked_all {p = p} m all c lt = m.each c lt ∙ ap (λ (b : Bool). b && p c) (all c lt)
