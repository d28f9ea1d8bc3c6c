-- The mark of place b, set in one of two words: the positions, places 0 to 30, are in the one, and the slots, places 31 to 62, in the other. Assumes nothing.
use Prim.Native.Nat.{ℕ, ◌+◌, ◌-◌, ◌≤◌, ◌<◌}
use mathlib.Core.Path.{◌≡◌, refl, sym, ap, ◌∙◌}
use mathlib.Core.Bool.{Bool, ◌||◌}
use native.Mathlib.Omega.{arith}
use lib.Dec.{eqb}
use borrow.Author.Tests.{eq-eqb, ne_eqb}
use Rattle.words.specs.Bits.{bit, WithBit}
use Rattle.words.proofs.BitLaws.{if_eq}

-- The word of the positions with place b in, and that of the slots.
abbrev pub Marks : ℕ → ℕ → ℕ → Type 0
Marks b present next = ((i : ℕ) → i < 31 → bit next i ≡ (eqb i b || bit present i)) × (bit next 31 ≡ bit present 31)

abbrev pub MarksSlot : ℕ → ℕ → ℕ → Type 0
MarksSlot b occupied next = (c : ℕ) → c < 32 → bit next c ≡ (eqb (31 + c) b || bit occupied c)

module _ (b present occupied : ℕ) where
  -- A position is in the one, and the other stays.
  pub position_marked : (next : ℕ) → b < 31 → WithBit present b next → Marks b present next × MarksSlot b occupied occupied
  position_marked next h with_b = (
    (λ i lt. with_b i (omega arith), with_b 31 (omega arith) ∙ ap (λ (t : Bool). t || bit present 31) (ne_eqb 31 b (λ e. omega arith))),
    λ c lt. sym (ap (λ (t : Bool). t || bit occupied c) (ne_eqb (31 + c) b (λ e. omega arith))),
  )

  -- Place b, a slot, is slot b - 31.
  slot_test : (i : ℕ) → 31 ≤ b → eqb i (b - 31) ≡ eqb (31 + i) b
  slot_test i low =
      if_eq (λ (t : Bool). eqb i (b - 31) ≡ t) (31 + i) b (λ e. eq-eqb i (b - 31) (omega arith)) (λ ne. ne_eqb i (b - 31) (λ e. ne (omega arith)))

  pub slot_marked : (next : ℕ) → 31 ≤ b → WithBit occupied (b - 31) next → Marks b present present × MarksSlot b occupied next
  slot_marked next low with_b = (
    (λ i lt. sym (ap (λ (t : Bool). t || bit present i) (ne_eqb i b (λ e. omega arith))), refl),
    λ c lt. with_b c lt ∙ ap (λ (t : Bool). t || bit occupied c) (slot_test c low),
  )
