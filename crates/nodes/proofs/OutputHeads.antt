-- The slots at which the positions with an entry begin: the slot of a position as the code has it, and the marks that it makes, one position
-- after another. Assumes nothing.
use Prim.Native.Nat.{ℕ, suc, ◌+◌, ◌-◌, ◌*◌, ◌/◌, ◌%◌, ◌^◌, ◌≤◌, ◌<◌}
use mathlib.Core.Path.{◌≡◌, sym, ◌∙◌}
use mathlib.Core.Bool.{true, true≢false, ◌||◌, or-true}
use native.Mathlib.Omega.{arith}
use native.Mathlib.Nat.{pow-suc, add-mul, mul-lt-mul_of_pos_right, div-add-mod'}
use lib.Count.{count_leading_zeros, leading_unique}
use lib.Dec.{eqb}
use lib.Pow.{pow_pos, pow-add}
use borrow.Author.Tests.{eq-eqb}
use Rattle.words.specs.Bits.{bit, WithBit, NextBit}
use Rattle.words.specs.Positions.{position}
use Rattle.words.proofs.BitLaws.{if_lt}
use Rattle.words.proofs.PositionLaws.{in_word, placed}
use Rattle.nodes.specs.Output.{HeadSlots}
use Rattle.nodes.proofs.OutputLevels.{index_in}

-- ---- The slot at which a position begins.

-- The positions of a level, with the slots below each, have all 32 slots.
levels_all : (l : ℕ) → l < 5 → 2 ^ l * 2 ^ (5 - l) ≡ 32
levels_all l h = let s : l + (5 - l) ≡ 5 = omega arith in sym (pow-add 2 l (5 - l)) ∙ rw s

-- What the code computes of position b, which is (l, j): the zeros before b + 1, and b + 1 moved up by as many as they are over 26, which is 32
-- and the slot.
pub record SlotOf (b l j : ℕ) : Type 0 where
  pub level : l < 5
  pub zeros : count_leading_zeros 32 (b + 1) ≡ 31 - l
  pub moved : (b + 1) * 2 ^ (count_leading_zeros 32 (b + 1) - 26) % 2 ^ 64 ≡ 32 + j * 2 ^ (5 - l)
  pub inside : j * 2 ^ (5 - l) < 32

-- It is so for the level and the index of b,
pub slot_of : (b l j : ℕ) → l < 5 → j < 2 ^ l → b ≡ position l j → SlotOf b l j
slot_of b l j h g e =
    let next : b + 1 ≡ 2 ^ l + j = omega (arith, pow_pos l) in
    let zeros : count_leading_zeros 32 (b + 1) ≡ 31 - l =
    sym (leading_unique 32 (b + 1) (31 - l) (suc l) (omega arith) (omega (arith, pow-suc 2 l)) (omega (arith, pow-suc 2 l))) in
    let up : count_leading_zeros 32 (b + 1) - 26 ≡ 5 - l = omega arith in
    let whole : 2 ^ l * 2 ^ (5 - l) ≡ 32 = levels_all l h in
    let slot : j * 2 ^ (5 - l) < 2 ^ l * 2 ^ (5 - l) = mul-lt-mul_of_pos_right g (pow_pos (5 - l)) in
    let all : (2 ^ l + j) * 2 ^ (5 - l) ≡ 2 ^ l * 2 ^ (5 - l) + j * 2 ^ (5 - l) = add-mul (2 ^ l) j (2 ^ (5 - l)) in
    record { level = h; zeros = zeros; moved = rw (up, next, all) (omega arith); inside = omega arith }

-- which each position has.
pub slot-found : (b : ℕ) (h : b < 31) → SlotOf b (placed b h).level (placed b h).index
slot-found b h = let p = placed b h in slot_of b p.level p.index (omega (arith, p.above-slots)) p.in_level p.is

-- ---- The slots of the positions with an entry.

-- The slots of those of them that are numbered below b are marked.
abbrev pub HeadsBelow : ℕ → ℕ → ℕ → Type 0
HeadsBelow entries b marked =
    (c l : ℕ) → c < 32 → l < 5 → c % 2 ^ (5 - l) ≡ 0 → position l (c / 2 ^ (5 - l)) < b → bit entries (position l (c / 2 ^ (5 - l))) ≡ true
    → bit marked c ≡ true

-- Positions with no entry are passed over.
pub heads_pass : (entries marked : ℕ) {b r : ℕ} → HeadsBelow entries b marked → NextBit entries b r → HeadsBelow entries r marked
heads_pass entries marked {b} all next c l within level begins below set =
    if_lt (λ _. bit marked c ≡ true) (position l (c / 2 ^ (5 - l))) b (λ lt. all c l within level begins lt set)
    (λ le. absurd (true≢false (sym set ∙ next.clear (position l (c / 2 ^ (5 - l))) le below)))

-- With the slot of position b, those numbered below b + 1 are marked.
pub heads-mark : (entries marked b s r : ℕ) → HeadsBelow entries b marked
    → ((l j : ℕ) → l < 5 → j < 2 ^ l → b ≡ position l j → s ≡ j * 2 ^ (5 - l)) → WithBit marked s r → HeadsBelow entries (b + 1) r
heads-mark entries marked b s r all slot with c l within level begins below set =
    with c within
    ∙ if_lt (λ _. (eqb c s || bit marked c) ≡ true) (position l (c / 2 ^ (5 - l))) b
    (λ lt. rw (all c l within level begins lt set) (or-true (eqb c s)))
    (λ le. rw (eq-eqb c s (here le)))
  where
    here : b ≤ position l (c / 2 ^ (5 - l)) → c ≡ s
    here le =
        let q : c / 2 ^ (5 - l) * 2 ^ (5 - l) + c % 2 ^ (5 - l) ≡ c = div-add-mod' c (2 ^ (5 - l)) in
        let e : s ≡ c / 2 ^ (5 - l) * 2 ^ (5 - l) = slot l (c / 2 ^ (5 - l)) level (index_in l c level within) (omega arith) in
        omega arith

-- After the 31 positions all are.
pub heads_all : (entries marked b : ℕ) → HeadsBelow entries b marked → 31 ≤ b → HeadSlots entries marked
heads_all entries marked b all last c l within level begins set =
    let one : position l (c / 2 ^ (5 - l)) < 31 = in_word l (c / 2 ^ (5 - l)) (omega arith) (index_in l c level within) in
    all c l within level begins (omega arith) set
