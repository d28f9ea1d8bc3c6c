-- The fold card: its rule, tested once over the whole table and carried to each byte; then the fold of the slots from the folds of their
-- bytes. Assumes nothing.
use mathlib.Core.Path.{◌≡◌, refl, sym, ap, ap₂, subst, ◌∙◌}
use mathlib.Core.Bool.{Bool, true, false, So, beq, ◌&&◌, ◌||◌, and-eq-true_iff, or-false}
use mathlib.Core.List.{List, [], ◌∷◌}
use Prim.Native.Nat.{ℕ, zero, suc, ◌+◌, ◌-◌, ◌*◌, ◌/◌, ◌%◌, ◌^◌, ◌≤◌, ◌<◌}
use native.Mathlib.Omega.{arith}
use lib.Dec.{ltb}
use lib.ListN.{length, get_or}
use lib.Seq.{ext_get_or}
use lib.Bits.{bit_or}
use borrow.Author.Tests.{ltb-true, lt-leb, le-leb}
use Rattle.words.specs.Bits.{bit}
use Rattle.words.specs.Rules.{fold_bit, Folded}
use Rattle.words.specs.Card.{pair_set, FoldedByte, Card}
use Rattle.words.proofs.BitLaws.{if_lt, if_eq, bit-or, bit_shr, bit_shl, bit_shl_low, bit-over, bit_cut, same_bits}

-- ---- the rule, by one test that antt computes

-- Does each bit of r below n say of its pair of x whether it is set?
abbrev tells : ℕ → ℕ → ℕ → Bool
tells zero x r = true
tells (suc n) x r = beq (bit r n) (pair_set x n) && tells n x r

-- Is each entry of a table the fold of its byte, the first of them that of x?
abbrev pub ruled : ℕ → List ℕ → Bool
ruled x [] = true
ruled x (r ∷ rs) = (ltb r (2 ^ 4) && tells 4 x r) && ruled (suc x) rs

same : (a b : Bool) → So (beq a b) → a ≡ b
same true true t = refl
same true false t = sym t
same false true t = t
same false false t = refl

tells_at : (n x r : ℕ) → So (tells n x r) → (k : ℕ) → k < n → bit r k ≡ pair_set x k
tells_at zero x r t k h = absurd (omega arith)
tells_at (suc n) x r t k h =
    let p = (and-eq-true_iff (beq (bit r n) (pair_set x n)) (tells n x r)).0 t in
    if_eq (λ _. bit r k ≡ pair_set x k) k n (λ e. ap (bit r) e ∙ same (bit r n) (pair_set x n) p.0 ∙ ap (pair_set x) (sym e))
    (λ e. tells_at n x r p.1 k (omega arith))

-- The entry i places behind that of x.
ruled_at : (x : ℕ) (rs : List ℕ) → So (ruled x rs) → (i : ℕ) → i < length rs → FoldedByte (x + i) (get_or rs i 0)
ruled_at x [] t i h = absurd (omega arith)
ruled_at x (r ∷ rs) t zero h =
    let p = (and-eq-true_iff (ltb r (2 ^ 4) && tells 4 x r) (ruled (suc x) rs)).0 t in
    let q = (and-eq-true_iff (ltb r (2 ^ 4)) (tells 4 x r)).0 p.0 in
    let e : x ≡ x + 0 = omega arith in
    subst (λ (y : ℕ). FoldedByte y r) e (record { four_bits = ltb-true r (2 ^ 4) q.0; pairs = tells_at 4 x r q.1 })
ruled_at x (r ∷ rs) t (suc i) h =
    let p = (and-eq-true_iff (ltb r (2 ^ 4) && tells 4 x r) (ruled (suc x) rs)).0 t in
    let e : suc x + i ≡ x + suc i = omega arith in
    subst (λ (y : ℕ). FoldedByte y (get_or rs i 0)) e (ruled_at (suc x) rs p.1 i (omega arith))

-- A table of 256 entries that passes the test is a card.
pub card_of : (folds : List ℕ) → length folds ≡ 256 → So (ruled 0 folds) → Card folds
card_of folds n t = record { size = n; entry = at }
  where
    at : (x : ℕ) → x < 256 → FoldedByte x (get_or folds x 0)
    at x h =
        let e : 0 + x ≡ x = omega arith in
        subst (λ (y : ℕ). FoldedByte y (get_or folds x 0)) e (ruled_at 0 folds t x (omega arith))

-- There is no second card.
pub one_card : {a b : List ℕ} → Card a → Card b → a ≡ b
one_card {a} {b} f g = ext_get_or 0 a b (f.size ∙ sym g.size) (λ x h. let small = f.size in at x (omega arith))
  where
    at : (x : ℕ) → x < 256 → get_or a x 0 ≡ get_or b x 0
    at x h =
        let p = f.entry x h in
        let q = g.entry x h in
        same_bits 4 p.four_bits q.four_bits (λ k l. p.pairs k l ∙ sym (q.pairs k l))

-- ---- the slots, byte by byte

-- p has a bit for each pair of x, set exactly when the pair is.
pub record Paired (x p : ℕ) : Type 0 where
  pub pair : (k : ℕ) → k < 32 → bit p k ≡ pair_set x k

-- Of one byte: its fold.
pub one_byte : {x r : ℕ} → x < 256 → FoldedByte x r → Paired x r
one_byte {x} {r} b f = record { pair = λ k h. if_lt (λ _. bit r k ≡ pair_set x k) k 4 (f.pairs k) (beyond k) }
  where
    beyond : (k : ℕ) → 4 ≤ k → bit r k ≡ pair_set x k
    beyond k l =
        bit-over 4 r k f.four_bits l ∙ sym (ap (λ (t : Bool). t && bit x (2 * k + 1)) (bit-over 8 x (2 * k) b (omega arith)))

-- Of a further byte, below those before it: its fold below theirs.
pub next-byte : {x y p r : ℕ} → y ≡ x / 2 ^ 8 → Paired y p → FoldedByte (x % 256) r → Paired x (bit_or (p * 2 ^ 4 % 2 ^ 32) r)
next-byte {x} {y} {p} {r} e g f =
    record { pair = λ k h. bit-or q r k ∙ if_lt (λ _. (bit q k || bit r k) ≡ pair_set x k) k 4 (low k h) (high k h) }
  where
    q : ℕ
    q = p * 2 ^ 4 % 2 ^ 32

    low : (k : ℕ) → k < 32 → k < 4 → (bit q k || bit r k) ≡ pair_set x k
    low k h l =
        ap₂ ◌||◌ (bit_shl_low 32 p 4 k l h) (f.pairs k l)
        ∙ ap₂ ◌&&◌ (bit_cut 8 x (2 * k) (omega arith)) (bit_cut 8 x (2 * k + 1) (omega arith))

    above : (i j : ℕ) → 8 + i ≡ j → bit y i ≡ bit x j
    above i j s = ap (λ (n : ℕ). bit n i) e ∙ bit_shr x 8 i ∙ ap (bit x) s

    high : (k : ℕ) → k < 32 → 4 ≤ k → (bit q k || bit r k) ≡ pair_set x k
    high k h l =
        ap₂ ◌||◌ (bit_shl 32 p 4 k l h ∙ g.pair (k - 4) (omega arith)) (bit-over 4 r k f.four_bits l)
        ∙ or-false (pair_set y (k - 4))
        ∙ ap₂ ◌&&◌ (above (2 * (k - 4)) (2 * k) (omega arith)) (above (2 * (k - 4) + 1) (2 * k + 1) (omega arith))

-- Of all slots, at the positions of level 4: the fold.
pub slots_folded : {x p : ℕ} → x < 2 ^ 32 → Paired x p → Folded 4 x (p * 2 ^ 15 % 2 ^ 32)
slots_folded {x} {p} b g k h =
    if_lt (λ _. bit (p * 2 ^ 15 % 2 ^ 32) k ≡ fold_bit 4 x k) k 15
    (λ l. bit_shl_low 32 p 15 k l h ∙ sym (ap (λ (t : Bool). t && ltb (k + 1) 32 && below) (lt-leb 16 (k + 1) (omega arith))))
    (λ l. let even : 2 * (k - 15) ≡ 2 * k + 1 - 31 = omega arith in
    let odd : 2 * (k - 15) + 1 ≡ 2 * k + 2 - 31 = omega arith in
    bit_shl 32 p 15 k l h ∙ g.pair (k - 15) (omega arith) ∙ ap₂ ◌&&◌ (ap (bit x) even) (ap (bit x) odd)
    ∙ if_lt (λ t. below ≡ (t && below)) (k + 1) 32 (λ m. refl)
    (λ m. ap (λ (t : Bool). t && bit x (2 * k + 2 - 31)) (bit-over 32 x (2 * k + 1 - 31) b (omega arith)))
    ∙ sym (ap (λ (t : Bool). t && ltb (k + 1) 32 && below) (le-leb 16 (k + 1) (omega arith))))
  where
    below : Bool
    below = bit x (2 * k + 1 - 31) && bit x (2 * k + 2 - 31)
