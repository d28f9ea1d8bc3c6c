-- Ladders of and, or, shift and mask steps on one 32-bit word: what bit k of the result is, as a formula over the input's bits, is computed,
-- and one law (`bits`) says that the formula is right. Then the rules of the folds and pushes, once over the level (`folded`, `pushed`).
-- Assumes nothing.
use mathlib.Core.Path.{◌≡◌, refl, sym, ap, ap₂, ◌∙◌}
use mathlib.Core.Bool.{Bool, true, false, ◌&&◌, ◌||◌, and-true, or-false, and_assoc, or_assoc, and-or_distrib_left, and-or_distrib_right, and_comm}
use mathlib.Core.List.{List, [], ◌∷◌, ◌++◌}
use Prim.Native.Nat.{ℕ, zero, suc, ◌+◌, ◌-◌, ◌*◌, ◌/◌, ◌%◌, ◌^◌, ◌<◌}
use native.Mathlib.Nat.{mod-lt}
use native.Mathlib.Omega.{arith}
use lib.Dec.{ltb, leb, eqb}
use lib.Pow.{pow_pos}
use lib.Bits.{bit_and, bit_or}
use Rattle.words.specs.Bits.{bit}
use Rattle.words.specs.Positions.{at_level, first}
use Rattle.words.specs.Rules.{push_bit, Folded, Pushed, PushedSlots}
use Rattle.words.proofs.BitLaws.{if_lt, if_le, if_eq, bit-and, bit-or, bit_shr, bit-over, bit_shl, bit_shl_low}

infixl 60 ◌&◌
infixl 50 ◌∣◌
infixl 70 ◌>>◌
infixl 70 ◌<<◌
infixl 60 ◌mask◌
-- ---- formulas: an `or` of `and`s of input bits

-- A formula: some list of it has all its bits set.
abbrev Formula : Type 0
Formula = List (List ℕ)

abbrev all_of : ℕ → List ℕ → Bool
all_of x [] = true
all_of x (i ∷ is) = bit x i && all_of x is

-- What the formula says of x.
abbrev any_of : ℕ → Formula → Bool
any_of x [] = false
any_of x (c ∷ cs) = all_of x c || any_of x cs

abbrev with_each : List ℕ → Formula → Formula
with_each c [] = []
with_each c (d ∷ ds) = (c ++ d) ∷ with_each c ds

abbrev and_f : Formula → Formula → Formula
and_f [] g = []
and_f (c ∷ cs) g = with_each c g ++ and_f cs g

all_append : (x : ℕ) (c d : List ℕ) → all_of x (c ++ d) ≡ (all_of x c && all_of x d)
all_append x [] d = refl
all_append x (i ∷ c) d = ap (λ (b : Bool). bit x i && b) (all_append x c d) ∙ sym (and_assoc (bit x i) (all_of x c) (all_of x d))

any_append : (x : ℕ) (f g : Formula) → any_of x (f ++ g) ≡ (any_of x f || any_of x g)
any_append x [] g = refl
any_append x (c ∷ f) g = ap (λ (b : Bool). all_of x c || b) (any_append x f g) ∙ sym (or_assoc (all_of x c) (any_of x f) (any_of x g))

any_with : (x : ℕ) (c : List ℕ) (g : Formula) → any_of x (with_each c g) ≡ (all_of x c && any_of x g)
any_with x c [] = and_comm false (all_of x c)
any_with x c (d ∷ g) = ap₂ ◌||◌ (all_append x c d) (any_with x c g) ∙ sym (and-or_distrib_left (all_of x c) (all_of x d) (any_of x g))

any_and : (x : ℕ) (f g : Formula) → any_of x (and_f f g) ≡ (any_of x f && any_of x g)
any_and x [] g = refl
any_and x (c ∷ f) g =
    any_append x (with_each c g) (and_f f g) ∙ ap₂ ◌||◌ (any_with x c g) (any_and x f g)
    ∙ sym (and-or_distrib_right (all_of x c) (any_of x f) (any_of x g))

-- ---- ladders

-- A ladder on one word.
pub data Ladder : Type 0 where
  word : Ladder
  ◌&◌ ◌∣◌ : Ladder → Ladder → Ladder
  ◌>>◌ ◌<<◌ ◌mask◌ : Ladder → ℕ → Ladder

-- What the code computes.
abbrev pub run : Ladder → ℕ → ℕ
run word x = x
run (a & b) x = bit_and (run a x) (run b x)
run (a ∣ b) x = bit_or (run a x) (run b x)
run (a >> j) x = run a x / 2 ^ j
run (a << j) x = run a x * 2 ^ j % 2 ^ 32
run (a mask m) x = bit_and (run a x) m

-- The steps that the folds and pushes are made of: adjacent pairs, closing up, spreading out, and doubling.
abbrev pub pair : Ladder → ℕ → Ladder
pair s m = (s & (s >> 1)) mask m

abbrev pub down : Ladder → ℕ → ℕ → Ladder
down p j m = (p ∣ (p >> j)) mask m

abbrev pub up : Ladder → ℕ → ℕ → Ladder
up p j m = (p ∣ (p << j)) mask m

abbrev pub twice : Ladder → Ladder
twice p = p ∣ (p << 1)

abbrev pick : Bool → Formula → Formula
pick true f = f
pick false f = []

-- Bit k of that, as a formula.
abbrev formula : Ladder → ℕ → Formula
formula word k = pick (ltb k 32) ((k ∷ []) ∷ [])
formula (a & b) k = and_f (formula a k) (formula b k)
formula (a ∣ b) k = formula a k ++ formula b k
formula (a >> j) k = formula a (j + k)
formula (a << j) k = pick (ltb k 32) (pick (leb j k) (formula a (k - j)))
formula (a mask m) k = pick (eqb (m / 2 ^ k % 2) 1) (formula a k)

-- A formula under a test.
picked : (x : ℕ) (t : Bool) (f : Formula) → any_of x (pick t f) ≡ (t && any_of x f)
picked x true f = refl
picked x false f = refl

-- A formula of one bit.
single : (x i : ℕ) → any_of x ((i ∷ []) ∷ []) ≡ bit x i
single x i = or-false (bit x i && true) ∙ and-true (bit x i)

-- The formula is right, at every bit of every word.
pub bits : (e : Ladder) (x : ℕ) → x < 2 ^ 32 → (k : ℕ) → bit (run e x) k ≡ any_of x (formula e k)
unfolding bit
bits word x h k =
    if_lt (λ t. bit x k ≡ any_of x (pick t ((k ∷ []) ∷ []))) k 32 (λ l. sym (single x k)) (λ l. bit-over 32 x k h l)
bits (a & b) x h k =
    bit-and (run a x) (run b x) k ∙ ap₂ ◌&&◌ (bits a x h k) (bits b x h k) ∙ sym (any_and x (formula a k) (formula b k))
bits (a ∣ b) x h k =
    bit-or (run a x) (run b x) k ∙ ap₂ ◌||◌ (bits a x h k) (bits b x h k) ∙ sym (any_append x (formula a k) (formula b k))
bits (a >> j) x h k = bit_shr (run a x) j k ∙ bits a x h (j + k)
bits (a << j) x h k =
    if_lt (λ t. bit (run a x * 2 ^ j % 2 ^ 32) k ≡ any_of x (pick t (pick (leb j k) (formula a (k - j))))) k 32
    (λ l. if_le (λ t. bit (run a x * 2 ^ j % 2 ^ 32) k ≡ any_of x (pick t (formula a (k - j)))) j k
    (λ m. bit_shl 32 (run a x) j k m l ∙ bits a x h (k - j))
    (λ m. bit_shl_low 32 (run a x) j k m l))
    (λ l. bit-over 32 (run a x * 2 ^ j % 2 ^ 32) k (mod-lt (run a x * 2 ^ j) (pow_pos 32)) l)
bits (a mask m) x h k =
    bit-and (run a x) m k ∙ and_comm (bit (run a x) k) (bit m k) ∙ ap (λ (t : Bool). bit m k && t) (bits a x h k)
    ∙ sym (picked x (bit m k) (formula a k))

-- ---- the 32 bits by one test that antt computes

abbrev pub tab : ℕ → (ℕ → Formula) → List Formula
tab zero f = []
tab (suc n) f = f n ∷ tab n f

abbrev head_of : List Formula → Formula
head_of [] = []
head_of (f ∷ fs) = f

abbrev rest_of : List Formula → List Formula
rest_of [] = []
rest_of (f ∷ fs) = fs

tab_at : (n : ℕ) (f g : ℕ → Formula) → tab n f ≡ tab n g → (k : ℕ) → k < n → f k ≡ g k
tab_at zero f g e k h = absurd (omega arith)
tab_at (suc n) f g e k h =
    if_eq (λ _. f k ≡ g k) k n (λ q. ap f q ∙ ap head_of e ∙ ap g (sym q)) (λ q. tab_at n f g (ap rest_of e) k (omega arith))

-- ---- the rules, once over the level, as formulas

abbrev pub fold_rule : ℕ → ℕ → Formula
fold_rule l k = pick (at_level l k) (((2 * k + 1 - first (l + 1)) ∷ (2 * k + 2 - first (l + 1)) ∷ []) ∷ [])

abbrev pub push_rule : ℕ → ℕ → Formula
push_rule l k = pick (at_level (l + 1) (k + first (l + 1))) ((((k + first (l + 1) - 1) / 2) ∷ []) ∷ [])

-- Bit 31 strays into slots 16 and 17.
abbrev pub slot_rule : ℕ → Formula
slot_rule k = pick (eqb (k / 2) 8) ((31 ∷ []) ∷ []) ++ push_rule 4 k

one_push : (x l k : ℕ) → any_of x (push_rule l k) ≡ push_bit l x k
one_push x l k =
    picked x (at_level (l + 1) (k + first (l + 1))) ((((k + first (l + 1) - 1) / 2) ∷ []) ∷ [])
    ∙ ap (λ (b : Bool). at_level (l + 1) (k + first (l + 1)) && b) (single x ((k + first (l + 1) - 1) / 2))

-- A ladder whose 32 formulas are those of the fold into level l is that fold, on every word.
pub folded : (l : ℕ) (e : Ladder) → tab 32 (formula e) ≡ tab 32 (fold_rule l) → (x : ℕ) → x < 2 ^ 32 → Folded l x (run e x)
folded l e t x h k b =
    let i : ℕ = 2 * k + 1 - first (l + 1) in
    let j : ℕ = 2 * k + 2 - first (l + 1) in
    bits e x h k ∙ ap (any_of x) (tab_at 32 (formula e) (fold_rule l) t k b)
    ∙ picked x (at_level l k) ((i ∷ j ∷ []) ∷ [])
    ∙ ap (λ (s : Bool). at_level l k && s) (or-false (bit x i && (bit x j && true)) ∙ ap (λ (s : Bool). bit x i && s) (and-true (bit x j)))

-- A ladder whose 32 formulas are those of the push out of level l is that push, on every word.
pub pushed : (l : ℕ) (e : Ladder) → tab 32 (formula e) ≡ tab 32 (push_rule l) → (x : ℕ) → x < 2 ^ 32 → Pushed l x (run e x)
pushed l e t x h k b = bits e x h k ∙ ap (any_of x) (tab_at 32 (formula e) (push_rule l) t k b) ∙ one_push x l k

-- The same for the push into the slots.
pub pushed-slots : (e : Ladder) → tab 32 (formula e) ≡ tab 32 slot_rule → (x : ℕ) → x < 2 ^ 32 → PushedSlots x (run e x)
pushed-slots e t x h k b =
    bits e x h k ∙ ap (any_of x) (tab_at 32 (formula e) slot_rule t k b)
    ∙ any_append x (pick (eqb (k / 2) 8) ((31 ∷ []) ∷ [])) (push_rule 4 k)
    ∙ ap₂ ◌||◌ (picked x (eqb (k / 2) 8) ((31 ∷ []) ∷ []) ∙ ap (λ (s : Bool). eqb (k / 2) 8 && s) (single x 31)) (one_push x 4 k)
