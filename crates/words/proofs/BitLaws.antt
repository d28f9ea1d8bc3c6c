-- The bits of what each operation on words gives, and that a word is its bits. Assumes nothing.
use mathlib.Core.Path.{◌≡◌, refl, sym, ap, ap₂, ◌∙◌}
use mathlib.Core.Bool.{Bool, true, false, true≢false, not, ◌&&◌, ◌||◌, and-true, and-false}
use Prim.Native.Nat.{ℕ, zero, suc, ◌+◌, ◌-◌, ◌*◌, ◌/◌, ◌%◌, ◌^◌, ◌≤◌, ◌<◌, min, max}
use mathlib.Core.Logic.{◌⊎◌, inl, inr}
use native.Mathlib.Nat.{pow-suc, one-mul, mod-eq_of_lt, div-lt_iff_lt-mul, le-div_iff_mul-le, div-le_self, eq-zero-or-pos, mod-lt, lt_of_lt_of_le, add-sub_of_le, mul-mod_left, div-eq_of_lt, mul_assoc}
use native.Mathlib.Omega.{arith}
use lib.Dec.{eqb, ltb, leb, lit<}
use lib.Arith.{digits_mod}
use lib.Pow.{pow_pos, pow-lt, pow_mono, pow-add, high, shr-shr, shl-shr, field, mod-mod-pow}
use lib.Count.{count_trailing_zeros, count_leading_zeros, leading_of_zero, leading_top, under}
use lib.Bits.{bit_and, bit_or, and_step, or_step, and_shr, or_shr, and_lt}
use borrow.Author.Tests.{ltb-true, ltb-false, leb-true, leb-false, eqb-true, eqb-false, eq-eqb, ne_eqb}
use Rattle.words.specs.Bits.{bit, NextBit, LastBit}

-- ---- a test by cases, with what it says

pub if_lt : (P : Bool → Type 0) (a b : ℕ) → (a < b → P true) → (b ≤ a → P false) → P (ltb a b)
if_lt P a b f g = go (ltb a b) refl
  where
    go : (t : Bool) → ltb a b ≡ t → P t
    go true e = f (ltb-true a b e)
    go false e = g (ltb-false a b e)

pub if_le : (P : Bool → Type 0) (a b : ℕ) → (a ≤ b → P true) → (b < a → P false) → P (leb a b)
if_le P a b f g = go (leb a b) refl
  where
    go : (t : Bool) → leb a b ≡ t → P t
    go true e = f (leb-true a b e)
    go false e = g (leb-false a b e)

pub if_eq : (P : Bool → Type 0) (a b : ℕ) → (a ≡ b → P true) → ((a ≡ b → ⊥) → P false) → P (eqb a b)
if_eq P a b f g = go (eqb a b) refl
  where
    go : (t : Bool) → eqb a b ≡ t → P t
    go true e = f (eqb-true a b e)
    go false e = g (eqb-false a b e)

-- ---- one shifted by less than 64 places is a power of two

pub one_shl : (k : ℕ) → k < 64 → 1 * 2 ^ k % 2 ^ 64 ≡ 2 ^ k
one_shl k h = ap (λ (n : ℕ). n % 2 ^ 64) (one-mul (2 ^ k)) ∙ mod-eq_of_lt (pow-lt h)

-- ---- digits, 0 or 1, and the Bools that bits are

-- The digit of 2 ^ k in x.
abbrev digit : ℕ → ℕ → ℕ
digit x k = x / 2 ^ k % 2

digit_lt : (x k : ℕ) → digit x k < 2
digit_lt x k = mod-lt (x / 2 ^ k) (lit< tt)

test_min : (p q : ℕ) → p < 2 → q < 2 → eqb (min p q) 1 ≡ (eqb p 1 && eqb q 1)
test_min zero zero h g = refl
test_min zero (suc zero) h g = refl
test_min (suc zero) zero h g = refl
test_min (suc zero) (suc zero) h g = refl
test_min (suc (suc p)) q h g = absurd (omega arith)
test_min zero (suc (suc q)) h g = absurd (omega arith)
test_min (suc zero) (suc (suc q)) h g = absurd (omega arith)

test_max : (p q : ℕ) → p < 2 → q < 2 → eqb (max p q) 1 ≡ (eqb p 1 || eqb q 1)
test_max zero zero h g = refl
test_max zero (suc zero) h g = refl
test_max (suc zero) zero h g = refl
test_max (suc zero) (suc zero) h g = refl
test_max (suc (suc p)) q h g = absurd (omega arith)
test_max zero (suc (suc q)) h g = absurd (omega arith)
test_max (suc zero) (suc (suc q)) h g = absurd (omega arith)

test_not : (p : ℕ) → p < 2 → eqb (1 - p) 1 ≡ not (eqb p 1)
test_not zero h = refl
test_not (suc zero) h = refl
test_not (suc (suc p)) h = absurd (omega arith)

test_same : (p q : ℕ) → p < 2 → q < 2 → eqb p 1 ≡ eqb q 1 → p ≡ q
test_same zero zero h g e = refl
test_same zero (suc zero) h g e = let z : false ≡ true = e in let n : ◌≡◌ {A = ℕ} 0 1 = cc in n
test_same (suc zero) zero h g e = let z : true ≡ false = e in let n : ◌≡◌ {A = ℕ} 1 0 = cc in n
test_same (suc zero) (suc zero) h g e = refl
test_same (suc (suc p)) q h g e = absurd (omega arith)
test_same zero (suc (suc q)) h g e = absurd (omega arith)
test_same (suc zero) (suc (suc q)) h g e = absurd (omega arith)

-- Equal bits are equal digits.
pub same_digit : (x k y i : ℕ) → bit x k ≡ bit y i → x / 2 ^ k % 2 ≡ y / 2 ^ i % 2
unfolding bit
same_digit x k y i e = test_same (digit x k) (digit y i) (digit_lt x k) (digit_lt y i) e

-- ---- a bit of each operation

-- The bits of zero.
pub bit-zero : (k : ℕ) → bit 0 k ≡ false
unfolding bit
bit-zero k = ap (λ (n : ℕ). eqb (n % 2) 1) (div-eq_of_lt (pow_pos k))

-- The bits of `a & b`.
pub bit-and : (a b k : ℕ) → bit (bit_and a b) k ≡ (bit a k && bit b k)
unfolding bit
bit-and a b k =
    ap (λ (n : ℕ). eqb n 1)
    (ap (λ (n : ℕ). n % 2) (and_shr a b k ∙ and_step (a / 2 ^ k) (b / 2 ^ k))
    ∙ digits_mod (bit_and (a / 2 ^ k / 2) (b / 2 ^ k / 2)) (let p : digit a k < 2 = digit_lt a k in let q : digit b k < 2 = digit_lt b k in omega arith))
    ∙ test_min (digit a k) (digit b k) (digit_lt a k) (digit_lt b k)

-- The bits of `a | b`.
pub bit-or : (a b k : ℕ) → bit (bit_or a b) k ≡ (bit a k || bit b k)
unfolding bit
bit-or a b k =
    ap (λ (n : ℕ). eqb n 1)
    (ap (λ (n : ℕ). n % 2) (or_shr a b k ∙ or_step (a / 2 ^ k) (b / 2 ^ k))
    ∙ digits_mod (bit_or (a / 2 ^ k / 2) (b / 2 ^ k / 2)) (let p : digit a k < 2 = digit_lt a k in let q : digit b k < 2 = digit_lt b k in omega arith))
    ∙ test_max (digit a k) (digit b k) (digit_lt a k) (digit_lt b k)

-- Where `a | b` has a bit clear, neither has it.
pub neither : (a b k : ℕ) → bit (bit_or a b) k ≡ false → (bit a k ≡ false) × (bit b k ≡ false)
neither a b k e = go (bit a k) (bit b k) (sym (bit-or a b k) ∙ e)
  where
    go : (s t : Bool) → (s || t) ≡ false → (s ≡ false) × (t ≡ false)
    go true t z = absurd (true≢false z)
    go false t z = (refl, z)

-- The bits of `x >> j`.
pub bit_shr : (x j k : ℕ) → bit (x / 2 ^ j) k ≡ bit x (j + k)
unfolding bit
bit_shr x j k = ap (λ (n : ℕ). eqb (n % 2) 1) (shr-shr x j k)

-- Past the lowest bit stand those of the half.
pub bit_half : (x k : ℕ) → bit x (suc k) ≡ bit (x / 2) k
bit_half x k = let e : suc k ≡ 1 + k = omega arith in ap (bit x) e ∙ sym (bit_shr x 1 k)

-- Past its width a word has no bit.
pub bit-over : (w x k : ℕ) → x < 2 ^ w → w ≤ k → bit x k ≡ false
unfolding bit
bit-over w x k h l = ap (λ (n : ℕ). eqb (n % 2) 1) (div-eq_of_lt (lt_of_lt_of_le h (pow_mono l)))

-- What is past w bits and cut off does not reach bit k below w.
pub bit_cut : (w n k : ℕ) → k < w → bit (n % 2 ^ w) k ≡ bit n k
unfolding bit
bit_cut w n k l =
    let e : w - suc k + 1 + k ≡ w = omega arith in
    ap (λ (m : ℕ). eqb m 1)
    (ap (λ (v : ℕ). n % 2 ^ v / 2 ^ k % 2) (sym e) ∙ ap (λ (m : ℕ). m % 2) (field n (w - suc k + 1) k) ∙ mod-mod-pow (n / 2 ^ k) (w - suc k) 1)

-- The bits of `x << j`, from j on.
pub bit_shl : (w x j k : ℕ) → j ≤ k → k < w → bit (x * 2 ^ j % 2 ^ w) k ≡ bit x (k - j)
bit_shl w x j k h l =
    bit_cut w (x * 2 ^ j) k l
    ∙ ap (λ (m : ℕ). bit (x * 2 ^ j) m) (sym (add-sub_of_le h))
    ∙ sym (bit_shr (x * 2 ^ j) j (k - j)) ∙ ap (λ (m : ℕ). bit m (k - j)) (shl-shr x j)

-- The bits of `x << j`, below j.
pub bit_shl_low : (w x j k : ℕ) → k < j → k < w → bit (x * 2 ^ j % 2 ^ w) k ≡ false
unfolding bit
bit_shl_low w x j k h l =
    let e : j - suc k + 1 + k ≡ j = omega arith in
    bit_cut w (x * 2 ^ j) k l
    ∙ ap (λ (m : ℕ). bit (x * 2 ^ m) k) (sym e)
    ∙ ap (λ (m : ℕ). bit (x * m) k) (pow-add 2 (j - suc k + 1) k)
    ∙ ap (λ (m : ℕ). bit m k) (sym (mul_assoc x (2 ^ (j - suc k + 1)) (2 ^ k)))
    ∙ ap (λ (m : ℕ). eqb (m % 2) 1)
    (shl-shr (x * 2 ^ (j - suc k + 1)) k
    ∙ ap (λ (m : ℕ). x * m) (pow-add 2 (j - suc k) 1)
    ∙ sym (mul_assoc x (2 ^ (j - suc k)) 2))
    ∙ ap (λ (m : ℕ). eqb m 1) (mul-mod_left (x * 2 ^ (j - suc k)) 2)

-- The bits of `!x`.
pub bit_not : (w x k : ℕ) → x < 2 ^ w → k < w → bit ((2 ^ w - 1) - x) k ≡ not (bit x k)
unfolding bit
bit_not zero x k h l = absurd (omega arith)
bit_not (suc w) x zero h l =
    let e : ((2 ^ suc w - 1) - x) / 1 % 2 ≡ 1 - x / 1 % 2 = omega (arith, pow-suc 2 w) in
    ap (λ (n : ℕ). eqb n 1) e ∙ test_not (digit x 0) (digit_lt x 0)
bit_not (suc w) x (suc k) h l =
    let g : x / 2 < 2 ^ w = omega (arith, pow-suc 2 w) in
    let e : ((2 ^ suc w - 1) - x) / 2 ≡ (2 ^ w - 1) - x / 2 = omega (arith, pow-suc 2 w) in
    bit_half ((2 ^ suc w - 1) - x) k ∙ ap (λ (n : ℕ). bit n k) e ∙ bit_not w (x / 2) k g (omega arith) ∙ ap not (sym (bit_half x k))

-- The bits of `1 << k`.
pub bit_one : (w k i : ℕ) → k < w → i < w → bit (1 * 2 ^ k % 2 ^ w) i ≡ eqb i k
unfolding bit
bit_one w k i h l = if_le (λ _. bit (1 * 2 ^ k % 2 ^ w) i ≡ eqb i k) k i
    (λ m. bit_shl w 1 k i m l
    ∙ if_eq (λ t. bit 1 (i - k) ≡ t) i k
    (λ e. let z : i - k ≡ 0 = omega arith in ap (bit 1) z)
    (λ e. bit-over 1 1 (i - k) (lit< tt) (omega arith)))
    (λ m. bit_shl_low w 1 k i m l ∙ sym (ne_eqb i k (λ e. omega arith)))

-- ---- a word is its bits

-- Two words of n bits that agree bit by bit are equal: so a rule for each bit has one answer.
pub same_bits : (n : ℕ) {x y : ℕ} → x < 2 ^ n → y < 2 ^ n → ((k : ℕ) → k < n → bit x k ≡ bit y k) → x ≡ y
same_bits zero h g e = omega arith
same_bits (suc n) {x} {y} h g e =
    let p : x < 2 ^ n * 2 = rw pow-suc at h in
    let q : y < 2 ^ n * 2 = rw pow-suc at g in
    let t : x / 2 ≡ y / 2 = same_bits n ((div-lt_iff_lt-mul (lit< tt)).1 p) ((div-lt_iff_lt-mul (lit< tt)).1 q)
    (λ k l. bit_shr x 1 k ∙ e (1 + k) (omega arith) ∙ sym (bit_shr y 1 k)) in
    let b : x / 1 % 2 ≡ y / 1 % 2 = same_digit x 0 y 0 (e 0 (omega arith)) in
    omega arith

-- A word of w + 1 bits with bit w clear is below 2 ^ w. (The other way round it is `bit-over w x w`.)
pub top-clear : (w x : ℕ) → x < 2 ^ suc w → bit x w ≡ false → x < 2 ^ w
unfolding bit
top-clear w x h e = go (ltb x (2 ^ w)) refl
  where
    one : 2 ^ w ≤ x → x / 2 ^ w ≡ 1
    one l =
        let g : x - 2 ^ w < 2 ^ w = omega (arith, pow-suc 2 w) in
        let q : 1 * 2 ^ w + (x - 2 ^ w) ≡ x = omega arith in
        ap (λ (n : ℕ). n / 2 ^ w) (sym q) ∙ high 1 w g

    go : (t : Bool) → ltb x (2 ^ w) ≡ t → x < 2 ^ w
    go true q = ltb-true x (2 ^ w) q
    go false q = absurd (true≢false (sym (ap (λ (n : ℕ). eqb (n % 2) 1) (one (ltb-false x (2 ^ w) q))) ∙ e))

-- The test `x & (1 << k) != 0` reads bit k.
pub bit_test : (w x k : ℕ) → x < 2 ^ w → k < w → not (eqb (bit_and x (1 * 2 ^ k % 2 ^ w)) 0) ≡ bit x k
bit_test w x k h l = go (bit x k) refl
  where
    at : (i : ℕ) → i < w → bit (bit_and x (1 * 2 ^ k % 2 ^ w)) i ≡ (bit x i && eqb i k)
    at i b = bit-and x (1 * 2 ^ k % 2 ^ w) i ∙ ap (λ (t : Bool). bit x i && t) (bit_one w k i l b)

    none : bit x k ≡ false → (i : ℕ) → i < w → bit (bit_and x (1 * 2 ^ k % 2 ^ w)) i ≡ bit 0 i
    none e i b =
        at i b
        ∙ if_eq (λ t. (bit x i && t) ≡ false) i k (λ q. and-true (bit x i) ∙ ap (bit x) q ∙ e) (λ q. and-false (bit x i))
        ∙ sym (bit-zero i)

    go : (t : Bool) → bit x k ≡ t → not (eqb (bit_and x (1 * 2 ^ k % 2 ^ w)) 0) ≡ t
    go true e =
        ap not
        (ne_eqb (bit_and x (1 * 2 ^ k % 2 ^ w)) 0
        (λ q. true≢false (sym (at k l ∙ ap₂ ◌&&◌ e (eq-eqb k k refl)) ∙ ap (λ (n : ℕ). bit n k) q ∙ bit-zero k)))
    go false e =
        ap not
        (eq-eqb (bit_and x (1 * 2 ^ k % 2 ^ w)) 0
        (same_bits w (and_lt w x (1 * 2 ^ k % 2 ^ w) h (mod-lt (1 * 2 ^ k) (pow_pos w))) (pow_pos w) (none e)))

-- ---- the lowest set bit

-- Bit k is the lowest set bit of x, a word of w bits: it is set, and none below it.
pub record LowestBit (w x k : ℕ) : Type 0 where
  pub inside : k < w
  pub is_set : bit x k ≡ true
  pub clear : (i : ℕ) → i < k → bit x i ≡ false

-- The zeros below it are what `trailing_zeros` counts, in a word that is not 0.
pub trailing_lowest : (w x : ℕ) → 0 < x → x < 2 ^ w → LowestBit w x (count_trailing_zeros w x)
unfolding count_trailing_zeros bit
trailing_lowest zero x p h = absurd (omega arith)
trailing_lowest (suc w) x p h = go (x % 2) refl (λ (q : 0 < x / 2). trailing_lowest w (x / 2) q (omega (arith, pow-suc 2 w)))
  where
    low : (r : ℕ) → x % 2 ≡ r → bit x 0 ≡ eqb r 1
    low r e = let z : x / 1 % 2 ≡ r = omega arith in ap (λ (n : ℕ). eqb n 1) z

    go : (r : ℕ) → x % 2 ≡ r → (0 < x / 2 → LowestBit w (x / 2) (count_trailing_zeros w (x / 2))) → LowestBit (suc w) x (under r (count_trailing_zeros w (x / 2)))
    go zero e rest =
        let half : LowestBit w (x / 2) (count_trailing_zeros w (x / 2)) = rest (omega arith) in
        record { inside = omega (arith, half.inside); is_set = bit_half x (count_trailing_zeros w (x / 2)) ∙ half.is_set; clear = below half }
      where
        below : LowestBit w (x / 2) (count_trailing_zeros w (x / 2)) → (i : ℕ) → i < suc (count_trailing_zeros w (x / 2)) → bit x i ≡ false
        below half zero l = low 0 e
        below half (suc i) l = bit_half x i ∙ half.clear i (omega arith)
    go (suc r) e rest =
        let one : x % 2 ≡ 1 = omega arith in
        record { inside = omega arith; is_set = low 1 one; clear = λ i l. absurd (omega arith) }

-- Of the bits that x has set, `x - 1` has all but the lowest,
bit_less : (w x k : ℕ) → 0 < x → x < 2 ^ w → bit x k ≡ true → bit (x - 1) k ≡ not (eqb k (count_trailing_zeros w x))
unfolding count_trailing_zeros bit
bit_less zero x k p h e = absurd (omega arith)
bit_less (suc w) x k p h e = go (x % 2) refl k e (λ (q : 0 < x / 2) (j : ℕ). bit_less w (x / 2) j q (omega (arith, pow-suc 2 w)))
  where
    t₀ : ℕ
    t₀ = count_trailing_zeros w (x / 2)

    go : (r : ℕ) → x % 2 ≡ r → (k : ℕ) → bit x k ≡ true
        → (0 < x / 2 → (j : ℕ) → bit (x / 2) j ≡ true → bit (x / 2 - 1) j ≡ not (eqb j (count_trailing_zeros w (x / 2))))
        → bit (x - 1) k ≡ not (eqb k (under r (count_trailing_zeros w (x / 2))))
    go zero e zero b rest =
        let z : x / 1 % 2 ≡ 0 = omega arith in
        absurd (true≢false (sym b ∙ ap (λ (n : ℕ). eqb n 1) z))
    go zero e (suc k) b rest =
        let half : (x - 1) / 2 ≡ x / 2 - 1 = omega arith in
        bit_half (x - 1) k ∙ ap (λ (n : ℕ). bit n k) half ∙ rest (omega arith) k (sym (bit_half x k) ∙ b)
        ∙ ap not (if_eq (λ t. t ≡ eqb (suc k) (suc t₀)) k t₀ (λ q. sym (eq-eqb (suc k) (suc t₀) (ap suc q))) (λ q. sym (ne_eqb (suc k) (suc t₀) (λ z. q (omega arith)))))
    go (suc r) e zero b rest = let z : (x - 1) / 1 % 2 ≡ 0 = omega arith in ap (λ (n : ℕ). eqb n 1) z
    go (suc r) e (suc k) b rest =
        let half : (x - 1) / 2 ≡ x / 2 = omega arith in
        bit_half (x - 1) k ∙ ap (λ (n : ℕ). bit n k) half ∙ sym (bit_half x k) ∙ b
        ∙ sym (ap not (ne_eqb (suc k) 0 (λ z. omega arith)))

-- so `x & (x - 1)` is x without it.
pub bit_dropped : (w x k : ℕ) → 0 < x → x < 2 ^ w → bit (bit_and x (x - 1)) k ≡ (bit x k && not (eqb k (count_trailing_zeros w x)))
bit_dropped w x k p h = bit-and x (x - 1) k ∙ go (bit x k) refl
  where
    go : (b : Bool) → bit x k ≡ b → (b && bit (x - 1) k) ≡ (b && not (eqb k (count_trailing_zeros w x)))
    go true e = bit_less w x k p h e
    go false e = refl

-- ---- the next set bit, and the last

-- The bits of x from k on are those of `x >> k`.
bit_from : (x k i : ℕ) → k ≤ i → bit x i ≡ bit (x / 2 ^ k) (i - k)
bit_from x k i l = ap (bit x) (sym (add-sub_of_le l)) ∙ sym (bit_shr x k (i - k))

-- Where that is 0 there is no next bit.
pub next_none : (x k : ℕ) → k ≤ 32 → x / 2 ^ k ≡ 0 → NextBit x k 32
next_none x k l e =
    record {
      low = l;
      high = omega arith;
      clear = λ i a b. bit_from x k i a ∙ ap (λ (n : ℕ). bit n (i - k)) e ∙ bit-zero (i - k);
      is_set = λ h. absurd (omega arith);
    }

-- Else it stands past the trailing zeros of that.
pub next-found : (x k : ℕ) → x < 2 ^ 32 → 0 < x / 2 ^ k → NextBit x k (k + count_trailing_zeros 32 (x / 2 ^ k))
next-found x k h p =
    let t : ℕ = count_trailing_zeros 32 (x / 2 ^ k) in
    let lowest : LowestBit 32 (x / 2 ^ k) t = trailing_lowest 32 (x / 2 ^ k) p (omega (arith, div-le_self x (2 ^ k))) in
    let there : bit x (k + t) ≡ true = sym (bit_shr x k t) ∙ lowest.is_set in
    record {
      low = omega arith;
      high = if_lt (λ b. k + t ≤ 32) (k + t) 32 (λ l. omega arith) (λ g. absurd (true≢false (sym there ∙ bit-over 32 x (k + t) h g)));
      clear = λ i a b. bit_from x k i a ∙ lowest.clear (i - k) (omega arith);
      is_set = λ l. there;
    }

-- The highest set bit.
bit_highest : (x j : ℕ) → 2 ^ j ≤ x → x < 2 ^ suc j → bit x j ≡ true
unfolding bit
bit_highest x j a b =
    let low : 1 ≤ x / 2 ^ j = (le-div_iff_mul-le (pow_pos j)).1 (omega arith) in
    let high : x / 2 ^ j < 2 = (div-lt_iff_lt-mul (pow_pos j)).1 (omega (arith, pow-suc 2 j)) in
    eq-eqb (x / 2 ^ j % 2) 1 (omega arith)

-- The last set bit below k is the highest of the k lowest, which stands below the leading zeros of these.
pub last_found : (x k : ℕ) → k ≤ 32 → LastBit x k (64 - count_leading_zeros 64 (x % 2 ^ k))
last_found x k l = go (eq-zero-or-pos (x % 2 ^ k))
  where
    low : x % 2 ^ k < 2 ^ k
    low = mod-lt x (pow_pos k)

    go : (x % 2 ^ k ≡ 0) ⊎ (0 < x % 2 ^ k) → LastBit x k (64 - count_leading_zeros 64 (x % 2 ^ k))
    go (inl e) =
        let none : count_leading_zeros 64 (x % 2 ^ k) ≡ 64 = ap (count_leading_zeros 64) e ∙ leading_of_zero 64 in
        record {
          high = omega arith;
          clear = λ i a b. sym (bit_cut k x i b) ∙ ap (λ (n : ℕ). bit n i) e ∙ bit-zero i;
          is_set = λ p. absurd (omega arith);
        }
    go (inr p) =
        let top = leading_top 64 (x % 2 ^ k) p (lt_of_lt_of_le low (pow_mono {j = 64} (omega arith))) in
        let j : ℕ = top.0 in
        let past : 64 - count_leading_zeros 64 (x % 2 ^ k) ≡ suc j = omega (arith, top.1) in
        let below : j < k = if_lt (λ b. j < k) j k (λ h. h) (λ g. absurd (omega (arith, pow_mono g, top.2, low))) in
        let last : 64 - count_leading_zeros 64 (x % 2 ^ k) - 1 ≡ j = omega arith in
        record {
          high = omega arith;
          clear = λ i a b. sym (bit_cut k x i b) ∙ bit-over (suc j) (x % 2 ^ k) i top.3 (omega arith);
          is_set = λ h. ap (bit x) last ∙ sym (bit_cut k x j below) ∙ bit_highest (x % 2 ^ k) j top.2 top.3;
        }
