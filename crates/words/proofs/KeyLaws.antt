-- Keys over the width w of an address: the start of a prefix, its host bits, what it contains and the order of addresses are those of their keys. Assumes nothing.
use mathlib.Core.Path.{◌≡◌, refl, sym, ap, ◌∙◌}
use mathlib.Core.Bool.{Bool, true, false, ◌||◌, ◌&&◌}
use Prim.Native.Nat.{ℕ, ◌+◌, ◌-◌, ◌*◌, ◌/◌, ◌%◌, ◌^◌, ◌≤◌, ◌<◌}
use native.Mathlib.Nat.{add-mul, mul_assoc, mul-div-mul_right, mul-lt-mul_of_pos_right, mul-le-mul_right, eq_of_mul-eq-mul_right}
use native.Mathlib.Decide.{dec_le}
use native.Mathlib.Omega.{arith}
use lib.Dec.{eqb, ltb}
use lib.Pow.{pow_pos, pow-add, shl-shr, split}
use borrow.Author.Tests.{ltb-true, ltb-false, lt-ltb, le-ltb}
use Rattle.theory.specs.Results.{start_of}
use Rattle.words.specs.Prefix.{agree, host_clear}
use Rattle.words.specs.Keys.{key_of}
use Rattle.words.proofs.PrefixLaws.{same_test, start-agree}

-- ---- The start of a prefix.
-- Zeros behind an address stay behind the start of its prefix;
start_shifted : (n s a : ℕ) → start_of (n + s) (a * 2 ^ s) ≡ start_of n a * 2 ^ s
start_shifted n s a =
    ap (λ (p : ℕ). a * 2 ^ s / p * p) (pow-add 2 n s)
    ∙ ap (λ (q : ℕ). q * (2 ^ n * 2 ^ s)) (mul-div-mul_right a (2 ^ n) (pow_pos s))
    ∙ sym (mul_assoc (a / 2 ^ n) (2 ^ n) (2 ^ s))

-- a prefix that ends among them starts at the address.
start-behind : (m d a : ℕ) → start_of m (a * 2 ^ (d + m)) ≡ a * 2 ^ (d + m)
start-behind m d a =
    let e : a * 2 ^ (d + m) ≡ a * 2 ^ d * 2 ^ m = ap (λ (p : ℕ). a * p) (pow-add 2 d m) ∙ sym (mul_assoc a (2 ^ d) (2 ^ m)) in
    rw e (ap (λ (q : ℕ). q * 2 ^ m) (shl-shr (a * 2 ^ d) m))

-- The start of a key's prefix is the key of the start, at every length.
pub start_key : (w n a : ℕ) → w ≤ 64 → start_of (64 - n) (key_of w a) ≡ key_of w (start_of (w - n) a)
start_key w n a le = go (dec_le n w)
  where
    go : Dec (n ≤ w) → start_of (64 - n) (key_of w a) ≡ key_of w (start_of (w - n) a)
    go (yes h) =
        let e : 64 - n ≡ (w - n) + (64 - w) = omega arith in
        ap (λ (m : ℕ). start_of m (key_of w a)) e ∙ start_shifted (w - n) (64 - w) a
    go (no h) =
        let e : 64 - w ≡ ((64 - w) - (64 - n)) + (64 - n) = omega arith in
        let z : w - n ≡ 0 = omega arith in
        let whole : start_of (w - n) a ≡ a = rw z (omega arith) in
        ap (λ (m : ℕ). start_of (64 - n) (a * 2 ^ m)) e
        ∙ start-behind (64 - n) ((64 - w) - (64 - n)) a
        ∙ ap (λ (m : ℕ). a * 2 ^ m) (sym e)
        ∙ ap (key_of w) (sym whole)

-- So what masks a key masks its address.
pub mask_key : (w n a key r : ℕ) → w ≤ 64 → key ≡ key_of w a → r ≡ start_of (64 - n) key → r ≡ key_of w (start_of (w - n) a)
mask_key w n a key r le k e = e ∙ ap (start_of (64 - n)) k ∙ start_key w n a le

-- The first n bits of a key are those of its address.
pub key_bits : (w n a : ℕ) → w ≤ 64 → n ≤ w → key_of w a / 2 ^ (64 - n) ≡ a / 2 ^ (w - n)
key_bits w n a le h =
    let e : 64 - n ≡ (w - n) + (64 - w) = omega arith in
    ap (λ (m : ℕ). key_of w a / 2 ^ m) e
    ∙ ap (λ (p : ℕ). key_of w a / p) (pow-add 2 (w - n) (64 - w))
    ∙ mul-div-mul_right a (2 ^ (w - n)) (pow_pos (64 - w))

-- A position that lies among the addresses of w bits lies among the keys.
pub key_fits : (w n a : ℕ) → w ≤ 64 → n ≤ w → a + 2 ^ (w - n) ≤ 2 ^ w → key_of w a + 2 ^ (64 - n) ≤ 2 ^ 64
key_fits w n a le h fits =
    let e : 64 - n ≡ (w - n) + (64 - w) = omega arith in
    let size : 2 ^ (64 - n) ≡ 2 ^ (w - n) * 2 ^ (64 - w) = ap (λ (m : ℕ). 2 ^ m) e ∙ pow-add 2 (w - n) (64 - w) in
    let f : 64 ≡ w + (64 - w) = omega arith in
    let all : 2 ^ 64 ≡ 2 ^ w * 2 ^ (64 - w) = ap (λ (m : ℕ). 2 ^ m) f ∙ pow-add 2 w (64 - w) in
    omega (arith, mul-le-mul_right {m = a + 2 ^ (w - n)} {n = 2 ^ w} (2 ^ (64 - w)) fits, add-mul a (2 ^ (w - n)) (2 ^ (64 - w)))

-- A position of length n starts at the key of its address, and its right half at the key of the right half's.
pub key_half : (w n a : ℕ) → w ≤ 64 → n < w → key_of w (a + 2 ^ (w - 1 - n)) ≡ key_of w a + 2 ^ (63 - n)
key_half w n a le lt =
    let e : 63 - n ≡ (w - 1 - n) + (64 - w) = omega arith in
    add-mul a (2 ^ (w - 1 - n)) (2 ^ (64 - w))
    ∙ ap (λ (p : ℕ). key_of w a + p) (sym (ap (λ (m : ℕ). 2 ^ m) e ∙ pow-add 2 (w - 1 - n) (64 - w)))

-- A key tells its address.
pub key_same : (w x y : ℕ) → key_of w x ≡ key_of w y → x ≡ y
key_same w x y = eq_of_mul-eq-mul_right (2 ^ (64 - w)) (pow_pos (64 - w)) x y

-- ---- Host bits.
-- There are none exactly where the start of the key's prefix is the key.
pub host_key : (w n a : ℕ) → eqb (key_of w (start_of (w - n) a)) (key_of w a) ≡ host_clear w a n
host_key w n a =
    same_test (key_of w (start_of (w - n) a)) (key_of w a) (a % 2 ^ (w - n)) 0
    (λ e. let same = key_same w (start_of (w - n) a) a e in omega (arith, split a (w - n)))
    (λ e. ap (key_of w) (omega (arith, split a (w - n))))

-- ---- The order.
pub key_equal : (w x y : ℕ) → eqb (key_of w x) (key_of w y) ≡ eqb x y
key_equal w x y = same_test (key_of w x) (key_of w y) x y (key_same w x y) (ap (key_of w))

-- Starts of keys' prefixes are equal exactly when the addresses agree so far.
pub key_agree : (w n x y : ℕ) → eqb (key_of w (start_of (w - n) x)) (key_of w (start_of (w - n) y)) ≡ agree w n x y
key_agree w n x y = key_equal w (start_of (w - n) x) (start_of (w - n) y) ∙ start-agree w n x y

pub key_below : (w x y : ℕ) → ltb (key_of w x) (key_of w y) ≡ ltb x y
key_below w x y = go (ltb x y) refl
  where
    go : (b : Bool) → ltb x y ≡ b → ltb (key_of w x) (key_of w y) ≡ b
    go true e = lt-ltb (key_of w x) (key_of w y) (mul-lt-mul_of_pos_right {m = x} {n = y} {k = 2 ^ (64 - w)} (ltb-true x y e) (pow_pos (64 - w)))
    go false e = le-ltb (key_of w x) (key_of w y) (mul-le-mul_right {m = y} {n = x} (2 ^ (64 - w)) (ltb-false x y e))

pub key_rises : (w x y : ℕ) → x ≤ y → key_of w x ≤ key_of w y
key_rises w x y = mul-le-mul_right {m = x} {n = y} (2 ^ (64 - w))

pub key_under : (w x y : ℕ) → key_of w x < key_of w y → x < y
key_under w x y h = ltb-true x y (sym (key_below w x y) ∙ lt-ltb (key_of w x) (key_of w y) h)

pub key_over : (w x y : ℕ) → key_of w x ≤ key_of w y → x ≤ y
key_over w x y h = ltb-false y x (sym (key_below w y x) ∙ le-ltb (key_of w y) (key_of w x) h)

-- Keys stand before one another as their addresses do.
pub key_before : (w x y l m : ℕ) → (ltb (key_of w x) (key_of w y) || (eqb (key_of w x) (key_of w y) && ltb l m)) ≡ (ltb x y || (eqb x y && ltb l m))
key_before w x y l m = rw (key_below w x y, key_equal w x y)
