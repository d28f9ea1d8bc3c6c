-- Positions as aligned blocks of 2 ^ n addresses: their halves, and that an address is in one exactly when its leading bits are the block's.
use Prim.Native.Nat.{ℕ, zero, suc, ◌+◌, ◌-◌, ◌*◌, ◌/◌, ◌^◌, ◌≤◌, ◌<◌}
use mathlib.Core.Path.{◌≡◌, refl, sym, ap, ◌∙◌}
use mathlib.Core.HLevel.{hedberg, Σ_prop_path}
use native.Mathlib.Nat.{pow-suc, mul_assoc, mul_comm, suc-mul, one-le-pow, le_antisymm, le-div_iff_mul-le, div-lt_iff_lt-mul, le_of_suc-le-suc, zero-mul, mul-le-mul_right, lt_of_mul-lt-mul_right, eq_of_mul-eq-mul_right, eq-or-lt_of_le, div-mul-le_self, lt-div-mul-add}
use native.Mathlib.Decide.{ℕ_discrete, dec_lt}
use native.Mathlib.Omega.{arith}
use lib.Pow.{shr-shr}
use mathlib.Core.Logic.{◌⊎◌, inl, inr}
use Rattle.theory.specs.Results.{In, start_of}
use Rattle.theory.specs.Routes.{Aligned}

pub pow_pos : (n : ℕ) → 0 < 2 ^ n
pow_pos n = one-le-pow n 2 (omega arith)

pub aligned-zero : (n : ℕ) → Aligned n 0
aligned-zero n = (0, sym (zero-mul (2 ^ n)))

-- There is one such multiple.
pub aligned_prop : (n a : ℕ) → IsProp (Aligned n a)
aligned_prop n a d e =
    Σ_prop_path (λ q. hedberg ℕ_discrete a (q * 2 ^ n)) (eq_of_mul-eq-mul_right (2 ^ n) (pow_pos n) d.0 e.0 (sym d.1 ∙ e.1))

double : (q m : ℕ) → q * (m * 2) ≡ q * 2 * m
double q m = ap (λ (k : ℕ). q * k) (mul_comm m 2) ∙ sym (mul_assoc q 2 m)

pub aligned-left : (n a : ℕ) → Aligned (suc n) a → Aligned n a
aligned-left n a d = (d.0 * 2, d.1 ∙ ap (λ (k : ℕ). d.0 * k) (pow-suc 2 n) ∙ double d.0 (2 ^ n))

pub aligned-right : (n a : ℕ) → Aligned (suc n) a → Aligned n (a + 2 ^ n)
unfolding aligned-left
aligned-right n a d = (suc (d.0 * 2), ap (λ (k : ℕ). k + 2 ^ n) (aligned-left n a d).1 ∙ sym (suc-mul (d.0 * 2) (2 ^ n)))

block : (n a x : ℕ) (d : Aligned n a) → In n a x → x / 2 ^ n ≡ d.0
block n a x d i =
    le_antisymm (le_of_suc-le-suc ((div-lt_iff_lt-mul (pow_pos n)).1 (omega (arith, suc-mul d.0 (2 ^ n)))))
    ((le-div_iff_mul-le (pow_pos n)).1 (omega arith))

pub in→block : (n a x : ℕ) → Aligned n a → In n a x → x / 2 ^ n ≡ a / 2 ^ n
in→block n a x d i = block n a x d i ∙ sym (block n a a d (omega (arith, pow_pos n)))

pub block→in : (n a x : ℕ) → Aligned n a → x / 2 ^ n ≡ a / 2 ^ n → In n a x
block→in n a x d e =
    let p : x / 2 ^ n ≡ d.0 = e ∙ block n a a d (omega (arith, pow_pos n)) in
    let lo : d.0 * 2 ^ n ≤ x = (le-div_iff_mul-le (pow_pos n)).0 (omega arith) in
    let hi : x < suc d.0 * 2 ^ n = (div-lt_iff_lt-mul (pow_pos n)).0 (omega arith) in
    omega (arith, suc-mul d.0 (2 ^ n))

pub in_left : (n a x : ℕ) → In n a x → In (suc n) a x
in_left n a x i = omega (arith, pow-suc 2 n)

pub in_right : (n a x : ℕ) → In n (a + 2 ^ n) x → In (suc n) a x
in_right n a x i = omega (arith, pow-suc 2 n)

-- An address of a position is one of a half.
pub in_halves : (n a x : ℕ) → In (suc n) a x → In n a x ⊎ In n (a + 2 ^ n) x
in_halves n a x i = go (dec_lt x (a + 2 ^ n))
  where
    go : Dec (x < a + 2 ^ n) → In n a x ⊎ In n (a + 2 ^ n) x
    go (yes lt) = inl (omega arith)
    go (no ge) = inr (omega (arith, pow-suc 2 n))

-- A longer block starts at a multiple of a shorter one's size, and blocks that do not overlap stand a whole block apart.
pub aligned_down : (k n a : ℕ) → k ≤ n → Aligned n a → Aligned k a
aligned_down k zero a le d = let e : k ≡ 0 = omega arith in rw e d
aligned_down k (suc n) a le d = go (eq-or-lt_of_le le) (λ j. aligned_down k n a j (aligned-left n a d))
  where
    go : (k ≡ suc n) ⊎ (k < suc n) → (k ≤ n → Aligned k a) → Aligned k a
    go (inl e) ih = rw e d
    go (inr lt) ih = ih (omega arith)

pub next-block : (k a b : ℕ) → Aligned k a → Aligned k b → a < b → a + 2 ^ k ≤ b
next-block k a b d e lt =
    let m : d.0 * 2 ^ k < e.0 * 2 ^ k = omega arith in
    let l : d.0 < e.0 = lt_of_mul-lt-mul_right (2 ^ k) m in
    omega (arith, mul-le-mul_right (2 ^ k) l, suc-mul d.0 (2 ^ k))

-- The start of an address's position: the position is aligned, has the address, and is the only such one.
pub aligned-start : (n x : ℕ) → Aligned n (start_of n x)
aligned-start n x = (x / 2 ^ n, refl)

pub in_start : (n x : ℕ) → In n (start_of n x) x
in_start n x = (div-mul-le_self x (2 ^ n), lt-div-mul-add (pow_pos n))

pub start_is : (n a x : ℕ) → Aligned n a → In n a x → start_of n x ≡ a
start_is n a x d i = ap (λ (q : ℕ). q * 2 ^ n) (block n a x d i) ∙ sym d.1

pub same_start : (n a b : ℕ) → Aligned n a → Aligned n b → In n a b → b ≡ a
same_start n a b d e i = sym (start_is n b b e (omega (arith, pow_pos n))) ∙ start_is n a b d i

pub aligned_next : (n a : ℕ) → Aligned n a → Aligned n (a + 2 ^ n)
aligned_next n a d = (suc d.0, omega (arith, suc-mul d.0 (2 ^ n)))

-- A position that has an address has its smaller positions whole.
pub in_nested : (k n a x y : ℕ) → k ≤ n → Aligned n a → In n a x → In k (start_of k x) y → In n a y
in_nested k n a x y le d i j = (low (dec_lt (start_of k x) a), omega (arith, high))
  where
    high : start_of k x + 2 ^ k ≤ a + 2 ^ n
    high =
        next-block k (start_of k x) (a + 2 ^ n) (aligned-start k x) (aligned_down k n (a + 2 ^ n) le (aligned_next n a d))
        (omega (arith, in_start k x))

    low : Dec (start_of k x < a) → a ≤ y
    low (yes lt) = omega (arith, next-block k (start_of k x) a (aligned-start k x) (aligned_down k n a le d) lt, in_start k x)
    low (no ge) = omega arith

-- Blocks of one size that share their leading bits start at one address.
pub same_block : (n a b : ℕ) → Aligned n a → Aligned n b → a / 2 ^ n ≡ b / 2 ^ n → a ≡ b
same_block n a b d e q =
    let p : d.0 ≡ e.0 = sym (block n a a d (omega (arith, pow_pos n))) ∙ q ∙ block n b b e (omega (arith, pow_pos n)) in
    d.1 ∙ ap (λ (k : ℕ). k * 2 ^ n) p ∙ sym e.1

-- Addresses that share their first k of w bits share each shorter run of first bits.
pub fewer_bits : (w l k x y : ℕ) → l ≤ k → x / 2 ^ (w - k) ≡ y / 2 ^ (w - k) → x / 2 ^ (w - l) ≡ y / 2 ^ (w - l)
fewer_bits w l k x y le e =
    let m : (w - k) + ((w - l) - (w - k)) ≡ w - l = omega arith in
    rw (← m, ← shr-shr x (w - k) ((w - l) - (w - k)), ← shr-shr y (w - k) ((w - l) - (w - k)), e)
