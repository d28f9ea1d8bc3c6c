-- Masks of prefixes over the width w: what the code's shifts and complements give, what a mask leaves of an address, and the start of its prefix.
-- Assumes nothing.
use mathlib.Core.Path.{◌≡◌, refl, sym, ap, ap₂, ◌∙◌, subst}
use mathlib.Core.Bool.{Bool, true, false}
use Prim.Native.Nat.{ℕ, ◌+◌, ◌-◌, ◌*◌, ◌/◌, ◌%◌, ◌^◌, ◌≤◌, ◌<◌}
use native.Mathlib.Nat.{sub-add_cancel, div-mul-le_self}
use native.Mathlib.Omega.{arith}
use lib.Dec.{eqb}
use lib.Pow.{pow_pos, pow_mono, high, ones_lt, ones_split, shl-shr, shr_mod}
use lib.Bits.{bit_and, and_high, and_mask}
use borrow.Author.Tests.{eqb-true, eqb-false, eq-eqb, ne_eqb}
use Rattle.theory.specs.Results.{start_of}
use Rattle.words.specs.Prefix.{mask_of, agree}

-- `!(!0 >> n)` is the mask of length n.
pub mask_shift : (w n : ℕ) → n ≤ w → (2 ^ w - 1) - (2 ^ w - 1) / 2 ^ n ≡ mask_of w n
mask_shift w n h =
    let e : 2 ^ w - 1 ≡ 2 ^ (w - n + n) - 1 = ap (λ (v : ℕ). 2 ^ v - 1) (sym (sub-add_cancel h)) in
    let d : (2 ^ w - 1) / 2 ^ n ≡ 2 ^ (w - n) - 1 =
    ap (λ (x : ℕ). x / 2 ^ n) (e ∙ ones_split (w - n) n) ∙ high (2 ^ (w - n) - 1) n (ones_lt n) in
    let l : w - n ≤ w = omega arith in
    omega (arith, pow_pos (w - n), pow_mono l)

-- What a mask leaves of an address: its first n bits, in place.
pub masked : (w a n : ℕ) → a < 2 ^ w → n ≤ w → bit_and a (mask_of w n) ≡ a / 2 ^ (w - n) * 2 ^ (w - n)
masked w a n h l =
    let e : w ≡ n + (w - n) = omega arith in
    let g : a < 2 ^ (n + (w - n)) = subst (λ (v : ℕ). a < 2 ^ v) e h in
    ap (λ (v : ℕ). bit_and a (2 ^ v - 2 ^ (w - n))) e ∙ and_high a n (w - n) ∙ ap (λ (x : ℕ). x * 2 ^ (w - n)) (shr_mod n (w - n) g)

-- Two tests are the same where each follows from the other.
pub same_test : (a b c d : ℕ) → (a ≡ b → c ≡ d) → (c ≡ d → a ≡ b) → eqb a b ≡ eqb c d
same_test a b c d f g = go (eqb a b) refl
  where
    go : (t : Bool) → eqb a b ≡ t → t ≡ eqb c d
    go true e = sym (eq-eqb c d (f (eqb-true a b e)))
    go false e = sym (ne_eqb c d (λ q. eqb-false a b e (g q)))

-- Starts of prefixes are equal exactly when the addresses agree in their first n bits.
pub start-agree : (w n x y : ℕ) → eqb (start_of (w - n) x) (start_of (w - n) y) ≡ agree w n x y
start-agree w n x y =
    same_test (start_of (w - n) x) (start_of (w - n) y) (x / 2 ^ (w - n)) (y / 2 ^ (w - n))
    (λ e. sym (shl-shr (x / 2 ^ (w - n)) (w - n)) ∙ ap (λ (m : ℕ). m / 2 ^ (w - n)) e ∙ shl-shr (y / 2 ^ (w - n)) (w - n))
    (λ e. ap (λ (m : ℕ). m * 2 ^ (w - n)) e)

-- So are masked addresses.
pub masked-agree : (w n x y : ℕ) → x < 2 ^ w → y < 2 ^ w → n ≤ w → eqb (bit_and x (mask_of w n)) (bit_and y (mask_of w n)) ≡ agree w n x y
masked-agree w n x y hx hy l = ap₂ eqb (masked w x n hx l) (masked w y n hy l) ∙ start-agree w n x y

-- What the complement of a mask leaves of an address: its bits past the first n.
pub host_bits : (w a n : ℕ) → n ≤ w → bit_and a ((2 ^ w - 1) - mask_of w n) ≡ a % 2 ^ (w - n)
host_bits w a n h =
    let l : w - n ≤ w = omega arith in
    let e : (2 ^ w - 1) - mask_of w n ≡ 2 ^ (w - n) - 1 = omega (arith, pow_pos (w - n), pow_mono l) in
    ap (bit_and a) e ∙ and_mask a (w - n)

-- The start of a prefix has no more bits than the address.
pub start_small : (w n a : ℕ) → a < 2 ^ w → start_of n a < 2 ^ w
start_small w n a h = omega (arith, div-mul-le_self a (2 ^ n))

-- From the width on, the start of a prefix is the address.
pub start-whole : (w n a : ℕ) → w ≤ n → start_of (w - n) a ≡ a
start-whole w n a h = let e : w - n ≡ 0 = omega arith in rw e (omega arith)
