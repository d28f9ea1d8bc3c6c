-- Laws of numbers as text: what io writes is the decimal or the hex number of specs/, without leading zeros, and the decimal reads back. Assumes nothing.
use mathlib.Core.Path.{◌≡◌, refl, sym, ap, ◌∙◌, subst}
use mathlib.Core.Bool.{Bool, true, false, cond}
use mathlib.Core.List.{List, [], ◌∷◌, ◌++◌}
use Prim.Native.Nat.{ℕ, zero, suc, ◌+◌, ◌-◌, ◌*◌, ◌/◌, ◌%◌, ◌^◌, ◌≤◌, ◌<◌}
use native.Mathlib.Nat.{pow-zero, pow-suc, pow-le-pow_right, one-le-pow, one-mul, mul-le-mul_right, le_trans, le_of_eq, mod-eq_of_lt, div-lt_iff_lt-mul, le-div_iff_mul-le}
use native.Mathlib.Omega.{arith}
use borrow.Author.Tests.{lt-ltb, le-ltb, ltb-true, ltb-false}
use lib.Dec.{ltb, lit≤}
use lib.ListN.{length, get_or, length-append, get_or-append}
use Rattle.io.specs.Digits.{hex_digit_ascii, last_digits, IsDigitCount}
use Rattle.text.specs.Places.{places}
use Rattle.text.specs.Ipv6.{hexadecimal, hex16}
use Rattle.text.specs.Text.{decimal, read_from, reading}

-- ---- Digits to a base.
module _ (b : ℕ) (some : 1 < b) where
  -- Without the last digit.
  cut : (n k : ℕ) → n < b ^ suc k → n / b < b ^ k
  cut n k h = (div-lt_iff_lt-mul {k = b} (omega arith)).1 (subst (λ (m : ℕ). n < m) (pow-suc b k) h)

  uncut : (n k : ℕ) → n / b < b ^ k → n < b ^ suc k
  uncut n k h = subst (λ (m : ℕ). n < m) (sym (pow-suc b k)) ((div-lt_iff_lt-mul {k = b} (omega arith)).0 h)

  cut_least : (n k : ℕ) → b ^ suc k ≤ n → b ^ k ≤ n / b
  cut_least n k h = (le-div_iff_mul-le {k = b} (omega arith)).1 (subst (λ (m : ℕ). m ≤ n) (pow-suc b k) h)

  uncut_least : (n k : ℕ) → b ^ k ≤ n / b → b ^ suc k ≤ n
  uncut_least n k h = subst (λ (m : ℕ). m ≤ n) (sym (pow-suc b k)) ((le-div_iff_mul-le {k = b} (omega arith)).0 h)

  -- One digit.
  pow_one : b ^ 1 ≡ b
  pow_one = pow-suc b 0 ∙ ap (λ (m : ℕ). m * b) (pow-zero b) ∙ one-mul b

  one_digit : (n : ℕ) → n < b ^ 1 → n < b
  one_digit n h = subst (λ (m : ℕ). n < m) pow_one h

  digit_one : (n : ℕ) → n < b → n < b ^ 1
  digit_one n h = subst (λ (m : ℕ). n < m) (sym pow_one) h

  more_digits : (n j : ℕ) → b ^ suc j ≤ n → b ≤ n
  more_digits n j h =
      let one = mul-le-mul_right b (one-le-pow j b (omega arith)) in
      le_trans (le_of_eq (sym (one-mul b))) (le_trans one (subst (λ (m : ℕ). m ≤ n) (pow-suc b j) h))

  -- A number of j + 1 digits and no fewer has so many places.
  places-are : (fuel n j : ℕ) → n < b ^ suc fuel → n < b ^ suc j → (0 < j → b ^ j ≤ n) → places b fuel n ≡ suc j
  unfolding places
  places-are zero n zero small below least = refl
  places-are zero n (suc j) small below least =
      let many = more_digits n j (least (omega arith)) in let few = one_digit n small in absurd (omega arith)
  places-are (suc fuel) n zero small below least = rw (lt-ltb n b (one_digit n below))
  places-are (suc fuel) n (suc j) small below least =
      rw (le-ltb n b (more_digits n j (least (omega arith))))
      (ap suc (places-are fuel (n / b) j (cut n (suc fuel) small) (cut n (suc j) below) (again j (least (omega arith)))))
    where
      again : (j : ℕ) → b ^ suc j ≤ n → 0 < j → b ^ j ≤ n / b
      again j enough more = cut_least n j enough

  -- The fewest digits of a number are its places.
  pub places_fewest : (fuel n k : ℕ) → n < b ^ suc fuel → IsDigitCount b 1 n k → places b fuel n ≡ k
  places_fewest fuel n zero small few = let one = few.0 in absurd (omega arith)
  places_fewest fuel n (suc j) small few =
      places-are fuel n j small few.1 (λ more. let h = few.2 (omega arith) in let e : suc j - 1 ≡ j = omega arith in rw e at h)

  -- A number below b ^ (k + 1) has at most k + 1 places.
  places-few : (fuel k n : ℕ) → n < b ^ suc k → places b fuel n ≤ suc k
  unfolding places
  places-few zero k n below = omega arith
  places-few (suc fuel) zero n below = rw (lt-ltb n b (one_digit n below)) (omega arith)
  places-few (suc fuel) (suc k) n below = either (ltb n b) (places-few fuel k (n / b) (cut n (suc k) below))
    where
      either : (c : Bool) → places b fuel (n / b) ≤ suc k → cond c 1 (suc (places b fuel (n / b))) ≤ suc (suc k)
      either true h = omega arith
      either false h = omega arith

  -- What is known of the places p of n: the fewest digits that hold it.
  pub record Counted (n p : ℕ) : Type 0 where
    pub front : ℕ
    pub is : p ≡ suc front
    pub below : n < b ^ suc front
    pub least : 0 < front → b ^ front ≤ n

  -- The least is one for a number that is not 0.
  at_least : (f n : ℕ) → 0 < n → (0 < f → b ^ f ≤ n) → b ^ f ≤ n
  at_least zero n some least = subst (λ (m : ℕ). m ≤ n) (sym (pow-zero b)) some
  at_least (suc f) n some least = least (omega arith)

  counted_step : (n p : ℕ) → Counted (n / b) p → (c : Bool) → ltb n b ≡ c → Counted n (cond c 1 (suc p))
  counted_step n p rest true e = record { front = 0; is = refl; below = digit_one n (ltb-true n b e); least = λ h. absurd (omega arith) }
  counted_step n p rest false e =
      let front = rest.front in
      let left : 1 ≤ n / b = (le-div_iff_mul-le {k = b} (omega arith)).1 (le_trans (le_of_eq (one-mul b)) (ltb-false n b e)) in
      record {
        front = suc front;
        is = ap suc rest.is;
        below = uncut n (suc front) rest.below;
        least = λ h. uncut_least n front (at_least front (n / b) left rest.least);
      }

  pub places-counted : (fuel n : ℕ) → n < b ^ suc fuel → Counted n (places b fuel n)
  unfolding places
  places-counted zero n small = record { front = 0; is = refl; below = small; least = λ h. absurd (omega arith) }
  places-counted (suc fuel) n small = counted_step n (places b fuel (n / b)) (places-counted fuel (n / b) (cut n (suc fuel) small)) (ltb n b) refl

  -- ---- How long.
  pub length_digits : (k n : ℕ) → length (last_digits b k n) ≡ k
  length_digits zero n = refl
  length_digits (suc k) n = length-append (last_digits b k (n / b)) (hex_digit_ascii (n % b) ∷ []) ∙ rw (length_digits k (n / b)) (omega arith)

  pub digits_short : (fuel k n : ℕ) → n < b ^ suc k → length (last_digits b (places b fuel n) n) ≤ suc k
  digits_short fuel k n below = rw (length_digits (places b fuel n) n) (places-few fuel k n below)

  -- ---- No leading zero.
  -- Only the digit 0 is written so.
  glyph_zero : (d : ℕ) → hex_digit_ascii d ≡ 48 → d ≡ 0
  glyph_zero d e = go (ltb d 10) e
    where
      go : (c : Bool) → cond c (48 + d) (87 + d) ≡ 48 → d ≡ 0
      go true h = omega arith
      go false h = omega arith

  -- The first of digits that are needed is not 0.
  first_digit : (k n : ℕ) → b ^ k ≤ n → n < b ^ suc k → get_or (last_digits b (suc k) n) 0 0 ≡ 48 → ⊥
  first_digit zero n least below zero-first =
      let same = mod-eq_of_lt (one_digit n below) in
      let positive = subst (λ (m : ℕ). m ≤ n) (pow-zero b) least in
      omega (arith, same, positive, glyph_zero (n % b) zero-first)
  first_digit (suc k) n least below zero-first =
      let size = length_digits (suc k) (n / b) in
      let front = get_or-append (last_digits b (suc k) (n / b)) (hex_digit_ascii (n % b) ∷ []) 0 0 (omega arith) in
      first_digit k (n / b) (cut_least n k least) (cut n (suc k) below) (sym front ∙ zero-first)

  -- Only 0 begins with a 0.
  pub digits_lead : (fuel n : ℕ) → 0 < n → n < b ^ suc fuel → get_or (last_digits b (places b fuel n) n) 0 0 ≡ 48 → ⊥
  digits_lead fuel n positive small zero-first =
      let p = places-counted fuel n small in
      first_digit p.front n (at_least p.front n positive p.least) p.below
      (ap (λ (k : ℕ). get_or (last_digits b k n) 0 0) (sym p.is) ∙ zero-first)

-- ---- In decimal.
-- A number of 64 bits has at most 20 digits.
twenty : (n : ℕ) → n < 2 ^ 64 → n < 10 ^ 20
twenty n small = let top : 2 ^ 64 ≤ 10 ^ 20 = lit≤ tt in omega arith

-- The digits that io writes are the number in decimal.
pub decimal_is : (n k : ℕ) → n < 2 ^ 64 → IsDigitCount 10 1 n k → last_digits 10 k n ≡ decimal n
unfolding decimal
decimal_is n k small few = ap (λ (m : ℕ). last_digits 10 m n) (sym (places_fewest 10 (omega arith) 19 n k (twenty n small) few))

pub decimal-short : (k n : ℕ) → n < 10 ^ suc k → length (decimal n) ≤ suc k
unfolding decimal
decimal-short k n below = digits_short 10 (omega arith) 19 k n below

-- A byte's value has at most 3 digits, and a number of 64 bits at most 20.
pub octet_short : (n : ℕ) → n < 256 → length (decimal n) ≤ 3
octet_short n small = decimal-short 2 n (omega arith)

pub number_short : (n : ℕ) → n < 2 ^ 64 → length (decimal n) ≤ 20
number_short n small = decimal-short 19 n (twenty n small)

-- Only 0 begins with a 0.
pub no_leading_zero : (n : ℕ) → 0 < n → n < 2 ^ 64 → get_or (decimal n) 0 0 ≡ 48 → ⊥
unfolding decimal
no_leading_zero n some small = digits_lead 10 (omega arith) 19 n some (twenty n small)

-- ---- In hex.
-- A number of 64 bits has at most 16 hex digits.
sixteen : (n : ℕ) → n < 2 ^ 64 → n < 16 ^ 16
sixteen n small = let top : 2 ^ 64 ≤ 16 ^ 16 = lit≤ tt in omega arith

-- The fewest digits that io writes are the number in hex.
pub hexadecimal_is : (n k : ℕ) → n < 2 ^ 64 → IsDigitCount 16 1 n k → last_digits 16 k n ≡ hexadecimal n
unfolding hexadecimal
hexadecimal_is n k small few = ap (λ (m : ℕ). last_digits 16 m n) (sym (places_fewest 16 (omega arith) 15 n k (sixteen n small) few))

-- Those of which there are no fewer than 16 are all.
pub hex16_is : (n k : ℕ) → n < 2 ^ 64 → IsDigitCount 16 16 n k → last_digits 16 k n ≡ hex16 n
unfolding hex16
hex16_is n k small few = ap (λ (m : ℕ). last_digits 16 m n) (exactly (ltb 16 k) refl)
  where
    exactly : (c : Bool) → ltb 16 k ≡ c → k ≡ 16
    exactly true e =
        let more = ltb-true 16 k e in
        let many = few.2 more in
        let up : 16 ^ 16 ≤ 16 ^ (k - 1) = pow-le-pow_right {n = 16} (omega arith) {i = 16} {j = k - 1} (omega arith) in
        absurd (omega (arith, many, up, sixteen n small))
    exactly false e = let most = ltb-false 16 k e in omega (arith, few.0)

pub length-hex16 : (n : ℕ) → length (hex16 n) ≡ 16
unfolding hex16
length-hex16 n = length_digits 16 (omega arith) 16 n

-- A group of 16 bits has at most 4 digits.
pub group_short : (n : ℕ) → n < 65536 → length (hexadecimal n) ≤ 4
unfolding hexadecimal
group_short n small = digits_short 16 (omega arith) 15 3 n (omega arith)

-- Only 0 begins with a 0.
pub no_hex_zero : (n : ℕ) → 0 < n → n < 2 ^ 64 → get_or (hexadecimal n) 0 0 ≡ 48 → ⊥
unfolding hexadecimal
no_hex_zero n some small = digits_lead 16 (omega arith) 15 n some (sixteen n small)

-- ---- What is read.

read_behind : (v : ℕ) (ds : List ℕ) (d : ℕ) → read_from v (ds ++ (d ∷ [])) ≡ read_from v ds * 10 + (d - 48)
unfolding read_from
read_behind v [] d = refl
read_behind v (e ∷ ds) d = read_behind (v * 10 + (e - 48)) ds d

-- A digit below 10 reads as itself.
glyph_reads : (d : ℕ) → d < 10 → hex_digit_ascii d - 48 ≡ d
glyph_reads d small = rw (lt-ltb d 10 small) (omega arith)

-- Digits enough read as the number.
digits_read : (k n : ℕ) → n < 10 ^ k → reading (last_digits 10 k n) ≡ n
unfolding read_from
digits_read zero n below = omega arith
digits_read (suc k) n below =
    let front = digits_read k (n / 10) (omega (arith, pow-suc 10 k)) in
    let last = glyph_reads (n % 10) (omega arith) in
    read_behind 0 (last_digits 10 k (n / 10)) (hex_digit_ascii (n % 10)) ∙ rw (front, last) (omega arith)

-- A number in decimal reads as the number.
pub reads_back : (n : ℕ) → n < 2 ^ 64 → reading (decimal n) ≡ n
unfolding decimal
reads_back n small =
    let p = places-counted 10 (omega arith) 19 n (twenty n small) in
    ap (λ (k : ℕ). reading (last_digits 10 k n)) p.is ∙ digits_read (suc p.front) n p.below
