-- A number in decimal is a word of digits that reads as the number. Assumes nothing.
use mathlib.Core.Path.{◌≡◌, refl, sym, ap, ap₂, subst, ◌∙◌}
use mathlib.Core.Bool.{Bool, true, false, ◌&&◌}
use mathlib.Core.List.{List, [], ◌∷◌}
use Prim.Native.Nat.{ℕ, ◌+◌, ◌/◌, ◌%◌, ◌^◌, ◌≤◌, ◌<◌}
use native.Mathlib.Omega.{arith}
use borrow.Author.Tests.{lt-ltb, le-leb, ne_eqb, ltb-true, ltb-false}
use lib.Dec.{ltb, eqb, lit≤}
use Rattle.io.specs.Digits.{hex_digit_ascii}
use Rattle.text.specs.Text.{decimal}
use Rattle.text.proofs.Numbers.{decimal_is}
use Rattle.tabletext.specs.Pieces.{is, digit_from, number}
use Rattle.tabletext.proofs.PieceLaws.{number-two, number_three}
use Rattle.tabletext.proofs.Free.{Free, nil, cons}

-- ---- Digits.

-- A list of digits.
pub data Digits : List ℕ → Type 0 where
  none : Digits []
  digit : {x : ℕ} {s : List ℕ} → 48 ≤ x → x ≤ 57 → Digits s → Digits (x ∷ s)

and-false : (t : Bool) → (t && false) ≡ false
and-false true = refl
and-false false = refl

-- A digit is no other byte.
pub digit_not : (b x : ℕ) → 48 ≤ x → x ≤ 57 → (x ≡ b → ⊥) → is b x ≡ false
digit_not b x low high other = rw (ne_eqb x b other, ne_eqb x 9 (λ e. omega arith)) (and-false (eqb b 32))

pub digits_free : (b : ℕ) {s : List ℕ} → ((x : ℕ) → 48 ≤ x → x ≤ 57 → x ≡ b → ⊥) → Digits s → Free b s
digits_free b h none = nil
digits_free b h (digit {x = x} p q r) = cons (digit_not b x p q (h x p q)) (digits_free b h r)

-- ---- Numbers of one, two and three digits.

glyph_is : (d : ℕ) → d < 10 → hex_digit_ascii d ≡ 48 + d
glyph_is d h = rw (lt-ltb d 10 h)

one_digit : (n : ℕ) → n < 10 → decimal n ≡ (48 + n % 10) ∷ []
one_digit n h =
    let top : 10 ≤ 2 ^ 64 = lit≤ tt in
    sym (decimal_is n 1 (omega arith) (omega arith, h, λ z. absurd (omega arith))) ∙ ap (λ (x : ℕ). x ∷ []) (glyph_is (n % 10) (omega arith))

two_digits : (n : ℕ) → 10 ≤ n → n < 100 → decimal n ≡ (48 + n / 10 % 10) ∷ (48 + n % 10) ∷ []
two_digits n l h =
    let top : 100 ≤ 2 ^ 64 = lit≤ tt in
    sym (decimal_is n 2 (omega arith) (omega arith, h, λ z. l))
    ∙ ap₂ (λ (x y : ℕ). x ∷ y ∷ []) (glyph_is (n / 10 % 10) (omega arith)) (glyph_is (n % 10) (omega arith))

three_digits : (n : ℕ) → 100 ≤ n → n < 1000 → decimal n ≡ (48 + n / 10 / 10 % 10) ∷ (48 + n / 10 % 10) ∷ (48 + n % 10) ∷ []
three_digits n l h =
    let top : 1000 ≤ 2 ^ 64 = lit≤ tt in
    sym (decimal_is n 3 (omega arith) (omega arith, h, λ z. l))
    ∙ ap₂ (λ (x : ℕ) (s : List ℕ). x ∷ s) (glyph_is (n / 10 / 10 % 10) (omega arith))
    (ap₂ (λ (x y : ℕ). x ∷ y ∷ []) (glyph_is (n / 10 % 10) (omega arith)) (glyph_is (n % 10) (omega arith)))

-- A digit's value.
value : (low a : ℕ) → low ≤ a → a < 10 → digit_from low (48 + a) ≡ a
value low a l h = rw (le-leb (48 + low) (48 + a) (omega arith), le-leb (48 + a) 57 (omega arith)) (omega arith)

number_one : (x : ℕ) → number (x ∷ []) ≡ digit_from 0 x
unfolding number
number_one x = refl

-- ---- What is known of a number in decimal.

pub record Written (n : ℕ) (s : List ℕ) : Type 0 where
  pub reads : number s ≡ n
  pub all : Digits s
  pub first : ℕ
  pub rest : List ℕ
  pub is_list : s ≡ first ∷ rest
  pub low : 48 ≤ first
  pub high : first ≤ 57

pub decimal-written : (n : ℕ) → n < 1000 → Written n (decimal n)
decimal-written n h = go (ltb n 10) refl (ltb n 100) refl
  where
    shown : {s : List ℕ} → decimal n ≡ s → Written n s → Written n (decimal n)
    shown e w = subst (Written n) (sym e) w

    go : (a : Bool) → ltb n 10 ≡ a → (b : Bool) → ltb n 100 ≡ b → Written n (decimal n)
    go true p b q =
        let small = ltb-true n 10 p in
        shown (one_digit n small)
        record {
          reads = number_one (48 + n % 10) ∙ value 0 (n % 10) (omega arith) (omega arith) ∙ omega arith;
          all = digit (omega arith) (omega arith) none;
          first = 48 + n % 10;
          rest = [];
          is_list = refl;
          low = omega arith;
          high = omega arith;
        }
    go false p true q =
        let large = ltb-false n 10 p in
        let small = ltb-true n 100 q in
        shown (two_digits n large small)
        record {
          reads =
              number-two ((48 + n / 10 % 10) ∷ (48 + n % 10) ∷ []) refl
              ∙ rw (value 1 (n / 10 % 10) (omega arith) (omega arith), value 0 (n % 10) (omega arith) (omega arith)) (omega arith);
          all = digit (omega arith) (omega arith) (digit (omega arith) (omega arith) none);
          first = 48 + n / 10 % 10;
          rest = (48 + n % 10) ∷ [];
          is_list = refl;
          low = omega arith;
          high = omega arith;
        }
    go false p false q =
        let large = ltb-false n 100 q in
        shown (three_digits n large h)
        record {
          reads =
              number_three ((48 + n / 10 / 10 % 10) ∷ (48 + n / 10 % 10) ∷ (48 + n % 10) ∷ []) refl
              ∙ rw (value 1 (n / 10 / 10 % 10) (omega arith) (omega arith), value 0 (n / 10 % 10) (omega arith) (omega arith), value 0 (n % 10) (omega arith) (omega arith)) (omega arith);
          all = digit (omega arith) (omega arith) (digit (omega arith) (omega arith) (digit (omega arith) (omega arith) none));
          first = 48 + n / 10 / 10 % 10;
          rest = (48 + n / 10 % 10) ∷ (48 + n % 10) ∷ [];
          is_list = refl;
          low = omega arith;
          high = omega arith;
        }
