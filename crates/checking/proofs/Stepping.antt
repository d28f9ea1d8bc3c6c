-- One step at one address: what the code's tests and numbers come to. Assumes nothing.
use Prim.Native.Nat.{ℕ, ◌+◌, ◌-◌, ◌*◌, ◌/◌, ◌%◌, ◌^◌, ◌≤◌, ◌<◌}
use mathlib.Core.Path.{◌≡◌, refl, sym, ap, ◌∙◌}
use mathlib.Core.Bool.{Bool, true, false}
use mathlib.Core.List.{List}
use native.Mathlib.Nat.{pow-le-pow_right, sub-add_cancel, mod-eq_of_lt, mul-le-mul_left, mul-le-mul_right, mul-lt-mul_of_pos_right, div-lt_iff_lt-mul, le-div_iff_mul-le}
use native.Mathlib.Numerals.{add-one}
use native.Mathlib.Omega.{arith}
use lib.Dec.{eqb, ltb}
use lib.Bits.{bit_xor, xor_lt, xor_shr, xor_self, xor_add_and, and_le_l, and_le_r}
use lib.ListN.{get_or}
use lib.Pow.{pow-add}
use borrow.Author.Tests.{eqb-true, eqb-false, eq-eqb, ne_eqb, lt-ltb, le-ltb}
use Rattle.theory.specs.Routes.{Table}
use Rattle.theory.proofs.Blocks.{pow_pos}
use Rattle.words.specs.Prefix.{agree}
use Rattle.refusals.specs.Rules.{refuses}
use Rattle.records.specs.Wire.{records, route_at, routes}
use Rattle.records.specs.declared.Form.{Form}
use Rattle.table.specs.Checking.{check_reply}
use Rattle.table.proofs.AtEight.{refused_exactly}
use Rattle.table.proofs.AtEight.{table-numbers}
use Rattle.runs.proofs.Halves.{whole_run, record_within}
use Rattle.checking.specs.Marks.{fine_of, marked_of, bare_of, marks_upto}

-- Two numbers are one exactly if they differ in no bit.
xor_same : (a b : ℕ) → eqb (bit_xor a b) 0 ≡ eqb a b
xor_same a b = go (eqb a b) refl
  where
    go : (c : Bool) → eqb a b ≡ c → eqb (bit_xor a b) 0 ≡ c
    go true e = eq-eqb (bit_xor a b) 0 (ap (bit_xor a) (sym (eqb-true a b e)) ∙ xor_self a)
    go false e = ne_eqb (bit_xor a b) 0 (λ z. eqb-false a b e (omega (arith, xor_add_and a b, and_le_l a b, and_le_r a b)))

xor_agree : (len x a : ℕ) → eqb (bit_xor x a / 2 ^ (32 - len)) 0 ≡ agree 32 len x a
xor_agree len x a = ap (λ (n : ℕ). eqb n 0) (xor_shr x a (32 - len)) ∙ xor_same (x / 2 ^ (32 - len)) (a / 2 ^ (32 - len))

-- The bits of two addresses that differ, shifted up by a length, fit 32 bits exactly if a prefix of that length holds both.
pub shl_agree : (len x a : ℕ) → len ≤ 32 → x < 2 ^ 32 → a < 2 ^ 32 → ltb (bit_xor x a * 2 ^ len % 2 ^ 64) (2 ^ 32) ≡ agree 32 len x a
shl_agree len x a le p q = rw (mod-eq_of_lt small) (go (eqb (y / 2 ^ (32 - len)) 0) refl ∙ xor_agree len x a)
  where
    y : ℕ
    y = bit_xor x a

    whole : 2 ^ (32 - len) * 2 ^ len ≡ 2 ^ 32
    whole = sym (pow-add 2 (32 - len) len) ∙ ap (λ (n : ℕ). 2 ^ n) (sub-add_cancel le)

    small : bit_xor x a * 2 ^ len < 2 ^ 64
    small =
        let up : 2 ^ len ≤ 2 ^ 32 = pow-le-pow_right (omega arith) le in
        omega (arith, mul-lt-mul_of_pos_right {k = 2 ^ len} (xor_lt 32 x a p q) (pow_pos len), mul-le-mul_left (2 ^ 32) up)

    go : (b : Bool) → eqb (y / 2 ^ (32 - len)) 0 ≡ b → ltb (bit_xor x a * 2 ^ len) (2 ^ 32) ≡ eqb (bit_xor x a / 2 ^ (32 - len)) 0
    go true e =
        let z : y / 2 ^ (32 - len) < 1 = omega (arith, eqb-true (y / 2 ^ (32 - len)) 0 e) in
        let low : y < 2 ^ (32 - len) = omega (arith, (div-lt_iff_lt-mul (pow_pos (32 - len))).0 z) in
        lt-ltb (y * 2 ^ len) (2 ^ 32) (omega (arith, whole, mul-lt-mul_of_pos_right {k = 2 ^ len} low (pow_pos len))) ∙ sym e
    go false e =
        let z : 1 ≤ y / 2 ^ (32 - len) = omega (arith, eqb-false (y / 2 ^ (32 - len)) 0 e) in
        let up : 2 ^ (32 - len) ≤ y = omega (arith, (le-div_iff_mul-le (pow_pos (32 - len))).0 z) in
        le-ltb (y * 2 ^ len) (2 ^ 32) (omega (arith, whole, mul-le-mul_right (2 ^ len) up)) ∙ sym e

-- A record of a table is of length at most 32.
pub short_at : (t : List ℕ) (i : ℕ) → Table 32 (routes t) → i < records t → (route_at t i).len ≤ 32
short_at t i table lt = (record_within (whole_run 8 32 table) i (omega arith) lt).short

-- A refusal's number by 20 higher is a byte.
pub number_small : (form : Form) (t : List ℕ) (n i : ℕ) → refuses n i ≡ check_reply form false t → n ≤ 8
number_small form t n i e = (table-numbers form false t n i ((refused_exactly form false t (records t) n i).0 (sym e)).0).1

-- ---- The marks of so many lengths.

pub marks_none : (was goal : ℕ) (hops : List ℕ) → bare_of was goal ≡ marks_upto was goal hops 0
unfolding marks_upto
marks_none was goal hops = refl

pub marks_next : (was goal : ℕ) (hops : List ℕ) (k : ℕ) → marked_of (fine_of was goal) (marks_upto was goal hops k) k (get_or hops k 0) ≡ marks_upto was goal hops (k + 1)
unfolding marks_upto
marks_next was goal hops k = sym (ap (marks_upto was goal hops) (add-one k))
