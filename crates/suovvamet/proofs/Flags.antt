-- The flags of a call: no bits but the two lowest count. The first is set for the strict choice and clear for the default, the second set for records of 16
-- bytes and clear for records of 8. Assumes nothing.
use mathlib.Core.Path.{◌≡◌, ap, ap₂, ◌∙◌}
use Prim.Native.Nat.{ℕ, ◌+◌, ◌*◌, ◌/◌, ◌%◌}
use native.Mathlib.Omega.{arith}
use mathlib.Core.Bool.{true, false, not}
use lib.Dec.{eqb}
use Rattle.std.proofs.Common.{bit_and}
use Rattle.std.proofs.lemmas.Nat.Bits.{and_pow}
use Rattle.records.specs.Forms.{masking, refusing}
use Rattle.suovvamet.specs.Numbers.{form_by}

-- ---- The two lowest bits, each by a mask and by division.
pub low_bit : (flags : ℕ) → eqb (bit_and flags 1) 0 ≡ eqb (flags % 2) 0
low_bit flags = let e : bit_and flags 1 ≡ flags % 2 = omega (arith, and_pow flags 0) in ap (λ (n : ℕ). eqb n 0) e

twice : (b : ℕ) → eqb (b * 2) 0 ≡ eqb b 0
twice b = grind arith

pub next_bit : (flags : ℕ) → eqb (bit_and flags 2) 0 ≡ eqb (flags / 2 % 2) 0
next_bit flags = let e : bit_and flags 2 ≡ flags / 2 % 2 * 2 = omega (arith, and_pow flags 1) in ap (λ (n : ℕ). eqb n 0) e ∙ twice (flags / 2 % 2)

-- ---- Whatever the other bits are.
by_bits : (flags low next : ℕ) → flags % 2 ≡ low → flags / 2 % 2 ≡ next → form_by flags ≡ record { strict = not (eqb low 0); long = not (eqb next 0) }
by_bits flags low next e f = ap₂ (λ (b c : ℕ). record { strict = not (eqb b 0); long = not (eqb c 0) }) e f

pub flags_default : (rest : ℕ) → form_by (4 * rest) ≡ masking false
flags_default rest = by_bits (4 * rest) 0 0 (omega arith) (omega arith)

pub flags_strict : (rest : ℕ) → form_by (4 * rest + 1) ≡ refusing false
flags_strict rest = by_bits (4 * rest + 1) 1 0 (omega arith) (omega arith)

pub flags_long : (rest : ℕ) → form_by (4 * rest + 2) ≡ masking true
flags_long rest = by_bits (4 * rest + 2) 0 1 (omega arith) (omega arith)

pub flags_long_strict : (rest : ℕ) → form_by (4 * rest + 3) ≡ refusing true
flags_long_strict rest = by_bits (4 * rest + 3) 1 1 (omega arith) (omega arith)
