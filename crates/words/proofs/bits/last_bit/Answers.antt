-- `words::bits::last_bit` meets its contract. Assumes nothing.
use mathlib.Core.Path.{◌≡◌}
use Prim.Native.Nat.{ℕ, ◌*◌, ◌%◌, ◌^◌, ◌≤◌}
use native.Mathlib.Omega.{arith}
use lib.Pow.{pow_pos, pow_mono}
use lib.Count.{leading_le}
use Rattle.words.proofs.BitLaws.{last_found}
use Rattle.words.proofs.bits.last_bit.Goals as goal

-- One shifted by k, which fits.
shifted : (k : ℕ) → k ≤ 32 → 1 * 2 ^ k % 2 ^ 64 ≡ 2 ^ k
shifted k l = omega (arith, pow_mono {j = 32} l)

pub nonzero_rem-low : goal.nonzero_rem-low
nonzero_rem-low c = omega (arith, shifted c.args.k c.requires, pow_pos c.args.k)

pub overflow_cast-result : goal.overflow_cast-result
overflow_cast-result c = record { fits = omega (arith, leading_le 64 (c.args.x % (1 * 2 ^ c.args.k % 2 ^ 64))) }

pub overflow_sub-result : goal.overflow_sub-result
overflow_sub-result c = leading_le 64 (c.args.x % (1 * 2 ^ c.args.k % 2 ^ 64))

pub returns : goal.returns
returns c = rw (shifted c.args.k c.requires) (last_found c.args.x c.args.k c.requires)
