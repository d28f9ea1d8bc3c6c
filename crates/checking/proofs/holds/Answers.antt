-- `checking::holds` meets its contract. Assumes nothing.
use native.Mathlib.Omega.{arith}
use lib.Bits.{xor_add_and}
use Rattle.checking.proofs.Stepping.{shl_agree}
use Rattle.checking.proofs.holds.Goals as goal

pub overflow_cast-result : goal.overflow_cast-result
overflow_cast-result c = let x = c.ranges.x.fits in let addr = c.ranges.addr.fits in omega (arith, xor_add_and c.args.x c.args.addr)

pub returns : goal.returns
returns c = shl_agree c.args.len c.args.x c.args.addr c.requires c.ranges.x.fits c.ranges.addr.fits
