-- `hops::ranking::rest_of` meets its contract. Assumes nothing.
use Prim.Native.Nat.{◌-◌}
use native.Mathlib.Omega.{arith}
use lib.Bits.{and_le_r}
use Rattle.hops.proofs.RankLaws.{shows_rest}
use Rattle.hops.proofs.ranking.rest_of.Goals as goal

pub returns : goal.returns
returns c = (λ h s p. shows_rest c.args.set h s p c.requires, omega (arith, and_le_r c.args.set (c.args.set - 1), c.requires))
