-- `hops::smallest` meets its contract. Assumes nothing.
use mathlib.Core.Path.{◌≡◌}
use native.Mathlib.Omega.{arith}
use lib.Count.{count_trailing_zeros}
use Rattle.theory.specs.Results.{smallest}
use Rattle.words.proofs.BitLaws.{trailing_lowest}
use Rattle.hops.proofs.SetLaws.{shows-smallest}
use Rattle.hops.proofs.smallest.Goals as goal

pub returns : goal.returns
returns c = (
  λ s p.
      let lowest : count_trailing_zeros 64 c.args.set ≡ smallest s = shows-smallest c.args.set s p c.requires in
      omega (arith, (trailing_lowest 64 c.args.set c.requires p.small).inside),
  omega arith,
)
