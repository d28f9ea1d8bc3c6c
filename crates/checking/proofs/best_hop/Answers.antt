-- `checking::best_hop` meets its contract. Assumes nothing.
use native.Mathlib.Omega.{arith}
use Rattle.rungs.proofs.Rows.{top-low}
use Rattle.checking.proofs.best_hop.Goals as goal

pub bounds-hops-top : goal.bounds-hops-top
bounds-hops-top c = omega (arith, c.top_from-top.ensures, top-low c.args.hops.now c.args.len, c.requires)

pub returns : goal.returns
returns c = rw c.top_from-top.ensures
