-- `hops::ranking::lowest` meets its contract. The loop's invariant: the best of the hop and of those that are left is the lowest of the set.
-- Assumes nothing.
use Prim.Native.Nat.{◌<◌}
use Rattle.positions.specs.Runs.{no_hop}
use Rattle.hops.proofs.RankLaws.{Choosing}
use Rattle.hops.proofs.ranking.lowest.Given as goal

abbrev pub invariant-loop-rest : goal.invariant-loop-rest
invariant-loop-rest l = (l.best < no_hop) × Choosing l.ranks l.set l.best l.rest

abbrev pub decreases-loop-rest : goal.decreases-loop-rest
decreases-loop-rest l = l.rest
