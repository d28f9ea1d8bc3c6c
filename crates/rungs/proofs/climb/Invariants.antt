-- `rungs::climb` meets its contract. The loop's invariant is `Climbing`. Assumes nothing.
use Rattle.rungs.proofs.Climbing.{Climbing}
use Rattle.rungs.proofs.climb.Given as goal

abbrev pub invariant-loop-k : goal.invariant-loop-k
invariant-loop-k l = Climbing l.table l.x l.hops l.k

abbrev pub decreases-loop-k : goal.decreases-loop-k
decreases-loop-k l = l.k
