-- `maximal::aggregate_set`, which calls itself on the slots that are walked, meets its contract, by falling bits below the node. The loop's
-- invariant: the node's coverage is read, and of its slots before the next the maximal prefixes are written. Assumes nothing.
use Prim.Native.Nat.{◌-◌, ◌*◌}
use Rattle.nodes.specs.Node.{reach}
use Rattle.maximal.proofs.MaximalRoom.{Walking}
use Rattle.maximal.proofs.+aggregate_set.Given as goal

abbrev pub invariant-loop-next : goal.invariant-loop-next
invariant-loop-next l =
    Walking l.size l.table l.lo l.hi l.depth (l.key * 2) l.above l.work l.top l.first l.end l.hops l.walked l.entries l.pushed l.busy l.initial.out l.next l.at l.n l.out

abbrev pub decreases-loop-next : goal.decreases-loop-next
decreases-loop-next l = 32 - l.next

abbrev pub decreases-aggregate_set : goal.decreases-aggregate_set
decreases-aggregate_set l = reach l.size - l.depth
