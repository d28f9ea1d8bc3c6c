-- `gather::gather_run` meets its contract. The loop's invariant: the records from lo up to i are gathered, and the word says which slots have
-- one of them. Assumes nothing.
use Prim.Native.Nat.{◌-◌, ◌*◌, ◌≤◌}
use Rattle.gather.proofs.GatherSlots.{Slots}
use Rattle.gather.proofs.GatherSteps.{Passed}
use Rattle.gather.proofs.gather_run.Given as goal

abbrev pub invariant-loop-i : goal.invariant-loop-i
invariant-loop-i l =
    (l.lo ≤ l.i) × (l.i ≤ l.hi) × Passed l.size l.table l.lo l.i l.depth (l.key * 2) l.first l.end l.present × Slots l.first l.end l.occupied

abbrev pub decreases-loop-i : goal.decreases-loop-i
decreases-loop-i l = l.hi - l.i
