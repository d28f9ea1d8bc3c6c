-- `ortc::walks::collect_sets` meets its contract: it calls itself only on a node five bits deeper. The loop's invariant: the slots from k on are
-- collected, those before have their leaves, and slot k - 1 has a record. Assumes nothing.
use Prim.Native.Nat.{◌-◌, ◌*◌, ◌≤◌, ◌<◌}
use mathlib.Core.Path.{◌≡◌}
use mathlib.Core.Bool.{true}
use Rattle.words.specs.Bits.{bit}
use Rattle.positions.specs.Runs.{hop_of}
use Rattle.nodes.specs.Node.{reach, run}
use Rattle.assign.specs.Answers.{answer_in}
use Rattle.ortc.proofs.CollectLaws.{Collecting}
use Rattle.ortc.proofs.walks.+collect_sets.Given as goal

-- What the callees ask and say, in their order; the walk itself one step lower.
abbrev pub invariant-loop-k : goal.invariant-loop-k
invariant-loop-k l =
    (l.k ≤ 32)
    × ((0 < l.k → bit l.occupied (l.k - 1) ≡ true)
    × Collecting (answer_in (run l.size l.table l.lo l.hi) (hop_of l.inherited) (hop_of l.fill)) l.covering l.fill l.depth (l.key * 2) (run l.size l.table l.lo l.hi) l.k l.top l.at l.slots l.initial.work l.work)

abbrev pub decreases-loop-k : goal.decreases-loop-k
decreases-loop-k l = l.k

abbrev pub decreases-collect_sets : goal.decreases-collect_sets
decreases-collect_sets l = reach l.size - l.depth
