-- `consistent::aggregate_consistent_map` meets its contract: one cycle of calls, by falling bits below the node. The loop's invariant: the
-- node is found, the word has the slots to visit, and the node's slots before c are written. Assumes nothing.
use Prim.Native.Nat.{◌-◌, ◌*◌}
use Rattle.nodes.specs.Node.{reach, run}
use Rattle.nodes.proofs.OutputWalk.{Walked}
use Rattle.gather.proofs.BusySlots.{Busy}
use Rattle.consistent.proofs.MapLaws.{map_slot, Found}
use Rattle.consistent.proofs.+aggregate_consistent_map.Given as goal

abbrev pub invariant-loop-c : goal.invariant-loop-c
invariant-loop-c l =
    Found l.size l.table l.lo l.hi l.depth (l.key * 2) l.inherited l.first l.end l.hops l.entries × (Busy l.entries l.hops l.depth (l.key * 2) (map_slot l.size l.table l.first l.end l.hops l.depth (l.key * 2)) (run l.size l.table l.lo l.hi) l.busy
    × Walked l.size l.entries l.hops l.depth (l.key * 2) (map_slot l.size l.table l.first l.end l.hops l.depth (l.key * 2)) l.c l.n l.initial.out l.out)

abbrev pub decreases-loop-c : goal.decreases-loop-c
decreases-loop-c l = 32 - l.c

abbrev pub decreases-aggregate_consistent_map : goal.decreases-aggregate_consistent_map
decreases-aggregate_consistent_map l = reach l.size - l.depth
