-- `hopruns::leaves::point_leaves` meets its contract. The loop's invariant: the first c slots are pointed. Assumes nothing.
use Prim.Native.Nat.{◌≤◌}
use Rattle.hopruns.proofs.LeafLaws.{Pointing}
use Rattle.hopruns.proofs.leaves.point_leaves.Given as goal

abbrev pub invariant-loop-c : goal.invariant-loop-c
invariant-loop-c l =
    (l.c ≤ 32) × Pointing l.covering l.fill l.occupied l.at l.c l.initial.from l.initial.to l.from l.to
