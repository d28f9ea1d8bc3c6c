-- `assign::leaf_slots` meets its contract. The loop's invariant: the positions of the last level before p are marked. Assumes nothing.
use Prim.Native.Nat.{◌≤◌}
use Rattle.assign.proofs.AssignLaws.{LeavesMarked}
use Rattle.assign.proofs.leaf_slots.Given as goal

abbrev pub invariant-loop-p : goal.invariant-loop-p
invariant-loop-p l = (l.p ≤ 31) × LeavesMarked l.covering l.hops l.fill l.other l.p
