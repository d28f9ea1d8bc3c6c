-- `assign::leaf_sets` meets its contract. The loop's invariant: the slots under the first p positions have their leaves. Assumes nothing.
use Prim.Native.Nat.{◌≤◌}
use Rattle.assign.proofs.LeafLaws.{Leaves}
use Rattle.assign.proofs.leaf_sets.Given as goal

abbrev pub invariant-loop-p : goal.invariant-loop-p
invariant-loop-p l = (l.p ≤ 16) × Leaves l.covering l.fill l.p l.slots
