-- `assign::fold_sets` meets its contract. The loop's invariant: the positions from b on are folded. Assumes nothing.
use Prim.Native.Nat.{◌≤◌}
use Rattle.assign.proofs.AssignLaws.{Folded}
use Rattle.assign.proofs.fold_sets.Given as goal

abbrev pub invariant-loop-b : goal.invariant-loop-b
invariant-loop-b l = (l.b ≤ 31) × Folded l.initial.slots l.slots l.b
