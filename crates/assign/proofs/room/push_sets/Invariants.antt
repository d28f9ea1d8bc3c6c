-- `assign::room::push_sets` meets its contract. The loop's invariant: the words of the positions under p and after are laid, and the writer's mask
-- is theirs. Assumes nothing.
use Prim.Native.Nat.{◌+◌, ◌*◌, ◌≤◌}
use Rattle.assign.proofs.PackedLaws.{Laying}
use Rattle.assign.proofs.room.push_sets.Given as goal

abbrev pub invariant-loop-p : goal.invariant-loop-p
invariant-loop-p l = (l.p ≤ 15) × Laying l.sets l.top l.initial.work (2 * l.p + 1) l.node l.work
