-- `hopruns::combining::lay_shared` meets its contract. The loop's invariant: what is shared is laid so far, and the rest is shared by what is left of both
-- runs, which stand above. Assumes nothing.
use Prim.Native.Nat.{◌+◌, ◌-◌}
use Rattle.hopruns.proofs.Steps.{Sharing}
use Rattle.hopruns.proofs.combining.lay_shared.Given as goal

abbrev pub invariant-loop-i : goal.invariant-loop-i
invariant-loop-i l = Sharing l.initial.work l.a l.a_end l.b l.b_end l.at l.work l.n l.i l.j

abbrev pub decreases-loop-i : goal.decreases-loop-i
decreases-loop-i l = (l.a_end - l.i) + (l.b_end - l.j)
