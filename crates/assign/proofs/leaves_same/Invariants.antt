-- `assign::leaves_same` meets its contract. The loop's invariant: while the answer is yes, it is so at the positions of the last level before p.
-- Assumes nothing.
use mathlib.Core.Path.{◌≡◌}
use mathlib.Core.Bool.{true}
use Rattle.assign.proofs.AssignLaws.{LeavesSame}
use Rattle.assign.proofs.leaves_same.Given as goal

abbrev pub invariant-loop-p : goal.invariant-loop-p
invariant-loop-p l = l.same ≡ true → LeavesSame l.covering l.hops l.fill l.p
