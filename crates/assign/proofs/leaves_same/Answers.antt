-- `assign::leaves_same` meets its contract. The loop's invariant: while the answer is yes, it is so at the positions of the
-- last level before p. Assumes nothing.
use mathlib.Core.Path.{◌≡◌}
use native.Mathlib.Omega.{arith}
use Rattle.assign.proofs.AssignLaws.{same_unmarked}
use Rattle.assign.proofs.leaves_same.Goals as goal

pub returns : goal.returns
returns c same =
    let a = c.args in
    let ends : c.loop-p.p ≡ 31 = omega arith in
    same_unmarked a.covering.now a.hops.now a.fill (rw ends at (c.loop-p.invariant same))
