-- `assign::fold_sets` meets its contract. The loop's invariant: the positions from b on are folded. Assumes nothing.
use Prim.Native.Nat.{suc, ◌-◌}
use mathlib.Core.Path.{◌≡◌}
use native.Mathlib.Omega.{arith}
use Rattle.assign.proofs.AssignLaws.{folded_none, folded_next}
use Rattle.assign.proofs.fold_sets.Goals as goal

pub loop-b-init : goal.loop-b-init
loop-b-init c = (omega arith, folded_none _)

pub loop-b-preserved : goal.loop-b-preserved
loop-b-preserved c =
    let l = c.loop-b in
    let e : l.b ≡ suc (l.b - 1) = omega arith in
    (omega arith, folded_next (rw e at l.invariant.1) (omega arith) c.combine.result c.combine.ensures)
