-- `assign::leaf_slots` meets its contract. The loop's invariant: the positions of the last level before p are marked. Assumes nothing.
use native.Mathlib.Omega.{arith}
use Rattle.assign.proofs.AssignLaws.{leaves_start, leaves_next, leaves_end}
use Rattle.assign.proofs.leaf_slots.Goals as goal

pub loop-p-init : goal.loop-p-init
loop-p-init c = (omega arith, leaves_start _ _ _)

pub loop-p-preserved : goal.loop-p-preserved
loop-p-preserved c =
    let l = c.loop-p in
    let lt = c.loop-p-test.true in
    let v = c.leaf_value-v in
    (omega arith, leaves_next l.invariant.1 lt v.result v.ensures.result_value c.with_entry-other.result c.with_entry-other.ensures)

pub returns : goal.returns
returns c = leaves_end c.loop-p.invariant.1 (omega arith) c.push_l4.result c.push_l4.ensures
