-- `hitless::last_left` meets its contract. Assumes nothing.
use Rattle.plans.specs.Following.{step_at}
use Rattle.plans.proofs.Following.{for_true, for_false, last_own, last_other}
use Rattle.plans.proofs.hitless.last_left.Goals as goal
use Rattle.plans.proofs.hitless.last_left.Goals.{then-is_for, else-is_for}

pub loop-s-preserved : goal.loop-s-preserved
loop-s-preserved c =
    let l = c.loop-s in
    let a = c.args in
    elim c.if-is_for.branch [
      | then-is_for w ↦ rw (w.found-is, w.left.ensures) (last_own a.steps.now a.x a.len l.s-index (for_true c.requires.1 (step_at a.steps.now l.s-index) c.is_for.ensures w.if-is_for.true))
      | else-is_for w ↦ rw w.found-is (last_other a.steps.now a.x a.len l.s-index (for_false c.requires.1 (step_at a.steps.now l.s-index) c.is_for.ensures w.if-is_for.false) l.found l.invariant)
    ]
