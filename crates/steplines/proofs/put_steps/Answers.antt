-- `steplines::put_steps` meets its contract. Assumes nothing.
use native.Mathlib.Omega.{arith}
use Rattle.text.proofs.Puts.{put_as, put_then}
use Rattle.steplines.proofs.StepLines.{steps_none, steps_more}
use Rattle.steplines.proofs.put_steps.Goals as goal

pub loop-s-init : goal.loop-s-init
loop-s-init c = (omega arith, steps_none c.args.steps.now _ _ (omega (arith, c.requires)))

pub loop-s-preserved : goal.loop-s-preserved
loop-s-preserved c =
    let inv = c.loop-s.invariant in
    let line = c.put_step-end.ensures in
    (omega (arith, inv.0, line.upper_bound), put_as (steps_more c.args.steps.now c.loop-s.s-index _ c.loop-s-test.true) (put_then inv.1 line.put))
