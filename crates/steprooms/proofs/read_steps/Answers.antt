-- `steprooms::read_steps` meets its contract. Assumes nothing.
use mathlib.Core.Path.{◌≡◌, ◌∙◌}
use native.Mathlib.Omega.{arith}
use lib.ListN.{length}
use Rattle.steprooms.proofs.Filled.{filled_none, filled_next, filled_all}
use Rattle.steprooms.proofs.read_steps.Goals as goal

pub loop-i-init : goal.loop-i-init
loop-i-init c = filled_none c.args.bytes.now

pub loop-i-preserved : goal.loop-i-preserved
loop-i-preserved c =
    let l = c.loop-i in
    rw c.step_at.ensures (filled_next c.args.bytes.now l.steps l.i (omega (arith, l.auto.steps, c.loop-i-test.true)) l.invariant)

pub returns : goal.returns
returns c =
    let l = c.loop-i in
    let all : l.i ≡ length c.args.steps.now = omega arith in
    filled_all c.args.bytes.now l.steps l.i (all ∙ c.requires) (omega (arith, l.auto.steps)) l.invariant
