-- `steplines::plan_text` meets its contract: the text is that of the planner's answer, with its refusal said. Assumes nothing.
use mathlib.Core.Path.{sym, ap, ◌∙◌}
use Prim.Native.Nat.{ℕ}
use lib.ListN.{take}
use lib.Seq.{take-length}
use Rattle.std.specs.Prelude.{Option, Result}
use Rattle.text.specs.declared.Refused.{Refused}
use Rattle.text.proofs.Puts.{put_as}
use Rattle.text.proofs.Replies.{said_as}
use Rattle.steplines.specs.Lines.{planned_text}
use Rattle.steplines.proofs.plan_text.Goals as goal

pub returns-clause-text : goal.returns-clause-text
returns-clause-text c =
    let a = c.args in
    let left = c.plan.new.steps in
    let said = said_as _ _ c.map_err-answer.ensures.cases in
    let whole = ap (λ (n : ℕ). take n left) (sym c.plan.auto.steps) ∙ take-length left in record { answer = c.plan.result; left = left; plans = rw whole c.plan.ensures; text = put_as (ap (λ (r : Result (Option ℕ) Refused). planned_text a.total r left) said) c.put_planned.ensures }
