-- What replay keeps for a case with call 7, the checker of a plan, and with call 8, the planner: the text of a right answer, which is the only one (plans,
-- `check_settled`; planner, `plan_settled`).
use Rattle.std.specs.Prelude.{ℕ, ◌≡◌, Bool, true, List, length, take, Result}
use Rattle.records.specs.declared.Form.{Form}
use Rattle.plans.specs.Judging.{Judges}
use Rattle.refusals.specs.declared.Refusal.{Refusal}
use Rattle.steprooms.specs.Steps.{steps_of}
use Rattle.plans.specs.declared.answers.Step.{Step}
use Rattle.steplines.specs.Lines.{judged_text, PlanPut}
use Rattle.text.specs.Text.{Put}
use Rattle.kept.specs.Kept.{begin_of}

-- Of the installed table t, the new one u and the bytes of steps.
pub record CheckKept (form : Form) (t u bytes : List ℕ) (at r : ℕ) (o o' : List ℕ) : Type 0 where
  pub answer : Result Bool Refusal
  pub right : Judges form t u (steps_of bytes) answer
  pub kept : Put (judged_text answer) (begin_of at) r o o'

-- Of the installed table t, the new one u and a room of n steps, the first of 65,535.
pub record PlanKept (form : Form) (t u : List ℕ) (n at r : ℕ) (o o' : List ℕ) : Type 0 where
  pub steps : List Step
  pub whole : length steps ≡ 65535
  pub kept : PlanPut form t u (take n steps) true (begin_of at) r o o'
