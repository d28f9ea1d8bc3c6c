-- The text of steps and of the checker's answer, in ASCII: each line ends in a line feed.
use Rattle.std.specs.Prelude.{ℕ, Bool, cond, ltb, length, take, List, [], ◌∷◌, ◌++◌, true, false, Option, None, Some, Result, Ok, Err}
use Rattle.refusals.specs.declared.Refusal.{Refusal}
use Rattle.records.specs.Sized.{route}
use Rattle.plans.specs.declared.answers.Step.{Step}
use Rattle.checking.specs.Checking.{puts}
use Rattle.records.specs.declared.Form.{Form}
use Rattle.planner.specs.Planning.{Plans}
use Rattle.text.specs.declared.Refused.{Refused}
use Rattle.text.specs.Text.{Put, decimal, line_of, refused_line, refusal_line}
use Rattle.text.specs.Answers.{as_said}

-- `yes`, `no` or the refusal.
unfoldable pub judged_text : Result Bool Refusal → List ℕ
judged_text (Ok true) = 121 ∷ 101 ∷ 115 ∷ 10 ∷ []
judged_text (Ok false) = 110 ∷ 111 ∷ 10 ∷ []
judged_text (Err refusal) = refusal_line refusal

-- `put` or `take`, and a space.
unfoldable pub word_of : Bool → List ℕ
word_of put = cond put (112 ∷ 117 ∷ 116 ∷ 32 ∷ []) (116 ∷ 97 ∷ 107 ∷ 101 ∷ 32 ∷ [])

-- A step's line: `put 10.0.0.0/8 1`, or `take 10.0.0.0/8`.
unfoldable pub step_line : Step → List ℕ
step_line s = word_of (puts s.put) ++ line_of (puts s.put) (route s.addr s.len s.hop)

-- The lines of steps, one after another.
unfoldable pub step_lines : List Step → List ℕ
step_lines [] = []
step_lines (s ∷ ss) = step_line s ++ step_lines ss

-- The end of a plan of n steps: the line `steps N`, where `total` says so.
unfoldable pub steps_end : Bool → ℕ → List ℕ
steps_end total n = cond total (115 ∷ 116 ∷ 101 ∷ 112 ∷ 115 ∷ 32 ∷ decimal n ++ (10 ∷ [])) []

-- Of the planner's answer, with the steps of the room that it left: the lines of a plan; `gave up`; or the refusal, whatever its number and index. Of a plan
-- of more than 2,048 steps, which no tables have, nothing.
unfoldable pub planned_text : Bool → Result (Option ℕ) Refused → List Step → List ℕ
planned_text total (Ok (Some count)) room = cond (ltb 2048 count) [] (step_lines (take count room) ++ steps_end total count)
planned_text total (Ok None) room = 103 ∷ 97 ∷ 118 ∷ 101 ∷ 32 ∷ 117 ∷ 112 ∷ 10 ∷ []
planned_text total (Err refused) room = refused_line refused.number refused.index

-- The text of a right answer, which is the only one (planner, `plan_settled`), for a room of steps.
pub record PlanPut (form : Form) (t u : List ℕ) (room : List Step) (total : Bool) (at r : ℕ) (o o' : List ℕ) : Type 0 where
  pub answer : Result (Option ℕ) Refusal
  pub left : List Step
  pub plans : Plans form t u room answer (take (length room) left)
  pub text : Put (planned_text total (as_said answer) left) at r o o'
