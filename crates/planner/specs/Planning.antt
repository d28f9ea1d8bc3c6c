-- The planner's statement: for every two tables and room for steps, what it answers and what the room has afterwards.
use Rattle.std.specs.Prelude.{ℕ, ◌≡◌, Bool, cond, ◌||◌, List, [], ◌++◌, map, ltb, length, drop, Option, None, Some, Result, Ok, Err}
use Rattle.refusals.specs.declared.Refusal.{Refusal}
use Rattle.refusals.specs.Numbers.{reply_of}
use Rattle.refusals.specs.Rules.{Reply, judge}
use Rattle.records.specs.Wire.{routes}
use Rattle.records.specs.declared.Form.{Form}
use Rattle.steps.specs.Steps.{putting, taking}
use Rattle.steps.specs.Steps as steps
use Rattle.steps.specs.Planned.{together, plan}
use Rattle.plans.specs.declared.answers.Step.{Step}
use Rattle.plans.specs.Judging.{tables_rules}

-- The struct of a step: a put is marked 1, a take 0 and without a hop.
abbrev pub struct_of : steps.Step → Step
struct_of (putting r) = record { addr = r.addr; len = r.len; hop = r.hop; put = 1; unread = 0 }
struct_of (taking a l) = record { addr = a; len = l; hop = 0; put = 0; unread = 0 }

-- The plan from the installed table t to the new one u.
abbrev pub plan_of : List ℕ → List ℕ → List Step
plan_of t u = map struct_of (plan 32 (routes t) (routes u))

-- Does the planner give up, with room for n steps: are the prefixes together more than 1,024, or the steps more than the room?
abbrev pub gives_up : List ℕ → List ℕ → ℕ → Bool
gives_up t u n = ltb 1024 (together (routes t) (routes u)) || ltb n (length (plan_of t u))

-- The answer where no rule is broken: the number of steps, or none where it gives up.
abbrev pub chosen : List ℕ → List ℕ → ℕ → Option ℕ
chosen t u n = cond (gives_up t u n) None (Some (length (plan_of t u)))

-- It gives an answer, or refuses.
abbrev pub planned_says : Result (Option ℕ) Refusal → Reply (Option ℕ)
planned_says = reply_of (λ p. p)

-- The steps that are written: the plan where there is one, else none.
abbrev pub steps_by : Option ℕ → List Step → List Step
steps_by (Some count) plan = plan
steps_by None plan = []

abbrev pub written_by : Result (Option ℕ) Refusal → List Step → List Step
written_by (Ok p) plan = steps_by p plan
written_by (Err refusal) plan = []

-- The room with steps written from its start on.
abbrev pub over : List Step → List Step → List Step
over ss room = ss ++ drop (length ss) room

-- The statement: the answer is the refusal of the first rule broken, else it says whether there is a plan; and the room has the plan from its start
-- on where there is one, and is else as it was.
pub record Plans (form : Form) (t u : List ℕ) (room : List Step) (r : Result (Option ℕ) Refusal) (room' : List Step) : Type 0 where
  pub answer : planned_says r ≡ judge (tables_rules form t u) (chosen t u (length room))
  pub steps : room' ≡ over (written_by r (plan_of t u)) room
