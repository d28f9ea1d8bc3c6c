-- The steps so far keep their rule, and their addresses are addresses.
use Rattle.std.specs.Prelude.{ℕ, ◌^◌, ◌<◌, ◌≡◌, true}
use Rattle.plans.specs.Following.{step_at}
use Rattle.plans.proofs.Rules.{kept}
use Rattle.plans.proofs.check_plan.Given as goal

abbrev pub invariant-loop-index : goal.invariant-loop-index
invariant-loop-index l = (j : ℕ) → j < l.index → (kept l.form (step_at l.steps j) ≡ true) × ((step_at l.steps j).addr < 2 ^ 32)
