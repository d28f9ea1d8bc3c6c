-- The steps by their places.
use Rattle.std.specs.Prelude.{ℕ, List, get_or}
use Rattle.plans.specs.declared.answers.Step.{Step}

-- Step i of a list; past its end, some step.
abbrev pub step_at : List Step → ℕ → Step
step_at ss i = get_or ss i (record { addr = 0; len = 0; hop = 0; put = 0; unread = 0 })
