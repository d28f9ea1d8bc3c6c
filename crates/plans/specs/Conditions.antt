-- The documents' conditions for the refusals of the calls of plans, as facts: each by its number and, where a record or a step is at fault, its index (else
-- 0). The form says how tables and steps are read. No contract cites these; theorems of proofs/ say that the answers are these facts.
use Rattle.std.specs.Prelude.{ℕ, ◌+◌, ◌-◌, ◌%◌, ◌^◌, ◌≤◌, ◌<◌, ◌≡◌, true, false, List, length}
use Rattle.records.specs.declared.Form.{Form}
use Rattle.table.specs.Conditions.{TableCondition}
use Rattle.plans.specs.declared.answers.Step.{Step}
use Rattle.plans.specs.Following.{step_at}

-- Of the two tables, for either call. 3 to 8: the installed table's. 23 to 28: the new one's, by the same faults.
pub data TablesCondition (form : Form) (t u : List ℕ) : ℕ → ℕ → Type 0 where
  of_installed : {n i : ℕ} → TableCondition form false t n i → TablesCondition form t u n i
  of_new_lem : {n i : ℕ} → TableCondition form false u n i → TablesCondition form t u (n + 20) i

-- What a step keeps: a length up to 32, no host bits where the choice is strict, and, if it is a put, a hop up to 63.
pub record StepKept (form : Form) (s : Step) : Type 0 where
  pub length_kept : s.len ≤ 32
  pub host_kept : form.strict ≡ true → s.addr % 2 ^ (32 - s.len) ≡ 0
  pub hop_kept : (s.put ≡ 0 → ⊥) → s.hop ≤ 63

-- Of the checker. 13: a step does not keep this.
pub data PlanCondition (form : Form) (t u : List ℕ) (ss : List Step) : ℕ → ℕ → Type 0 where
  of_tables : {n i : ℕ} → TablesCondition form t u n i → PlanCondition form t u ss n i
  of_step : {i : ℕ} → i < length ss → (StepKept form (step_at ss i) → ⊥) → PlanCondition form t u ss 13 i
