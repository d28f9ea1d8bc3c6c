-- The checker's statement: for every two tables and list of steps, what it answers.
use Rattle.std.specs.Prelude.{ℕ, suc, ◌+◌, ◌-◌, ◌≡◌, Bool, true, false, cond, List, [], ◌∷◌, ◌++◌, map, ◌↔◌, Result}
use Rattle.theory.specs.Results.{start_of}
use Rattle.refusals.specs.declared.Refusal.{Refusal}
use Rattle.refusals.specs.Numbers.{reply_of}
use Rattle.refusals.specs.Rules.{Rule, rule, Reply, gives, judge}
use Rattle.records.specs.Wire.{routes}
use Rattle.records.specs.Sized.{route}
use Rattle.records.specs.declared.Form.{Form}
use Rattle.table.specs.TableRules.{table_rules}
use Rattle.steps.specs.Steps.{putting, taking, Hitless}
use Rattle.steps.specs.Steps as steps
use Rattle.plans.specs.declared.answers.Step.{Step}
use Rattle.checking.specs.Checking.{puts}
use Rattle.checking.specs.Checking.{step_kept}

-- The step that a struct stands for: its address is masked, and a take's hop is not read.
abbrev pub step_of : Step → steps.Step
step_of s = cond (puts s.put) (putting (route (start_of (32 - s.len) s.addr) s.len s.hop)) (taking (start_of (32 - s.len) s.addr) s.len)

-- Rule 13 for the steps from step i on.
unfoldable pub step_rules : Form → ℕ → List Step → List Rule
step_rules form i [] = []
step_rules form i (s ∷ ss) = rule 13 i (step_kept form.strict (puts s.put) s.addr s.len s.hop) ∷ step_rules form (suc i) ss

-- The same faults in the new table: numbers by 20 higher.
abbrev pub of_new : Rule → Rule
of_new r = rule (r.number + 20) r.index r.kept

-- The rules of both tables, for either call.
unfoldable pub tables_rules : Form → List ℕ → List ℕ → List Rule
tables_rules form t u = table_rules form false t ++ map of_new (table_rules form false u)

-- The rules 3 to 8 for the installed table, 23 to 28 for the new one, then 13.
unfoldable pub check_rules : Form → List ℕ → List ℕ → List Step → List Rule
check_rules form t u ss = tables_rules form t u ++ step_rules form 0 ss

-- It says yes or no, or refuses.
abbrev pub judged_says : Result Bool Refusal → Reply Bool
judged_says = reply_of (λ b. b)

-- A check of both tables says that they are accepted, or refuses.
abbrev pub tables_says : Result (Unit {0}) Refusal → Reply Bool
tables_says = reply_of (λ done. true)

-- The steps change the installed table t to the new one u without a detour, with never more than 1,024 routes.
abbrev pub Accepts : List ℕ → List ℕ → List Step → Type 0
Accepts t u ss = Hitless 32 1024 (routes t) (routes u) (map step_of ss)

-- The statement: where no rule is broken the answer is yes exactly if they do; else it is the refusal.
pub record Judges (form : Form) (t u : List ℕ) (ss : List Step) (r : Result Bool Refusal) : Type 0 where
  pub word : Bool
  pub answer : judged_says r ≡ judge (check_rules form t u ss) word
  pub exactly : judge (check_rules form t u ss) true ≡ gives true → (word ≡ true) ↔ Accepts t u ss
