-- Which refusals the checker gives: the first number in the documents' order whose condition holds, exactly then. Assumes nothing.
use Prim.Native.Nat.{ℕ, ◌≤◌}
use mathlib.Core.Path.{◌≡◌, refl, sym, ◌∙◌, ap}
use mathlib.Core.Bool.{true, false, Bool}
use mathlib.Core.List.{List}
use mathlib.Core.Logic.{◌⊎◌, inl, inr, ◌↔◌}
use native.Mathlib.Omega.{arith}
use Rattle.std.specs.Prelude.{Result, Ok, Err}
use Rattle.refusals.specs.declared.Refusal.{Refusal}
use Rattle.refusals.specs.Numbers.{number_of}
use Rattle.refusals.specs.Rules.{gives, judge, refuses}
use Rattle.refusals.specs.Order.{First, None}
use Rattle.refusals.proofs.Judged.{gives-exactly}
use Rattle.refusals.proofs.Answered.{says_refused}
use Rattle.records.specs.declared.Form.{Form}
use Rattle.table.proofs.AtEight.{table-numbers}
use Rattle.plans.specs.declared.answers.Step.{Step}
use Rattle.plans.specs.Judging.{check_rules, judged_says, Accepts, Judges}
use Rattle.plans.specs.Conditions.{TablesCondition, of_installed, of_new_lem, PlanCondition, of_tables, of_step}
use Rattle.plans.proofs.Calls.{judged_same, yes_exactly}
use Rattle.plans.proofs.Tested.{check_ranked, check_tests}

-- The numbers that the conditions of two tables have.
pub tables_numbers : (form : Form) (t u : List ℕ) (n i : ℕ) → TablesCondition form t u n i → ((3 ≤ n) × (n ≤ 8)) ⊎ ((23 ≤ n) × (n ≤ 28))
tables_numbers form t u n i (of_installed c) = inl (table-numbers form false t n i c)
tables_numbers form t u n i (of_new_lem {n = m} c) = let k = table-numbers form false u m i c in inr (omega (arith, k.0), omega (arith, k.1))

module _ (form : Form) (t u : List ℕ) (ss : List Step) where
  -- Nothing is refused exactly where no condition holds.
  pub kept-exactly : judge (check_rules form t u ss) true ≡ gives true ↔ None (PlanCondition form t u ss)
  kept-exactly =
      let exactly = gives-exactly (check_rules form t u ss) (check_tests form t u ss) true in
      (λ e. (exactly.0 e).0, λ f. exactly.1 (f, refl))

  module _ (r : Result Bool Refusal) (s : Judges form t u ss r) where
    -- It refuses with a number and an index exactly when their condition holds and none before it in the documents' order does.
    pub check_refused : (number index : ℕ) → judged_says r ≡ refuses number index ↔ First (PlanCondition form t u ss) number index
    check_refused = says_refused judged_says judged_same (check_rules form t u ss) (check_tests form t u ss) (check_ranked form t u ss).order s.word r s.answer

    -- Where none holds it says yes exactly to a plan without a detour, and else no.
    pub check_yes : None (PlanCondition form t u ss) → r ≡ Ok true ↔ Accepts t u ss
    check_yes f = yes_exactly form t u ss r s (kept-exactly.1 f)

    pub check_no : None (PlanCondition form t u ss) → r ≡ Ok false ↔ (Accepts t u ss → ⊥)
    check_no f = (λ e a. yes_not_no (sym ((check_yes f).1 a) ∙ e), λ n. go r refl n)
      where
        answer : Bool → Result Bool Refusal
        answer = Ok

        yes_not_no : answer true ≡ answer false → ⊥
        yes_not_no e = let z : ◌≡◌ {A = ℕ} 0 1 = cc in omega arith

        go : (q : Result Bool Refusal) → r ≡ q → (Accepts t u ss → ⊥) → r ≡ Ok false
        go (Ok true) e n = absurd (n ((check_yes f).0 e))
        go (Ok false) e n = e
        go (Err x) e n = absurd (f (number_of x.cause) x.index ((check_refused (number_of x.cause) x.index).0 (ap judged_says e)).0)

    -- It gives the numbers 3 to 8, 23 to 28 and 13 alone.
    pub check_numbers : (number index : ℕ) → judged_says r ≡ refuses number index → (((3 ≤ number) × (number ≤ 8)) ⊎ ((23 ≤ number) × (number ≤ 28))) ⊎ (number ≡ 13)
    check_numbers number index e = go number index ((check_refused number index).0 e).0
      where
        go : (n i : ℕ) → PlanCondition form t u ss n i → (((3 ≤ n) × (n ≤ 8)) ⊎ ((23 ≤ n) × (n ≤ 28))) ⊎ (n ≡ 13)
        go n i (of_tables c) = inl (tables_numbers form t u n i c)
        go n i (of_step lt f) = inr refl
