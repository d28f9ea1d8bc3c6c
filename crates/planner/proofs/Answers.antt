-- The planner's answers by what the checks of the two tables say. Assumes nothing.
use Prim.Native.Nat.{ℕ, ◌≤◌}
use mathlib.Core.Path.{◌≡◌, refl, sym, ap, ◌∙◌}
use mathlib.Core.Bool.{Bool, true, false}
use mathlib.Core.List.{List}
use native.Mathlib.Omega.{arith}
use lib.Dec.{ltb}
use lib.ListN.{length}
use borrow.Author.Tests.{ltb-false}
use Rattle.std.specs.Prelude.{Option, None, Some, Result, Ok, Err}
use Rattle.refusals.specs.declared.Refusal.{Refusal}
use Rattle.refusals.specs.Numbers.{number_of}
use Rattle.refusals.proofs.Replies.{reply_same}
use Rattle.refusals.proofs.Judged.{refuses_any}
use Rattle.plans.proofs.Rules.{both_given}
use Rattle.refusals.specs.Rules.{gives, refuses, judge}
use Rattle.refusals.proofs.Judged.{gives_any}
use Rattle.records.specs.Wire.{records, routes}
use Rattle.records.specs.Sized.{Bytes}
use Rattle.records.specs.declared.Form.{Form}
use Rattle.table.specs.Checking.{check_reply}
use Rattle.table.specs.Conditions.{Lawful}
use Rattle.table.proofs.AtEight.{accepted-table}
use Rattle.steps.specs.Planned.{together}
use Rattle.plans.specs.Judging.{tables_rules}
use Rattle.planner.specs.Planning.{plan_of, chosen, planned_says, over, Plans, steps_by}
use Rattle.plans.specs.declared.answers.Step.{Step}

-- Answers that say the same are the same.
pub planned_same : (a b : Result (Option ℕ) Refusal) → planned_says a ≡ planned_says b → a ≡ b
planned_same = reply_same (λ p. p) (λ a b e. e)

-- Both tables are lawful where both checks give.
pub both_lawful : (form : Form) (t u : List ℕ) → Bytes t → Bytes u → {m l : ℕ} → check_reply form false t ≡ gives m → check_reply form false u ≡ gives l
    → Lawful false (routes t) × Lawful false (routes u)
both_lawful form t u bytes bytes' {m} {l} valid valid' =
    ((accepted-table (records t) m form false t bytes valid).0, (accepted-table (records u) l form false u bytes' valid').0)

module _ (form : Form) (t u : List ℕ) (room : List Step) where
  -- Where a table is refused nothing is written.
  pub plans_refused : {r : Refusal} → judge (tables_rules form t u) true ≡ refuses (number_of r.cause) r.index → Plans form t u room (Err r) room
  plans_refused {r} e = record { answer = sym (refuses_any (tables_rules form t u) true (chosen t u (length room)) (number_of r.cause) r.index e); steps = refl }

  -- Where both are accepted, the answer is the one chosen.
  pub plans_chosen : judge (tables_rules form t u) true ≡ gives true → (p : Option ℕ) (zs : List Step) → p ≡ chosen t u (length room) → zs ≡ over (steps_by p (plan_of t u)) room
      → Plans form t u room (Ok p) zs
  plans_chosen k p zs e w =
      record { answer = ap gives e ∙ sym (gives_any (tables_rules form t u) true true (chosen t u (length room)) k); steps = w }

-- ---- What an answer that satisfies the statement says.

module _ (form : Form) (t u : List ℕ) where
  pub kept-lawful : Bytes t → Bytes u → judge (tables_rules form t u) true ≡ gives true → Lawful false (routes t) × Lawful false (routes u)
  kept-lawful bytes bytes' k = let both = both_given form t u {a = true} k in both_lawful form t u bytes bytes' both.0.1 both.1.1

  module _ (n : ℕ) (r : Result (Option ℕ) Refusal) (right : planned_says r ≡ judge (tables_rules form t u) (chosen t u n)) where
    -- Where no rule is broken, it is the one chosen.
    pub is_chosen : judge (tables_rules form t u) true ≡ gives true → r ≡ Ok (chosen t u n)
    is_chosen k = planned_same r (Ok (chosen t u n)) (right ∙ gives_any (tables_rules form t u) true true (chosen t u n) k)

    -- A plan of k steps: no rule is broken, the prefixes are few, and the plan is as long as the answer says and fits.
    pub record Given (k : ℕ) : Type 0 where
      pub kept : judge (tables_rules form t u) true ≡ gives true
      pub few : together (routes t) (routes u) ≤ 1024
      pub long : k ≡ length (plan_of t u)
      pub fits : k ≤ n

    pub given : (k : ℕ) → r ≡ Ok (Some k) → Given k
    given k e = go (ltb 1024 (together (routes t) (routes u))) refl (ltb n (length (plan_of t u))) refl (is_chosen ok)
      where
        answer : Option ℕ → Result (Option ℕ) Refusal
        answer = Ok

        says : judge (tables_rules form t u) (chosen t u n) ≡ gives (Some k)
        says = sym right ∙ ap planned_says e

        ok : judge (tables_rules form t u) true ≡ gives true
        ok = gives_any (tables_rules form t u) (chosen t u n) (Some k) true says

        go : (a : Bool) → ltb 1024 (together (routes t) (routes u)) ≡ a → (b : Bool) → ltb n (length (plan_of t u)) ≡ b → r ≡ Ok (chosen t u n) → Given k
        go true p b q c = let y : answer (Some k) ≡ answer None = rw p at (sym e ∙ c) in let z : ◌≡◌ {A = ℕ} 0 1 = cc in absurd (omega arith)
        go false p true q c = let y : answer (Some k) ≡ answer None = rw (p, q) at (sym e ∙ c) in let z : ◌≡◌ {A = ℕ} 0 1 = cc in absurd (omega arith)
        go false p false q c =
            let y : answer (Some k) ≡ answer (Some (length (plan_of t u))) = rw (p, q) at (sym e ∙ c) in
            let z : k ≡ length (plan_of t u) = cc in
            record { kept = ok; few = ltb-false 1024 _ p; long = z; fits = omega (arith, ltb-false n (length (plan_of t u)) q) }
