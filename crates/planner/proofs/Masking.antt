-- Host bits in the planner: an answer under the strict choice, and the room after it, are the default's wherever it is not refused by 6 or 26; and accepted
-- tables, masked and read by any form, have the default's answer and room. Assumes of a table, where it says so, that its elements are bytes.
use Prim.Native.Nat.{ℕ}
use mathlib.Core.Path.{◌≡◌, refl, sym, ap, ap₂, ◌∙◌}
use mathlib.Core.Bool.{false}
use mathlib.Core.List.{List, ◌++◌, map}
use lib.ListN.{length}
use Rattle.std.specs.Prelude.{Option, Result}
use Rattle.refusals.specs.declared.Refusal.{Refusal}
use Rattle.refusals.specs.Rules.{Rule, Reply, gives, refuses, judge}
use Rattle.records.specs.Wire.{records, masked_bytes}
use Rattle.records.specs.Sized.{Bytes}
use Rattle.records.specs.declared.Form.{Form}
use Rattle.records.specs.Forms.{by_default, strictly}
use Rattle.table.specs.Checking.{check_reply}
use Rattle.table.specs.Conditions.{Accepted}
use Rattle.table.proofs.AtEight.{table_carried, masked-routes, masked_rules}
use Rattle.plans.specs.declared.answers.Step.{Step}
use Rattle.plans.specs.Judging.{of_new, tables_rules}
use Rattle.planner.specs.Planning.{plan_of, chosen, written_by, over, Plans, planned_says}
use Rattle.plans.proofs.Rules.{old_broken, new_broken, none_broken}
use Rattle.planner.proofs.Calls.{plan_settled}

-- A check under the strict choice that is not refused by 6 is the default's.
reply_carried : (t : List ℕ) → ((i : ℕ) → check_reply strictly false t ≡ refuses 6 i → ⊥) → check_reply by_default false t ≡ check_reply strictly false t
reply_carried t six =
    table_carried (λ (x : Reply ℕ). x) (λ x y e. e) false t (records t) (check_reply strictly false t) (check_reply by_default false t) refl refl six

module _ (t u : List ℕ) (room : List Step) where
  -- What is not refused by 6 or 26 is the default's, answer and room.
  pub plan_carried : (r q : Result (Option ℕ) Refusal) (zs ws : List Step) → Plans strictly t u room r zs → Plans by_default t u room q ws
      → ((i : ℕ) → planned_says r ≡ refuses 6 i → ⊥) → ((i : ℕ) → planned_says r ≡ refuses 26 i → ⊥) → (q ≡ r) × (ws ≡ zs)
  plan_carried r q zs ws one other six more =
      plan_settled by_default t u room q r ws zs other (record { answer = one.answer ∙ sym same; steps = one.steps })
    where
      a : Option ℕ
      a = chosen t u (length room)

      says : {n i : ℕ} → judge (tables_rules strictly t u) a ≡ refuses n i → planned_says r ≡ refuses n i
      says e = one.answer ∙ e

      same : judge (tables_rules by_default t u) a ≡ judge (tables_rules strictly t u) a
      same = go (check_reply strictly false t) refl (check_reply strictly false u) refl
        where
          old : check_reply by_default false t ≡ check_reply strictly false t
          old = reply_carried t (λ i e. six i (says (old_broken strictly t u a e)))

          go : (x : Reply ℕ) → check_reply strictly false t ≡ x → (y : Reply ℕ) → check_reply strictly false u ≡ y
              → judge (tables_rules by_default t u) a ≡ judge (tables_rules strictly t u) a
          go (refuses n i) e y f = old_broken by_default t u a (old ∙ e) ∙ sym (old_broken strictly t u a e)
          go (gives m) e y f = pick y f
            where
              new : check_reply by_default false u ≡ check_reply strictly false u
              new = reply_carried u (λ i g. more i (says (new_broken strictly t u a e g)))

              pick : (y : Reply ℕ) → check_reply strictly false u ≡ y → judge (tables_rules by_default t u) a ≡ judge (tables_rules strictly t u) a
              pick (refuses n i) f = new_broken by_default t u a (old ∙ e) (new ∙ f) ∙ sym (new_broken strictly t u a e f)
              pick (gives l) f = none_broken by_default t u a (old ∙ e) (new ∙ f) ∙ sym (none_broken strictly t u a e f)

  module _ (form : Form) (bytes : Bytes t) (bytes' : Bytes u) (ok : Accepted form false t) (ok' : Accepted form false u) where
    rules : (other : Form) → tables_rules other (masked_bytes t) (masked_bytes u) ≡ tables_rules by_default t u
    unfolding tables_rules
    rules other = ap₂ (λ (rs ss : List Rule). rs ++ map of_new ss) (masked_rules form false t bytes ok other false) (masked_rules form false u bytes' ok' other false)

    -- The masked bytes, read by any form, in place of accepted tables: the default's answer and room.
    pub plan-masked : (other : Form) (r q : Result (Option ℕ) Refusal) (zs ws : List Step) → Plans by_default t u room r zs
        → Plans other (masked_bytes t) (masked_bytes u) room q ws → (q ≡ r) × (ws ≡ zs)
    plan-masked other r q zs ws one two =
        plan_settled by_default t u room q r ws zs
        (record {
          answer = two.answer ∙ ap₂ (λ (rs : List Rule) (p : Option ℕ). judge rs p) (rules other) choice;
          steps = two.steps ∙ ap (λ (ss : List Step). over (written_by q ss) room) steps;
        }) one
      where
        steps : plan_of (masked_bytes t) (masked_bytes u) ≡ plan_of t u
        steps = rw (masked-routes form false t bytes ok, masked-routes form false u bytes' ok')

        choice : chosen (masked_bytes t) (masked_bytes u) (length room) ≡ chosen t u (length room)
        choice = rw (masked-routes form false t bytes ok, masked-routes form false u bytes' ok')
