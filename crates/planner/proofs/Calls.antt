-- What the planner's statement settles: no second answer and no second room satisfy it; what it refuses and where it gives up, exactly; that a refusal and
-- giving up change no step, and a plan none behind it; that the checker says yes to every plan that is given, and that one is given where the prefixes are few and the room
-- holds as many steps; and that a plan is empty exactly for tables with the same routes. The answer of a call is any r, and the room after it any room', of
-- which the call's `ensures` holds. Assumes nothing.
use Prim.Native.Nat.{ℕ, ◌≤◌, ◌<◌}
use mathlib.Core.Path.{◌≡◌, refl, sym, ap, ap₂, subst, ◌∙◌}
use mathlib.Core.Bool.{Bool, true, false}
use mathlib.Core.List.{List, [], ◌∷◌}
use mathlib.Core.Logic.{◌⊎◌, inl, inr, ◌↔◌}
use native.Mathlib.Omega.{arith}
use lib.Dec.{ltb}
use lib.ListN.{length, length-map, take, drop}
use lib.Seq.{take-append_seam, drop-append_seam}
use borrow.Author.Tests.{ltb-true, ltb-false, le-ltb}
use Rattle.theory.specs.Routes.{Route}
use Rattle.std.specs.Prelude.{Option, None, Some, Result, Ok, Err}
use Rattle.refusals.specs.declared.Refusal.{Refusal}
use Rattle.refusals.specs.Rules.{gives, judge, refuses}
use Rattle.refusals.specs.Order.{First, None as NoneOf}
use Rattle.refusals.proofs.Judged.{gives-exactly}
use Rattle.refusals.proofs.Answered.{says_refused}
use Rattle.records.specs.Wire.{routes}
use Rattle.records.specs.Sized.{Bytes}
use Rattle.records.specs.declared.Form.{Form}
use Rattle.table.specs.Conditions.{Lawful}
use Rattle.steps.specs.Steps.{after}
use Rattle.steps.specs.Planned.{changes, gone, together, plan}
use Rattle.steps.proofs.Plan.{planned_short, planned_hitless}
use Rattle.plans.specs.declared.answers.Step.{Step}
use Rattle.plans.specs.Judging.{tables_rules, Judges}
use Rattle.plans.specs.Conditions.{TablesCondition}
use Rattle.plans.proofs.Tested.{tables_ranked, tables_tests}
use Rattle.plans.proofs.Refusals.{tables_numbers}
use Rattle.planner.specs.Planning.{struct_of, plan_of, chosen, planned_says, written_by, over, Plans}
use Rattle.planner.proofs.Counts.{same_changes, same_gone, plan-length}
use Rattle.planner.proofs.Answers.{planned_same, kept-lawful, is_chosen, given}
use Rattle.planner.proofs.Believed.{plan_believed}

module _ (form : Form) (t u : List ℕ) (room : List Step) where
  -- No second answer satisfies the statement, and no second room.
  pub plan_settled : (r q : Result (Option ℕ) Refusal) (zs ws : List Step) → Plans form t u room r zs → Plans form t u room q ws → (r ≡ q) × (zs ≡ ws)
  plan_settled r q zs ws a b =
      let e : r ≡ q = planned_same r q (a.answer ∙ sym b.answer) in
      (e, a.steps ∙ ap (λ (p : Result (Option ℕ) Refusal). over (written_by p (plan_of t u)) room) e ∙ sym b.steps)

  none_kept : NoneOf (TablesCondition form t u) → judge (tables_rules form t u) true ≡ gives true
  none_kept none = (gives-exactly (tables_rules form t u) (tables_tests form t u) true).1 (none, refl)

  module _ (r : Result (Option ℕ) Refusal) (room' : List Step) (s : Plans form t u room r room') where
    -- A refusal changes no step, and neither does giving up.
    pub refused_untouched : (n i : ℕ) → planned_says r ≡ refuses n i → room' ≡ room
    refused_untouched n i e = s.steps ∙ none r e
      where
        none : (p : Result (Option ℕ) Refusal) → planned_says p ≡ refuses n i → over (written_by p (plan_of t u)) room ≡ room
        none (Ok p) h = let z : ◌≡◌ {A = ℕ} 0 1 = cc in absurd (omega arith)
        none (Err x) h = refl

    pub gave_up_untouched : r ≡ Ok None → room' ≡ room
    gave_up_untouched e = s.steps ∙ ap (λ (p : Result (Option ℕ) Refusal). over (written_by p (plan_of t u)) room) e

    -- The room's first k steps are the plan, and the others are as they were.
    pub plan-written : (k : ℕ) → r ≡ Ok (Some k) → (take k room' ≡ plan_of t u) × (drop k room' ≡ drop k room)
    plan-written k e =
        let g = given form t u (length room) r s.answer k e in
        let is : room' ≡ over (plan_of t u) room = s.steps ∙ ap (λ (p : Result (Option ℕ) Refusal). over (written_by p (plan_of t u)) room) e in (
          ap₂ take g.long is ∙ take-append_seam (plan_of t u) (drop (length (plan_of t u)) room),
          ap₂ drop g.long is ∙ drop-append_seam (plan_of t u) (drop (length (plan_of t u)) room) ∙ ap (λ (m : ℕ). drop m room) (sym g.long),
        )

    -- It refuses with a number and an index exactly when their condition holds and none before it in the documents' order does.
    pub plan_refused : (number index : ℕ) → planned_says r ≡ refuses number index ↔ First (TablesCondition form t u) number index
    plan_refused =
        says_refused planned_says planned_same (tables_rules form t u) (tables_tests form t u) (tables_ranked form t u).order (chosen t u (length room)) r s.answer

    -- It gives the numbers 3 to 8 and 23 to 28 alone.
    pub plan-numbers : (number index : ℕ) → planned_says r ≡ refuses number index → ((3 ≤ number) × (number ≤ 8)) ⊎ ((23 ≤ number) × (number ≤ 28))
    plan-numbers number index e = tables_numbers form t u number index ((plan_refused number index).0 e).0

    module _ (none : NoneOf (TablesCondition form t u)) where
      -- Where no condition holds it gives up exactly where the prefixes together are more than 1,024 or the plan is longer than the room.
      pub gave_up_exactly : r ≡ Ok None ↔ ((1024 < together (routes t) (routes u)) ⊎ (length room < length (plan_of t u)))
      gave_up_exactly = go (ltb 1024 (together (routes t) (routes u))) refl (ltb (length room) (length (plan_of t u))) refl (is_chosen form t u (length room) r s.answer (none_kept none))
        where
          answer : Option ℕ → Result (Option ℕ) Refusal
          answer = Ok

          go : (a : Bool) → ltb 1024 (together (routes t) (routes u)) ≡ a → (b : Bool) → ltb (length room) (length (plan_of t u)) ≡ b → r ≡ Ok (chosen t u (length room))
              → r ≡ Ok None ↔ ((1024 < together (routes t) (routes u)) ⊎ (length room < length (plan_of t u)))
          go true p b q c = (λ e. inl (ltb-true 1024 (together (routes t) (routes u)) p), λ e. rw p at c)
          go false p true q c = (λ e. inr (ltb-true (length room) (length (plan_of t u)) q), λ e. rw (p, q) at c)
          go false p false q c = (
            λ e. let y : answer None ≡ answer (Some (length (plan_of t u))) = rw (p, q) at (sym e ∙ c) in let z : ◌≡◌ {A = ℕ} 0 1 = cc in absurd (omega arith),
            λ e. absurd (neither e),
          )
            where
              neither : ((1024 < together (routes t) (routes u)) ⊎ (length room < length (plan_of t u))) → ⊥
              neither (inl lt) = omega (arith, ltb-false 1024 (together (routes t) (routes u)) p)
              neither (inr lt) = omega (arith, ltb-false (length room) (length (plan_of t u)) q)

    module _ (bytes : Bytes t) (bytes' : Bytes u) where
      -- The checker says yes to every plan that is given.
      pub plan_yes : (k : ℕ) → r ≡ Ok (Some k) → (q : Result Bool Refusal) → Judges form t u (take k room') q → q ≡ Ok true
      plan_yes k e q judges =
          let g = given form t u (length room) r s.answer k e in
          let ok = kept-lawful form t u bytes bytes' g.kept in
          plan_believed form t u ok.0 ok.1 g.kept g.few q (subst (λ (ss : List Step). Judges form t u ss q) (plan-written k e).0 judges)

      -- A plan of no step is given only between tables with the same routes.
      pub empty_same : r ≡ Ok (Some 0) → routes t ≡ routes u
      empty_same e =
          let g = given form t u (length room) r s.answer 0 e in
          let ok = kept-lawful form t u bytes bytes' g.kept in
          let size : 0 ≡ length (plan 32 (routes t) (routes u)) = g.long ∙ length-map (plan 32 (routes t) (routes u)) struct_of in
          ap (λ (k : ℕ). after k (plan 32 (routes t) (routes u)) (routes t)) size ∙ (planned_hitless 32 ok.0.table ok.1.table 1024 g.few).arrives

      module _ (none : NoneOf (TablesCondition form t u)) where
        lawful : Lawful false (routes t) × Lawful false (routes u)
        lawful = kept-lawful form t u bytes bytes' (none_kept none)

        -- The plan has no more steps than the tables have prefixes together.
        plan-short : length (plan_of t u) ≤ together (routes t) (routes u)
        plan-short = omega (arith, length-map (plan 32 (routes t) (routes u)) struct_of, planned_short 32 lawful.0.table lawful.1.table)

        -- Where no condition holds, the prefixes are together at most 1,024, and the room holds as many steps, a plan is given, and the checker says yes to it.
        pub plan_given : together (routes t) (routes u) ≤ 1024 → together (routes t) (routes u) ≤ length room
            → (k : ℕ) × (r ≡ Ok (Some k)) × ((q : Result Bool Refusal) → Judges form t u (take k room') q → q ≡ Ok true)
        plan_given few fits =
            let c : chosen t u (length room) ≡ Some (length (plan_of t u)) =
            rw (le-ltb 1024 (together (routes t) (routes u)) few, le-ltb (length room) (length (plan_of t u)) (omega (arith, plan-short))) in
            let e : r ≡ Ok (Some (length (plan_of t u))) = is_chosen form t u (length room) r s.answer (none_kept none) ∙ ap Ok c in
            (length (plan_of t u), e, plan_yes (length (plan_of t u)) e)

        -- Where no condition holds, there is a plan between tables with the same routes, of no step.
        pub same_empty : routes t ≡ routes u → (r ≡ Ok (Some 0)) × (room' ≡ room)
        same_empty same = (e, s.steps ∙ ap (λ (p : Result (Option ℕ) Refusal). over (written_by p (plan_of t u)) room) e ∙ ap (λ (ss : List Step). over ss room) (bare (plan_of t u) size))
          where
            left : length (gone (routes t) (routes u)) ≡ 0
            left = ap (λ (rs : List Route). length (gone rs (routes u))) same ∙ ap (λ (rs : List Route). length rs) (same_gone lawful.1.table)

            size : length (plan_of t u) ≡ 0
            size =
                omega (
                  arith,
                  plan-length t u lawful.0.table lawful.1.table,
                  left,
                  ap (λ (rs : List Route). length (changes rs (routes u))) same,
                  ap (λ (rs : List Route). length rs) (same_changes lawful.1.table),
                )

            bare : (ss : List Step) → length ss ≡ 0 → ss ≡ []
            bare [] z = refl
            bare (x ∷ ss) z = absurd (omega arith)

            c : chosen t u (length room) ≡ Some (length (plan_of t u))
            c = rw (le-ltb 1024 (together (routes t) (routes u)) (omega (arith, left, lawful.1.few)), le-ltb (length room) (length (plan_of t u)) (omega (arith, size)))

            e : r ≡ Ok (Some 0)
            e = is_chosen form t u (length room) r s.answer (none_kept none) ∙ ap Ok c ∙ ap (λ (k : ℕ). Ok (Some k)) size
