-- The plan as the checker reads it: it is the planner's, each of its steps keeps rule 13, and so the checker says yes to it. Assumes nothing.
use Prim.Native.Nat.{ℕ, zero, suc, ◌-◌, ◌/◌, ◌%◌, ◌^◌, ◌≤◌, ◌<◌}
use mathlib.Core.Path.{◌≡◌, refl, ap, ap₂}
use mathlib.Core.Bool.{Bool, true, false, cond}
use mathlib.Core.List.{List, ◌∷◌, ◌++◌, map}
use native.Mathlib.Nat.{div-add-mod'}
use native.Mathlib.Omega.{arith}
use lib.ListN.{length}
use borrow.Author.Tests.{eq-eqb, le-leb}
use Rattle.std.specs.Prelude.{Result, Ok}
use Rattle.refusals.specs.declared.Refusal.{Refusal}
use Rattle.theory.specs.Results.{start_of}
use Rattle.theory.specs.Routes.{Route, Valid, All, nil, cons}
use Rattle.theory.proofs.Lists.{all_append}
use Rattle.theory.proofs.Parts.{all_part}
use Rattle.words.specs.Prefix.{host_clear}
use Rattle.records.specs.Wire.{routes}
use Rattle.records.specs.Sized.{route}
use Rattle.records.specs.declared.Form.{Form}
use Rattle.refusals.specs.Rules.{gives, judge}
use Rattle.table.specs.Conditions.{Lawful}
use Rattle.steps.specs.Steps.{putting, taking}
use Rattle.steps.specs.Steps as steps
use Rattle.steps.specs.Planned.{together, rising, taking_of, plan}
use Rattle.steps.proofs.Rungs.{match_start}
use Rattle.steps.proofs.Levels.{falling_all}
use Rattle.steps.proofs.Plan.{planned_hitless}
use Rattle.plans.specs.Following.{step_at}
use Rattle.plans.specs.Judging.{step_of, tables_rules, Accepts, Judges}
use Rattle.plans.proofs.Rules.{kept, all_kept}
use Rattle.plans.proofs.Calls.{yes_exactly}
use Rattle.planner.specs.Planning.{struct_of, plan_of}
use Rattle.plans.proofs.Rules.{both_given}

-- A route of an accepted table.
abbrev Good : Route → Type 0
Good r = Valid 32 r × (r.hop ≤ 63)

-- ---- One step.

clean : (r : Route) → Valid 32 r → start_of (32 - r.len) r.addr ≡ r.addr
clean r v = match_start 32 r r.addr v (eq-eqb (r.addr / 2 ^ (32 - r.len)) (r.addr / 2 ^ (32 - r.len)) refl)

module _ (r : Route) (good : Good r) where
  put_read : step_of (struct_of (putting r)) ≡ putting r
  put_read = ap (λ (a : ℕ). putting (route a r.len r.hop)) (clean r good.0)

  take_read : step_of (struct_of (taking_of r)) ≡ taking_of r
  take_read = ap (λ (a : ℕ). taking a r.len) (clean r good.0)

  host_kept : (strict : Bool) → cond strict (host_clear 32 r.addr r.len) true ≡ true
  host_kept true = eq-eqb (r.addr % 2 ^ (32 - r.len)) 0 (omega (arith, div-add-mod' r.addr (2 ^ (32 - r.len)), clean r good.0))
  host_kept false = refl

  put-kept : (form : Form) → kept form (struct_of (putting r)) ≡ true
  put-kept form = rw (le-leb r.len 32 good.0.short, host_kept form.strict, le-leb r.hop 63 good.1)

  take-kept : (form : Form) → kept form (struct_of (taking_of r)) ≡ true
  take-kept form = rw (le-leb r.len 32 good.0.short, host_kept form.strict)

-- ---- All of them.

rising_all : {P : Route → Type 0} {t : List Route} (k : ℕ) → All P t → All P (rising k t)
unfolding rising
rising_all zero p = all_part _ (λ r q e. q) p
rising_all (suc k) p = all_append (rising_all k p) (all_part _ (λ r q e. q) p)

-- Steps that are read as they are, and keep rule 13.
pub record Fine (form : Form) (ss : List steps.Step) : Type 0 where
  pub same : map step_of (map struct_of ss) ≡ ss
  pub keep : (j : ℕ) → j < length (map struct_of ss) → kept form (step_at (map struct_of ss) j) ≡ true

module _ (form : Form) where
  fine_cons : {s : steps.Step} {ss : List steps.Step} → step_of (struct_of s) ≡ s → kept form (struct_of s) ≡ true → Fine form ss → Fine form (s ∷ ss)
  fine_cons {s} {ss} e k more = record { same = ap₂ (λ (x : steps.Step) (xs : List steps.Step). x ∷ xs) e more.same; keep = go }
    where
      go : (j : ℕ) → j < length (map struct_of (s ∷ ss)) → kept form (step_at (map struct_of (s ∷ ss)) j) ≡ true
      go zero lt = k
      go (suc j) lt = more.keep j (omega arith)

  takes_fine : {q : List Route} → All Good q → Fine form (map taking_of q)
  takes_fine nil = record { same = refl; keep = λ j lt. absurd (omega arith) }
  takes_fine (cons {r = r} g gs) = fine_cons (take_read r g) (take-kept r g form) (takes_fine gs)

  puts_fine : {q : List Route} {ss : List steps.Step} → All Good q → Fine form ss → Fine form (map putting q ++ ss)
  puts_fine nil more = more
  puts_fine (cons {r = r} g gs) more = fine_cons (put_read r g) (put-kept r g form) (puts_fine gs more)

  good_all : {rs : List Route} → Lawful false rs → All Good rs
  good_all ok = go ok.table.valid ok.hops
    where
      go : {rs : List Route} → All (Valid 32) rs → All (λ r. r.hop ≤ 63) rs → All Good rs
      go nil nil = nil
      go (cons v vs) (cons h hs) = cons (v, h) (go vs hs)

  module _ (t u : List ℕ) (from : Lawful false (routes t)) (to : Lawful false (routes u)) where
    plan_fine : Fine form (plan 32 (routes t) (routes u))
    plan_fine = puts_fine (falling_all 32 (all_part _ (λ r g e. g) (good_all to))) (takes_fine (rising_all 32 (all_part _ (λ r g e. g) (good_all from))))

    -- It changes the installed table to the new one without a detour.
    pub plan_accepts : together (routes t) (routes u) ≤ 1024 → Accepts t u (plan_of t u)
    plan_accepts few = rw plan_fine.same (planned_hitless 32 from.table to.table 1024 few)

    -- So the checker says yes to it.
    pub plan_believed : judge (tables_rules form t u) true ≡ gives true → together (routes t) (routes u) ≤ 1024
        → (q : Result Bool Refusal) → Judges form t u (plan_of t u) q → q ≡ Ok true
    plan_believed ok few q judges =
        let both = both_given form t u {a = true} ok in
        (yes_exactly form t u (plan_of t u) q judges (all_kept form t u (plan_of t u) true both.0.1 both.1.1 plan_fine.keep)).1 (plan_accepts few)
