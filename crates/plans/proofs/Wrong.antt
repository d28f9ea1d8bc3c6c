-- Wrong checkers, each with a plan that it gets wrong: what it looks at is as it should be, or seems not to be, and the statement forbids its answer. One that looks
-- only at the end, one that looks only at the addresses where steps begin, one that compares a match's length beside its hop. Both choices on host bits. Assumes nothing.
use Prim.Native.Nat.{ℕ, zero, suc, ◌/◌, ◌^◌, ◌≤◌, ◌<◌}
use mathlib.Core.Path.{◌≡◌, refl}
use mathlib.Core.Bool.{Bool, true, false, cond}
use mathlib.Core.List.{List, [], ◌∷◌, map}
use mathlib.Core.Logic.{◌⊎◌, inl, inr}
use native.Mathlib.Omega.{arith}
use lib.ListN.{length}
use borrow.Author.Tests.{eq-eqb}
use Rattle.std.specs.Prelude.{Result, Ok}
use Rattle.refusals.specs.declared.Refusal.{Refusal}
use Rattle.theory.specs.Routes.{hit, miss, longer, under, lookup, none, via}
use Rattle.words.specs.Prefix.{agree}
use Rattle.refusals.specs.Rules.{gives, judge}
use Rattle.records.specs.Wire.{routes}
use Rattle.records.specs.Sized.{clear, number, raw_in, route_in, routes_from_in, routes_in}
use Rattle.records.specs.declared.Form.{Form}
use Rattle.table.specs.SizedRules.{record_rules_in, rules_from_in, table_rules_in}
use Rattle.steps.specs.Steps.{after, OldOrNew}
use Rattle.steps.proofs.Turns.{after_every}
use Rattle.plans.specs.declared.answers.Step.{Step}
use Rattle.plans.specs.Judging.{step_of, step_rules, tables_rules, check_rules, Accepts, Judges}
use Rattle.plans.proofs.Calls.{yes_exactly, cut_anywhere}

-- A form by its choice.
abbrev by : Bool → Form
by strict = record { strict = strict; long = false }

abbrev put_step : ℕ → ℕ → ℕ → Step
put_step addr len hop = record { addr = addr; len = len; hop = hop; put = 1; unread = 0 }

abbrev take_step : ℕ → ℕ → Step
take_step addr len = record { addr = addr; len = len; hop = 0; put = 0; unread = 0 }

-- ---- Only at the end: 10.0.0.0/8 is taken, and put again by its new hop.

abbrev old_hop : List ℕ
old_hop = 10 ∷ 0 ∷ 0 ∷ 0 ∷ 8 ∷ 1 ∷ 0 ∷ 0 ∷ []

abbrev new_hop : List ℕ
new_hop = 10 ∷ 0 ∷ 0 ∷ 0 ∷ 8 ∷ 2 ∷ 0 ∷ 0 ∷ []

abbrev dropped : List Step
dropped = take_step 167772160 8 ∷ put_step 167772160 8 2 ∷ []

-- The end is right,
pub ends-right : after 2 (map step_of dropped) (routes old_hop) ≡ routes new_hop
unfolding routes_in routes_from_in route_in raw_in number
ends-right = refl

-- but between the two steps 10.0.0.1 has no route.
pub only_the_end : (strict : Bool) → Judges (by strict) old_hop new_hop dropped (Ok true) → ⊥
unfolding routes_in routes_from_in route_in raw_in number
only_the_end strict s = go (cut_anywhere (by strict) old_hop new_hop dropped (Ok true) s refl 1 167772161 (omega arith))
  where
    go : (none ≡ via 1) ⊎ (none ≡ via 2) → ⊥
    go (inl e) = let z : ◌≡◌ {A = ℕ} 0 1 = cc in omega arith
    go (inr e) = let z : ◌≡◌ {A = ℕ} 0 1 = cc in omega arith

-- ---- Only where steps begin: 10.0.0.0/8 goes from hop 1 over hop 2 to hop 3, and 10.0.0.0/9 has hop 2 all the while.

abbrev over_one : List ℕ
over_one = 10 ∷ 0 ∷ 0 ∷ 0 ∷ 8 ∷ 1 ∷ 0 ∷ 0 ∷ 10 ∷ 0 ∷ 0 ∷ 0 ∷ 9 ∷ 2 ∷ 0 ∷ 0 ∷ []

abbrev over_three : List ℕ
over_three = 10 ∷ 0 ∷ 0 ∷ 0 ∷ 8 ∷ 3 ∷ 0 ∷ 0 ∷ 10 ∷ 0 ∷ 0 ∷ 0 ∷ 9 ∷ 2 ∷ 0 ∷ 0 ∷ []

abbrev astray : List Step
astray = put_step 167772160 8 2 ∷ put_step 167772160 8 3 ∷ []

-- At 10.0.0.0, where both steps begin, the answer is the old one throughout,
pub starts-right : (k : ℕ) → OldOrNew 32 (routes over_one) (routes over_three) (after k (map step_of astray) (routes over_one)) 167772160
unfolding routes_in routes_from_in route_in raw_in number
starts-right = after_every (λ v. OldOrNew 32 (routes over_one) (routes over_three) v 167772160) (map step_of astray) (routes over_one) go
  where
    go : (k : ℕ) → k ≤ 2 → OldOrNew 32 (routes over_one) (routes over_three) (after k (map step_of astray) (routes over_one)) 167772160
    go zero le = inl refl
    go (suc zero) le = inl refl
    go (suc (suc zero)) le = inl refl
    go (suc (suc (suc k))) le = absurd (omega arith)

-- but 10.128.0.0 goes by hop 2 between the steps.
pub only_the_starts : (strict : Bool) → Judges (by strict) over_one over_three astray (Ok true) → ⊥
unfolding routes_in routes_from_in route_in raw_in number
only_the_starts strict s = go (cut_anywhere (by strict) over_one over_three astray (Ok true) s refl 1 176160768 (omega arith))
  where
    go : (via 2 ≡ via 1) ⊎ (via 2 ≡ via 3) → ⊥
    go (inl e) = let z : ◌≡◌ {A = ℕ} 2 1 = cc in omega arith
    go (inr e) = let z : ◌≡◌ {A = ℕ} 2 3 = cc in omega arith

-- ---- Length and hop: over 0.0.0.0/0 by hop 1, 0.0.0.0/1 by hop 1 is put and taken away.

abbrev whole : List ℕ
whole = 0 ∷ 0 ∷ 0 ∷ 0 ∷ 0 ∷ 1 ∷ 0 ∷ 0 ∷ []

abbrev detour : List Step
detour = put_step 0 1 1 ∷ take_step 0 1 ∷ []

-- Between the steps 0.0.0.0 has a match of a length that neither table has,
pub longer_match : (lookup 32 (after 1 (map step_of detour) (routes whole)) 0 ≡ hit 1 1) × (lookup 32 (routes whole) 0 ≡ hit 0 1)
unfolding routes_in routes_from_in route_in raw_in number
longer_match = (refl, refl)

detour_kept : (strict : Bool) → judge (check_rules (by strict) whole whole detour) true ≡ gives true
unfolding judge check_rules tables_rules table_rules_in rules_from_in record_rules_in step_rules route_in raw_in clear number
detour_kept true = refl
detour_kept false = refl

-- but every address keeps its hop.
detour_accepted : Accepts whole whole detour
unfolding routes_in routes_from_in route_in raw_in number
detour_accepted =
    record {
      possible = (refl, (refl, tt));
      small = after_every (λ v. length v ≤ 1024) (map step_of detour) (routes whole) few;
      answered = λ k x lt. after_every (λ v. OldOrNew 32 (routes whole) (routes whole) v x) (map step_of detour) (routes whole) (λ j le. same j le x lt) k;
      arrives = refl;
    }
  where
    few : (k : ℕ) → k ≤ 2 → length (after k (map step_of detour) (routes whole)) ≤ 1024
    few zero le = omega arith
    few (suc zero) le = omega arith
    few (suc (suc zero)) le = omega arith
    few (suc (suc (suc k))) le = absurd (omega arith)

    all_held : (x : ℕ) → x < 2 ^ 32 → agree 32 0 x 0 ≡ true
    all_held x lt = eq-eqb (x / 2 ^ 32) 0 (omega arith)

    either : (b : Bool) → under none (longer (hit 0 1) (longer (cond b (hit 1 1) miss) miss)) ≡ via 1
    either true = refl
    either false = refl

    same : (k : ℕ) → k ≤ 2 → (x : ℕ) → x < 2 ^ 32 → OldOrNew 32 (routes whole) (routes whole) (after k (map step_of detour) (routes whole)) x
    same zero le x lt = inl refl
    same (suc zero) le x lt = inl (rw (all_held x lt) (either (agree 32 1 x 0)))
    same (suc (suc zero)) le x lt = inl refl
    same (suc (suc (suc k))) le x lt = absurd (omega arith)

pub length_and_hop : (strict : Bool) (r : Result Bool Refusal) → Judges (by strict) whole whole detour r → r ≡ Ok true
length_and_hop strict r s = (yes_exactly (by strict) whole whole detour r s (detour_kept strict)).1 detour_accepted
