-- Two tables with the same routes, and a plan without steps from the one to the other. Assumes nothing.
use Prim.Native.Nat.{ℕ, zero, suc, ◌+◌, ◌≤◌, ◌<◌}
use mathlib.Core.Path.{◌≡◌, refl, sym, ap, ap₂, subst, ◌∙◌}
use mathlib.Core.Bool.{true, false, ◌&&◌, true≢false}
use mathlib.Core.List.{List, [], ◌∷◌}
use mathlib.Core.Logic.{inl}
use native.Mathlib.Omega.{arith}
use lib.Dec.{eqb}
use lib.ListN.{length}
use borrow.Author.Tests.{eqb-true, eq-eqb}
use Rattle.theory.specs.Routes.{Route, answer}
use Rattle.records.specs.Wire.{records, route_at, routes}
use Rattle.records.proofs.Reading.{rest, rest_all, rest_end, rest_next, length-routes}
use Rattle.steps.specs.Steps.{after}
use Rattle.steps.proofs.Entries.{and-true}
use Rattle.plans.specs.declared.answers.Step.{Step}
use Rattle.plans.specs.Judging.{Accepts}
use Rattle.plans.specs.Deciding.{MayFollow, same_route}

-- ---- One route.

one_route : (r s : Route) → r.addr ≡ s.addr → r.len ≡ s.len → r.hop ≡ s.hop → r ≡ s
one_route r s a l h = λ i. record { addr = a i; len = l i; hop = h i }

pub route_same : (r s : Route) → same_route r s ≡ true → r ≡ s
route_same r s e =
    let z = and-true (eqb r.addr s.addr && eqb r.len s.len) _ e in
    let y = and-true (eqb r.addr s.addr) _ z.0 in
    one_route r s (eqb-true r.addr s.addr y.0) (eqb-true r.len s.len y.1) (eqb-true r.hop s.hop z.1)

pub same_itself : (r s : Route) → r ≡ s → same_route r s ≡ true
same_itself r s e =
    rw (eq-eqb r.addr s.addr (ap (λ (q : Route). q.addr) e), eq-eqb r.len s.len (ap (λ (q : Route). q.len) e), eq-eqb r.hop s.hop (ap (λ (q : Route). q.hop) e)) refl

-- ---- The records of two tables, one after the other.

module _ (t u : List ℕ) where
  -- Up to record i they are the same routes: the tables are one exactly if the rest of them are.
  pub record SameTo (i : ℕ) : Type 0 where
    pub whole : rest t i ≡ rest u i → routes t ≡ routes u
    pub parts : routes t ≡ routes u → rest t i ≡ rest u i

  pub same_begin : SameTo 0
  same_begin = record { whole = λ e. sym (rest_all t 0 refl) ∙ e ∙ rest_all u 0 refl; parts = λ e. rest_all t 0 refl ∙ e ∙ sym (rest_all u 0 refl) }

  head_same : {r q : Route} {rs qs : List Route} → r ∷ rs ≡ q ∷ qs → r ≡ q
  head_same e = cc

  tail_same : {r q : Route} {rs qs : List Route} → r ∷ rs ≡ q ∷ qs → rs ≡ qs
  tail_same e = cc

  pub same_next : {i : ℕ} → i < records t → i < records u → SameTo i → same_route (route_at t i) (route_at u i) ≡ true → SameTo (i + 1)
  same_next {i} lt lt' s e =
      record {
        whole = λ f. s.whole (rest_next t i lt ∙ ap₂ ◌∷◌ (route_same (route_at t i) (route_at u i) e) f ∙ sym (rest_next u i lt'));
        parts = λ f. tail_same (sym (rest_next t i lt) ∙ s.parts f ∙ rest_next u i lt');
      }

  pub other_route : {i : ℕ} → i < records t → i < records u → SameTo i → same_route (route_at t i) (route_at u i) ≡ false → routes t ≡ routes u → ⊥
  other_route {i} lt lt' s e f =
      let h : route_at t i ≡ route_at u i = head_same (sym (rest_next t i lt) ∙ s.parts f ∙ rest_next u i lt') in
      true≢false (sym (same_itself (route_at t i) (route_at u i) h) ∙ e)

  pub same_all : {i : ℕ} → i ≡ records t → i ≡ records u → SameTo i → routes t ≡ routes u
  same_all {i} e e' s = s.whole (rest_end t i e ∙ sym (rest_end u i e'))

  pub other_many : (records t ≡ records u → ⊥) → routes t ≡ routes u → ⊥
  other_many d e = d (sym (length-routes t) ∙ ap length e ∙ length-routes u)

-- ---- No steps.

pub no_steps : {t u : List ℕ} (ss : List Step) → MayFollow t u ss → length ss ≡ 0 → routes t ≡ routes u → Accepts t u ss
no_steps (s ∷ ss) may z e = absurd (omega arith)
no_steps {t} {u} [] may z e =
    record {
      possible = tt;
      small = λ k. subst (λ (v : List Route). length v ≤ 1024) (sym (still k)) may.old_lawful.few;
      answered = λ k x lt. inl (ap (λ (v : List Route). answer 32 v x) (still k));
      arrives = e;
    }
  where
    still : (k : ℕ) → after k [] (routes t) ≡ routes t
    still zero = refl
    still (suc k) = refl

pub no_steps_arrive : (t u : List ℕ) (ss : List Step) → length ss ≡ 0 → Accepts t u ss → routes t ≡ routes u
no_steps_arrive t u (s ∷ ss) z h = absurd (omega arith)
no_steps_arrive t u [] z h = h.arrives
