-- One phase of a plan: the prefixes of a list are visited by falling or by rising length, and a step at each changes its entry
-- from that of F to that of G. Which entries a table has on the way.
use Prim.Native.Nat.{ℕ, ◌<◌}
use mathlib.Core.Path.{◌≡◌, refl, sym, ap, ap₂, ◌∙◌}
use mathlib.Core.Bool.{Bool, true, false, cond}
use mathlib.Core.List.{List, [], ◌∷◌, ◌++◌, map}
use mathlib.Core.Logic.{◌⊎◌, inl, inr}
use native.Mathlib.Omega.{arith}
use Rattle.theory.specs.Routes.{Route, Answer, via, All, nil, cons, Table, Member, later}
use Rattle.theory.specs.Shapes.{routed}
use Rattle.theory.proofs.Lists.{all_append, all_map, all_member}
use Rattle.steps.specs.Steps.{Step, same, entry, present, can, apply, Sound}
use Rattle.steps.specs.Views.{stepped}
use Rattle.steps.proofs.Entries.{same_true, true_same, same_false, entry_step, Distinct, entry_none}
use Rattle.steps.proofs.Tables.{table_step}
use Rattle.steps.proofs.Lead.{Leads}

-- A way through the lengths: which come after which.
pub record Way : Type 1 where
  pub rel : ℕ → ℕ → Type 0
  pub strict : (k : ℕ) → rel k k → ⊥
  pub chain : (i k l : ℕ) → rel i k → rel k l → rel i l

abbrev pub down : Way
down = record { rel = λ k l. l < k; strict = λ k p. omega arith; chain = λ i k l p q. omega arith }

abbrev pub up : Way
up = record { rel = λ k l. k < l; strict = λ k p. omega arith; chain = λ i k l p q. omega arith }

-- r is visited before q: by length, or of one length by address.
abbrev pub Sooner : Way → Route → Route → Type 0
Sooner way r q = way.rel r.len q.len ⊎ ((r.len ≡ q.len) × (r.addr < q.addr))

-- Each route is visited before all the later ones.
pub data Ordered (way : Way) : List Route → Type 0 where
  over : Ordered way []
  next : {r : Route} {q : List Route} → All (Sooner way r) q → Ordered way q → Ordered way (r ∷ q)

pub ordered_append : {way : Way} {s t : List Route} → Ordered way s → Ordered way t → All (λ r. All (Sooner way r) t) s → Ordered way (s ++ t)
ordered_append over q p = q
ordered_append (next b s) q (cons p ps) = next (all_append b p) (ordered_append s q ps)

-- The table t on the way, with the routes q still to visit: the entries of these are F's, and the others G's; and F's are all whose
-- length comes after that of a route still to visit.
pub record Mid (way : Way) (w : ℕ) (F G : ℕ → ℕ → Answer) (q t : List Route) : Type 0 where
  pub table : Table w t
  pub known : (a l : ℕ) → entry t a l ≡ cond (present q a l) (F a l) (G a l)
  pub ahead : (a l : ℕ) (r : Route) → Member r q → way.rel r.len l → entry t a l ≡ F a l

-- The step at r can be done where the entry is F's, and makes it G's.
pub record Sets (w : ℕ) (F G : ℕ → ℕ → Answer) (step : Route → Step) (r : Route) : Type 0 where
  pub sound : Sound w (step r)
  pub able : (t : List Route) → entry t r.addr r.len ≡ F r.addr r.len → can (step r) t ≡ true
  pub sets : (a l : ℕ) (e : Answer) → stepped (step r) a l e ≡ cond (same r.addr r.len a l) (G a l) e

module _ (way : Way) where
  apart : (r q : Route) → Sooner way r q → (q.addr ≡ r.addr) → (q.len ≡ r.len) → ⊥
  apart r q (inl p) e f = way.strict r.len (rw f at p)
  apart r q (inr p) e f = omega arith

  pub ordered_distinct : {q : List Route} → Ordered way q → Distinct q
  ordered_distinct over = tt
  ordered_distinct (next {r = r} b o) = (entry_none r.addr r.len (all_map (apart r) b), ordered_distinct o)

  module _ {w : ℕ} {F G : ℕ → ℕ → Answer} where
    module _ {r : Route} {q t : List Route} (b : All (Sooner way r) q) (mid : Mid way w F G (r ∷ q) t) where
      -- A length that is not the next route's, and does not come after it, is done with.
      pub behind : (a l : ℕ) → (way.rel r.len l → ⊥) → ((l ≡ r.len) → ⊥) → entry t a l ≡ G a l
      behind a l k n =
          mid.known a l
          ∙ ap (λ (v : Answer). cond (routed v) (F a l) (G a l)) (entry_none a l (cons (λ e f. n (sym f)) (all_map (λ s p e f. go s p f) b)))
        where
          go : (s : Route) → Sooner way r s → (s.len ≡ l) → ⊥
          go s (inl p) f = k (rw f at p)
          go s (inr p) f = n (sym f ∙ sym p.0)

      -- The step at r leads on.
      stepping : (step : Route → Step) → Sets w F G step r → Ordered way q → Mid way w F G q (apply (step r) t)
      stepping step z o =
          record {
            table = table_step (step r) z.sound mid.table;
            known = λ a l. now a l ∙ go a l (same r.addr r.len a l) refl;
            ahead = λ a l s m p. let y = chained l s p (all_member b m) in
                now a l ∙ ap (λ (c : Bool). cond c (G a l) (entry t a l)) (same_false r.addr r.len a l (λ e f. way.strict l (rw f at y)))
                ∙ mid.ahead a l s (later m) p;
          }
        where
          now : (a l : ℕ) → entry (apply (step r) t) a l ≡ cond (same r.addr r.len a l) (G a l) (entry t a l)
          now a l = entry_step (step r) t a l ∙ z.sets a l (entry t a l)

          go : (a l : ℕ) (c : Bool) → same r.addr r.len a l ≡ c → cond c (G a l) (entry t a l) ≡ cond (present q a l) (F a l) (G a l)
          go a l true e =
              let y = same_true r.addr r.len a l e in
              ap (λ (v : Answer). cond (routed v) (F a l) (G a l))
              (sym (ap₂ (entry q) (sym y.0) (sym y.1) ∙ (ordered_distinct (next {r = r} b o)).0))
          go a l false e =
              mid.known a l ∙ ap (λ (c : Bool). cond (routed (cond c (via r.hop) (entry q a l))) (F a l) (G a l)) e

          chained : (l : ℕ) (s : Route) → way.rel s.len l → Sooner way r s → way.rel r.len l
          chained l s p (inl y) = way.chain r.len s.len l y p
          chained l s p (inr y) = rw y.0 p

    -- The steps of a phase can be done in turn, and what holds of every table on the way holds all along.
    pub phase : (P : List Route → Type 0) (step : Route → Step) → ((q t : List Route) → Ordered way q → Mid way w F G q t → P t)
        → (q t : List Route) → Ordered way q → All (Sets w F G step) q → Mid way w F G q t
        → (u : List Route) × Leads P (map step q) t u × Mid way w F G [] u
    phase P step every q t over nil mid = (t, (every [] t over mid, refl), mid)
    phase P step every q t (next {r = r} {q = s} b o) (cons z zs) mid =
        let y = phase P step every s (apply (step r) t) o zs (stepping b mid step z o) in
        (y.0, (every (r ∷ s) t (next b o) mid, z.able t own, y.1), y.2)
      where
        own : entry t r.addr r.len ≡ F r.addr r.len
        own =
            mid.known r.addr r.len
            ∙ ap (λ (c : Bool). cond (routed (cond c (via r.hop) (entry s r.addr r.len))) (F r.addr r.len) (G r.addr r.len))
            (true_same r.addr r.len r.addr r.len refl refl)
