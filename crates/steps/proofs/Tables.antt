-- Put and take keep a table, and what they make of its length.
use Prim.Native.Nat.{ℕ, suc, ◌≤◌}
use mathlib.Core.Path.{◌≡◌, refl, sym, ap, ap₂, ◌∙◌}
use mathlib.Core.Bool.{Bool, true, false, cond, not, ◌||◌, ◌&&◌, true≢false, or-true}
use mathlib.Core.List.{List, ◌∷◌}
use mathlib.Core.Logic.{◌⊎◌, inl, inr}
use native.Mathlib.Nat.{le_antisymm}
use native.Mathlib.Omega.{arith}
use lib.Dec.{eqb, ltb}
use lib.ListN.{length}
use borrow.Author.Tests.{ltb-true, eqb-true, lt-ltb, eq-eqb}
use Rattle.theory.specs.Routes.{Route, Answer, none, via, All, nil, cons, Before, Ascending, empty, first, Table}
use Rattle.theory.specs.Shapes.{routed}
use Rattle.theory.proofs.Lists.{all_map}
use Rattle.theory.proofs.Parts.{length_parts, ascending_part, table-part}
use Rattle.steps.specs.Steps.{Step, putting, taking, same, entry, present, precedes, put, without, apply, Sound}
use Rattle.steps.proofs.Entries.{and-true, same_true, true_same, entry-put, entry_step, Distinct, ascending_distinct, fits, order, before_trans}

precedes_true : (r s : Route) → precedes r s ≡ true → Before r s
precedes_true r s e = go (ltb r.addr s.addr) refl e
  where
    go : (b : Bool) → ltb r.addr s.addr ≡ b → (b || eqb r.addr s.addr && ltb r.len s.len) ≡ true → Before r s
    go true p q = inl (ltb-true r.addr s.addr p)
    go false p q =
        let z = and-true (eqb r.addr s.addr) (ltb r.len s.len) q in
        inr (eqb-true r.addr s.addr z.0, ltb-true r.len s.len z.1)

before-precedes : (r s : Route) → Before r s → precedes r s ≡ true
before-precedes r s (inl lt) = rw (lt-ltb r.addr s.addr lt)
before-precedes r s (inr p) = rw (eq-eqb r.addr s.addr p.0, lt-ltb r.len s.len p.1) (or-true (ltb r.addr s.addr))

pub all_put : {P : Route → Type 0} {t : List Route} (r : Route) → P r → All P t → All P (put r t)
all_put r p nil = cons p nil
all_put {P} r p (cons {r = s} {t = t} q qs) = go (precedes r s) (same r.addr r.len s.addr s.len) (all_put r p qs)
  where
    go : (b c : Bool) → All P (put r t) → All P (cond b (r ∷ s ∷ t) (cond c (r ∷ t) (s ∷ put r t)))
    go true c ih = cons p (cons q qs)
    go false true ih = cons p qs
    go false false ih = cons q ih

pub ascending_put : {t : List Route} (r : Route) → Ascending t → Ascending (put r t)
ascending_put r empty = first nil empty
ascending_put r (first {r = s} {t = t} b o) = go (precedes r s) refl (same r.addr r.len s.addr s.len) refl (ascending_put r o)
  where
    go : (c : Bool) → precedes r s ≡ c → (d : Bool) → same r.addr r.len s.addr s.len ≡ d → Ascending (put r t)
        → Ascending (cond c (r ∷ s ∷ t) (cond d (r ∷ t) (s ∷ put r t)))
    go true e d f ih =
        let lt = precedes_true r s e in
        first (cons lt (all_map (λ u q. before_trans r s u lt q) b)) (first b o)
    go false e true f ih =
        let z = same_true r.addr r.len s.addr s.len f in
        first {r = r} (all_map (λ u q. rw (z.0, z.1) q) b) o
    go false e false f ih = first (all_put r (behind (order r s)) b) ih
      where
        behind : Before r s ⊎ (Before s r ⊎ ((r.addr ≡ s.addr) × (r.len ≡ s.len))) → Before s r
        behind (inl lt) = absurd (true≢false (sym (before-precedes r s lt) ∙ e))
        behind (inr (inl lt)) = lt
        behind (inr (inr z)) = absurd (true≢false (sym (true_same r.addr r.len s.addr s.len z.0 z.1) ∙ f))

-- A sound step keeps a table.
pub table_step : {w : ℕ} {t : List Route} (s : Step) → Sound w s → Table w t → Table w (apply s t)
table_step (putting r) v table = record { valid = all_put r v table.valid; order = ascending_put r table.order }
table_step {w} (taking a l) v table = table-part w (λ r. not (same r.addr r.len a l)) table

-- ---- Lengths, from what is present.

pub as_long : (s t : List Route) → Distinct s → Distinct t → ((a l : ℕ) → present s a l ≡ present t a l) → length s ≡ length t
as_long s t d e k = le_antisymm (fits s t d (λ a l p. sym (k a l) ∙ p)) (fits t s e (λ a l p. k a l ∙ p))

module _ {t : List Route} (ok : Ascending t) where
  -- A put on an absent prefix makes one more, a put on a present one as many, and a take of a present one fewer.
  pub length_new : (r : Route) → present t r.addr r.len ≡ false → length (put r t) ≡ suc (length t)
  length_new r e =
      as_long (put r t) (r ∷ t) (ascending_distinct (ascending_put r ok)) (unrouted (entry t r.addr r.len) e, ascending_distinct ok)
      (λ a l. ap routed (entry-put r t a l))
    where
      unrouted : (v : Answer) → routed v ≡ false → v ≡ none
      unrouted none q = refl
      unrouted (via h) q = absurd (true≢false q)

  pub length_old : (r : Route) → present t r.addr r.len ≡ true → length (put r t) ≡ length t
  length_old r e =
      as_long (put r t) t (ascending_distinct (ascending_put r ok)) (ascending_distinct ok)
      (λ a l. ap routed (entry-put r t a l) ∙ go a l (same r.addr r.len a l) refl)
    where
      go : (a l : ℕ) (c : Bool) → same r.addr r.len a l ≡ c → routed (cond c (via r.hop) (entry t a l)) ≡ present t a l
      go a l true q = let z = same_true r.addr r.len a l q in sym e ∙ ap₂ (present t) z.0 z.1
      go a l false q = refl

  pub length_without : (a l : ℕ) → present t a l ≡ true → length t ≡ suc (length (without a l t))
  length_without a l e =
      as_long t (p ∷ without a l t) (ascending_distinct ok) (gone, ascending_distinct (ascending_part (λ r. not (same r.addr r.len a l)) ok))
      (λ b m. go b m (same a l b m) refl)
    where
      p : Route
      p = record { addr = a; len = l; hop = 0 }

      gone : entry (without a l t) a l ≡ none
      gone = entry_step (taking a l) t a l ∙ ap (λ (c : Bool). cond c none (entry t a l)) (true_same a l a l refl refl)

      go : (b m : ℕ) (c : Bool) → same a l b m ≡ c → present t b m ≡ routed (cond c (via 0) (entry (without a l t) b m))
      go b m true q = let z = same_true a l b m q in ap₂ (present t) (sym z.0) (sym z.1) ∙ e
      go b m false q = ap routed (sym (entry_step (taking a l) t b m ∙ ap (λ (c : Bool). cond c none (entry t b m)) q))

-- So a step makes at most one more.
pub length_step : {t : List Route} (s : Step) → Ascending t → length (apply s t) ≤ suc (length t)
length_step {t} (putting r) ok = go (present t r.addr r.len) refl
  where
    go : (c : Bool) → present t r.addr r.len ≡ c → length (put r t) ≤ suc (length t)
    go true e = omega (arith, length_old ok r e)
    go false e = omega (arith, length_new ok r e)
length_step {t} (taking a l) ok = omega (arith, length_parts (λ r. not (same r.addr r.len a l)) t)
