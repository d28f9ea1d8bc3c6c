-- The planner's steps change an old table to a new one without a detour, and are no more than the prefixes of the two together.
use Prim.Native.Nat.{ℕ, zero, suc, ◌≤◌, ◌<◌}
use mathlib.Core.Path.{◌≡◌, refl, sym, ap, ap₂, ◌∙◌}
use mathlib.Core.Bool.{Bool, true, false, cond, not, ◌||◌, false≢true, or-true}
use mathlib.Core.List.{List, [], ◌∷◌, ◌++◌, map}
use mathlib.Core.Logic.{◌⊎◌, inl, inr, ⊎_swap}
use native.Mathlib.Omega.{arith}
use lib.ListN.{length, length-append, length-map}
use Rattle.theory.specs.Routes.{Route, Answer, none, via, Valid, All, nil, cons, Ascending, Table, head}
use Rattle.theory.specs.Shapes.{routed}
use Rattle.theory.proofs.Lists.{all_map, all_member, member_all}
use Rattle.theory.proofs.Parts.{table-part}
use Rattle.positions.specs.Runs.{or_else}
use Rattle.steps.specs.Steps.{putting, same, entry, present, OldOrNew, Hitless, Sounds}
use Rattle.steps.specs.Views.{same_answer, rung, best}
use Rattle.steps.specs.Planned.{changes, gone, together, falling, rising, taking_of, plan}
use Rattle.steps.proofs.Entries.{none_via, answer_true, same_true, entry-append, distinct_append, ascending_distinct, member-entry, fits, same_entries}
use Rattle.steps.proofs.Tables.{as_long}
use Rattle.steps.proofs.Rungs.{answer-best}
use Rattle.steps.proofs.Lead.{leads_append, Fine, leads_hitless}
use Rattle.steps.proofs.Blend.{blend}
use Rattle.steps.proofs.Phase.{down, up, Ordered, over, next, ordered_distinct, Mid, Sets, behind, phase}
use Rattle.steps.proofs.Levels.{beyond, falling_all, falling_ordered, rising_ordered, falling-entry, rising-entry, changes-entry, gone-entry}

kept-via : (c : Bool) (v : Answer) {h : ℕ} → cond c v none ≡ via h → (c ≡ true) × (v ≡ via h)
kept-via true v e = (refl, e)
kept-via false v e = absurd (none_via e)

chosen : (c : Bool) {u v m : Answer} → m ≡ cond c u v → (m ≡ u) ⊎ (m ≡ v)
chosen true e = inl e
chosen false e = inr e

-- A step that leaves v at the prefix of r leaves there what g has.
leaves : (r : Route) (v : Answer) (g : ℕ → ℕ → Answer) → g r.addr r.len ≡ v → (a l : ℕ) (e : Answer)
    → cond (same r.addr r.len a l) v e ≡ cond (same r.addr r.len a l) (g a l) e
leaves r v g p a l e = go (same r.addr r.len a l) refl
  where
    go : (c : Bool) → same r.addr r.len a l ≡ c → cond c v e ≡ cond c (g a l) e
    go true q = let z = same_true r.addr r.len a l q in sym p ∙ ap₂ g z.0 z.1
    go false q = refl

module _ (w : ℕ) {old new : List Route} (from : Table w old) (to : Table w new) where
  -- The entries of the two tables together: new's, or, where it has none, old's.
  abbrev both : ℕ → ℕ → Answer
  both a l = or_else (entry new a l) (entry old a l)

  both_entry : (a l : ℕ) → entry (new ++ gone old new) a l ≡ both a l
  both_entry a l = entry-append new (gone old new) a l ∙ ap (or_else (entry new a l)) (gone-entry old new a l) ∙ go (entry new a l)
    where
      go : (v : Answer) → or_else v (cond (not (routed v)) (entry old a l) none) ≡ or_else v (entry old a l)
      go none = refl
      go (via h) = refl

  -- Its answers are old's or new's where the best of its rungs are.
  answering : {t : List Route} → Table w t → (x : ℕ) → (best (rung w t x) w ≡ best (rung w old x) w) ⊎ (best (rung w t x) w ≡ best (rung w new x) w)
      → OldOrNew w old new t x
  answering table x (inl e) = inl (answer-best w table x ∙ e ∙ sym (answer-best w from x))
  answering table x (inr e) = inr (answer-best w table x ∙ e ∙ sym (answer-best w to x))

  deep : {t : List Route} → Table w t → (a l : ℕ) → w < l → entry t a l ≡ none
  deep table a l lt = beyond table.order w a l (all_map (λ r v. v.short) table.valid) lt

  -- ---- Putting.

  abbrev MidPut : List Route → List Route → Type 0
  MidPut = Mid down w (entry old) both

  put-entry : (a l : ℕ) → entry (falling w (changes old new)) a l ≡ cond (not (same_answer (entry old a l) (entry new a l))) (entry new a l) none
  put-entry a l = falling-entry (table-part w _ to) a l ∙ changes-entry old to.order a l

  put_order : Ordered down (falling w (changes old new))
  put_order = falling_ordered (table-part w _ to).order w

  put-steps : All (Sets w (entry old) both putting) (falling w (changes old new))
  put-steps = member_all _ (λ r m.
      let here = (kept-via (not (same_answer (entry old r.addr r.len) (entry new r.addr r.len))) (entry new r.addr r.len)
      (sym (put-entry r.addr r.len) ∙ member-entry (ordered_distinct down put_order) m)).1 in
      record {
        sound = all_member (falling_all w (table-part w _ to).valid) m;
        able = λ t e. refl;
        sets = leaves r (via r.hop) both (ap (λ (v : Answer). or_else v (entry old r.addr r.len)) here);
      })

  put-start : MidPut (falling w (changes old new)) old
  put-start = record { table = from; known = λ a l. rw put-entry (go (entry old a l) (entry new a l)); ahead = λ a l r m p. refl }
    where
      go : (u v : Answer) → u ≡ cond (routed (cond (not (same_answer u v)) v none)) u (or_else v u)
      go u none = pick (not (same_answer u none))
        where
          pick : (c : Bool) → u ≡ cond (routed (cond c none none)) u u
          pick true = refl
          pick false = refl
      go u (via h) = pick (same_answer u (via h)) refl
        where
          pick : (c : Bool) → same_answer u (via h) ≡ c → u ≡ cond (routed (cond (not c) (via h) none)) u (via h)
          pick true e = answer_true u (via h) e
          pick false e = refl

  -- ---- Taking.

  abbrev MidTake : List Route → List Route → Type 0
  MidTake = Mid up w both (entry new)

  take-entry : (a l : ℕ) → entry (rising w (gone old new)) a l ≡ cond (not (present new a l)) (entry old a l) none
  take-entry a l = rising-entry (table-part w _ from) a l ∙ gone-entry old new a l

  take_order : Ordered up (rising w (gone old new))
  take_order = rising_ordered (table-part w _ from).order w

  take_steps : All (Sets w both (entry new) taking_of) (rising w (gone old new))
  take_steps = member_all _ (λ r m.
      let here = kept-via (not (present new r.addr r.len)) (entry old r.addr r.len)
      (sym (take-entry r.addr r.len) ∙ member-entry (ordered_distinct up take_order) m) in
      let bare = absent (entry new r.addr r.len) here.0 in
      record {
        sound = tt;
        able = λ t e. ap routed (e ∙ ap₂ or_else bare here.1);
        sets = leaves r none (entry new) bare;
      })
    where
      absent : (v : Answer) → not (routed v) ≡ true → v ≡ none
      absent none e = refl
      absent (via h) e = absurd (false≢true e)

  take-start : (u : List Route) → MidPut [] u → MidTake (rising w (gone old new)) u
  take-start u mid =
      record {
        table = mid.table;
        known = λ a l. mid.known a l ∙ rw take-entry (go (entry old a l) (entry new a l));
        ahead = λ a l r m p. mid.known a l;
      }
    where
      go : (u v : Answer) → or_else v u ≡ cond (routed (cond (not (routed v)) u none)) (or_else v u) v
      go none none = refl
      go (via h) none = refl
      go u (via i) = refl

  -- ---- The plan.

  -- It has no more steps than the tables have prefixes together.
  pub planned_short : length (plan w old new) ≤ together old new
  planned_short =
      omega (
        arith,
        length-append (map putting (falling w (changes old new))) (map taking_of (rising w (gone old new))),
        length-map (falling w (changes old new)) putting,
        length-map (rising w (gone old new)) taking_of,
        fits (falling w (changes old new)) new (ordered_distinct down put_order)
            (λ a l e. go (not (same_answer (entry old a l) (entry new a l))) (entry new a l) (ap routed (sym (put-entry a l)) ∙ e)),
        fits (rising w (gone old new)) (gone old new) (ordered_distinct up take_order)
            (λ a l e. ap routed (sym (rising-entry (table-part w _ from) a l)) ∙ e),
      )
    where
      go : (c : Bool) (v : Answer) → routed (cond c v none) ≡ true → routed v ≡ true
      go true v e = e
      go false v e = absurd (false≢true e)

  -- Its steps are sound.
  pub planned_sound : Sounds w (plan w old new)
  planned_sound = puts (falling_all w (table-part w _ to).valid)
    where
      takes : (q : List Route) → Sounds w (map taking_of q)
      takes [] = tt
      takes (r ∷ q) = (tt, takes q)

      puts : {q : List Route} → All (Valid w) q → Sounds w (map putting q ++ map taking_of (rising w (gone old new)))
      puts nil = takes (rising w (gone old new))
      puts (cons v vs) = (v, puts vs)

  -- What is present in either table has as many prefixes as the two have together.
  pub together_counts : {t : List Route} → Ascending t → ((a l : ℕ) → present t a l ≡ (present old a l || present new a l)) → length t ≡ together old new
  together_counts {t} o k =
      as_long t (new ++ gone old new) (ascending_distinct o)
      (distinct_append (gone old new) (ascending_distinct to.order) (ascending_distinct (table-part w _ from).order) (member_all new (λ r m.
      gone-entry old new r.addr r.len
      ∙ ap (λ (v : Answer). cond (not (routed v)) (entry old r.addr r.len) none) (member-entry (ascending_distinct to.order) m))))
      (λ a l. k a l ∙ go (entry old a l) (entry new a l) ∙ ap routed (sym (both_entry a l))) ∙ length-append new (gone old new)
    where
      go : (u v : Answer) → (routed u || routed v) ≡ routed (or_else v u)
      go none none = refl
      go (via h) none = refl
      go u (via i) = or-true (routed u)

  module _ (cap : ℕ) (room : together old new ≤ cap) where
    -- A table whose prefixes are theirs has room.
    fitting : {t : List Route} → Table w t → ((a l : ℕ) → present t a l ≡ true → routed (both a l) ≡ true) → length t ≤ cap
    fitting {t} table k =
        omega (
          arith,
          fits t (new ++ gone old new) (ascending_distinct table.order) (λ a l e. ap routed (both_entry a l) ∙ k a l e),
          length-append new (gone old new),
        )

    -- A table is fine that has the entries of one of the tables up to a length k, beyond it those of both, and at it either.
    fine : (base : List Route) → (base ≡ old) ⊎ (base ≡ new) → {t : List Route} → Table w t
        → ((a l : ℕ) → (entry t a l ≡ entry base a l) ⊎ (entry t a l ≡ both a l)) → (k : ℕ)
        → ((a l : ℕ) → l < k → entry t a l ≡ entry base a l) → ((a l : ℕ) → k < l → entry t a l ≡ both a l) → Fine w cap old new t
    fine base is {t} table mixed k low high =
        record {
          small = fitting table (λ a l e. small a l e (mixed a l) is);
          answered = λ x lt. answering table x (blend (rung w old x) (rung w new x) (rung w t x) (rung w base x) (at x is) k w
              (λ l lt. low _ l lt) (λ l lt. high _ l lt) (mixed _ k));
        }
      where
        at : (x : ℕ) → (base ≡ old) ⊎ (base ≡ new) → (rung w base x ≡ rung w old x) ⊎ (rung w base x ≡ rung w new x)
        at x (inl e) = inl (ap {B = ℕ → Answer} (λ (u : List Route). rung w u x) e)
        at x (inr e) = inr (ap {B = ℕ → Answer} (λ (u : List Route). rung w u x) e)

        whole : (u v : Answer) → (routed u ≡ true → routed (or_else v u) ≡ true) × (routed v ≡ true → routed (or_else v u) ≡ true)
        whole u none = (λ e. e, λ e. absurd (false≢true e))
        whole u (via h) = (λ e. refl, λ e. refl)

        small : (a l : ℕ) → present t a l ≡ true → (entry t a l ≡ entry base a l) ⊎ (entry t a l ≡ both a l) → (base ≡ old) ⊎ (base ≡ new)
            → routed (both a l) ≡ true
        small a l e (inl p) (inl q) = (whole (entry old a l) (entry new a l)).0 (ap (λ (u : List Route). present u a l) (sym q) ∙ ap routed (sym p) ∙ e)
        small a l e (inl p) (inr q) = (whole (entry old a l) (entry new a l)).1 (ap (λ (u : List Route). present u a l) (sym q) ∙ ap routed (sym p) ∙ e)
        small a l e (inr p) b = ap routed (sym p) ∙ e

    putting_fine : (q t : List Route) → Ordered down q → MidPut q t → Fine w cap old new t
    putting_fine q t over mid =
        fine old (inl refl) mid.table (λ a l. inr (mid.known a l)) zero (λ a l lt. absurd (omega arith)) (λ a l lt. mid.known a l)
    putting_fine q t (next {r = r} {q = s} b o) mid =
        fine old (inl refl) mid.table (λ a l. chosen (present (r ∷ s) a l) (mid.known a l)) r.len (λ a l lt. mid.ahead a l r head lt)
        (λ a l lt. behind down b mid a l (λ g. omega arith) (λ e. omega arith))

    taking_fine : (q t : List Route) → Ordered up q → MidTake q t → Fine w cap old new t
    taking_fine q t over mid =
        fine new (inr refl) mid.table (λ a l. inl (mid.known a l)) (suc w) (λ a l lt. mid.known a l)
        (λ a l lt. deep mid.table a l (omega arith) ∙ sym (ap₂ or_else (deep to a l (omega arith)) (deep from a l (omega arith))))
    taking_fine q t (next {r = r} {q = s} b o) mid =
        fine new (inr refl) mid.table (λ a l. ⊎_swap (chosen (present (r ∷ s) a l) (mid.known a l))) r.len
        (λ a l lt. behind up b mid a l (λ g. omega arith) (λ e. omega arith)) (λ a l lt. mid.ahead a l r head lt)

    -- It changes old to new without a detour.
    pub planned_hitless : Hitless w cap old new (plan w old new)
    planned_hitless =
        let one = phase down (Fine w cap old new) putting putting_fine
        (falling w (changes old new)) old put_order put-steps put-start in
        let two = phase up (Fine w cap old new) taking_of taking_fine
        (rising w (gone old new)) one.0 take_order take_steps (take-start one.0 one.2) in
        let end : two.0 ≡ new = same_entries two.2.table.order to.order two.2.known in
        (leads_hitless w cap old new (plan w old new)).0
        (leads_append (Fine w cap old new) (map putting (falling w (changes old new))) (map taking_of (rising w (gone old new))) old one.0 new one.1
        (rw end at two.1))
