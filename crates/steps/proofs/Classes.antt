-- What is enough to know of steps to call them hitless. The class of a prefix are the addresses that it holds and no longer prefix does, among
-- those of old and those that are put: at any time they have one answer, that of the prefixes that hold all of them. So it is enough that the steps can be
-- done, that they end with as many routes as new has, and that each prefix has in the end what new has there and its class, where it is not empty, old
-- or new answers (`enough_classes`); and it is needed (`class_needed`). Over any width. Assumes nothing.
use Prim.Native.Nat.{ℕ, zero, suc, ◌-◌, ◌*◌, ◌^◌, ◌≤◌, ◌<◌}
use mathlib.Core.Path.{◌≡◌, refl, sym, ap, ◌∙◌}
use mathlib.Core.Bool.{true, not, false≢true}
use mathlib.Core.List.{List, ◌++◌}
use mathlib.Core.Logic.{◌⊎◌, inl, inr}
use native.Mathlib.Decide.{dec_lt}
use native.Mathlib.Nat.{eq-or-lt_of_le}
use native.Mathlib.Omega.{arith}
use lib.ListN.{length}
use Rattle.theory.specs.Results.{start_of}
use Rattle.theory.specs.Routes.{Route, matches, Match, miss, hit, lookup, Answer, none, via, under, answer, Valid, All, Table, Member}
use Rattle.theory.specs.Longest.{IsLongest}
use Rattle.theory.specs.Shapes.{routed}
use Rattle.theory.proofs.Blocks.{aligned-start, in_start, in→block, fewer_bits}
use Rattle.theory.proofs.Lists.{all_append, all_map, all_member, member-left, member_right, member-append, member_all}
use Rattle.theory.proofs.LongestMatch.{lookup-found, lookup_none}
use Rattle.positions.specs.Runs.{or_else}
use Rattle.steps.specs.Steps.{Step, putting, entry, can, after, OldOrNew, Hitless, Sounds}
use Rattle.steps.specs.Views.{rung, best}
use Rattle.steps.proofs.Entries.{none_via, ascending_distinct, member-entry}
use Rattle.steps.proofs.Rungs.{best_alike, match_start, start_match, rung-member, rung-route, answer-best}
use Rattle.steps.proofs.Turns.{nth, possible_from, table-after}
use Rattle.steps.proofs.Puts.{same_table, routes_put, put-among, all_puts, sounds_valid, lacks, of_put, spread}

-- ---- The answer of a class.

-- Lengths above d without an answer do not count.
best_cut : (f : ℕ → Answer) (d n : ℕ) → d ≤ n → ((l : ℕ) → d < l → l ≤ n → f l ≡ none) → best f n ≡ best f d
best_cut f d zero le bare = let e : zero ≡ d = omega arith in ap (best f) e
best_cut f d (suc n) le bare = go (eq-or-lt_of_le le) (λ j. best_cut f d n j (λ l lt up. bare l lt (omega arith)))
  where
    go : (d ≡ suc n) ⊎ (d < suc n) → (d ≤ n → best f n ≡ best f d) → best f (suc n) ≡ best f d
    go (inl e) ih = ap (best f) (sym e)
    go (inr lt) ih = ap (λ (v : Answer). or_else v (best f n)) (bare (suc n) lt (omega arith)) ∙ ih (omega arith)

module _ (w : ℕ) where
  -- The start of a shorter prefix is that of the longer one's start.
  pub start_nested : (l d x : ℕ) → l ≤ d → start_of (w - l) (start_of (w - d) x) ≡ start_of (w - l) x
  start_nested l d x le =
      ap (λ (q : ℕ). q * 2 ^ (w - l)) (fewer_bits w l d (start_of (w - d) x) x le
      (sym (in→block (w - d) (start_of (w - d) x) x (aligned-start (w - d) x) (in_start (w - d) x))))

  -- None of the table's prefixes that hold y is longer than d.
  abbrev pub Upto : List Route → ℕ → ℕ → Type 0
  Upto t y d = (r : Route) → Member r t → matches w r y ≡ true → r.len ≤ d

  -- What t says of the class of the prefix of address a and length d.
  abbrev pub of_class : List Route → ℕ → ℕ → Answer
  of_class t a d = best (rung w t a) d

  pub class_answer : {t : List Route} → Table w t → (y d : ℕ) → d ≤ w → Upto t y d → answer w t y ≡ of_class t (start_of (w - d) y) d
  class_answer {t} table y d le up =
      answer-best w table y ∙ best_cut (rung w t y) d w le (λ l lt h. bare l lt (rung w t y l) refl)
      ∙ best_alike (rung w t y) (rung w t (start_of (w - d) y)) d (λ l h. ap (λ (a : ℕ). entry t a l) (sym (start_nested l d y h)))
    where
      bare : (l : ℕ) → d < l → (v : Answer) → rung w t y l ≡ v → v ≡ none
      bare l lt none e = refl
      bare l lt (via h) e =
          let z = rung-route w table y l e in
          let q : z.0.len ≡ l = z.3 in
          absurd (omega (arith, up z.0 z.1 z.2))

  module _ (old new : List Route) (ss : List Step) where
    -- The class has its old or its new answer after any number of steps.
    abbrev pub ClassPassed : ℕ → ℕ → Type 0
    ClassPassed a d = (k : ℕ) → (of_class (after k ss old) a d ≡ of_class old a d) ⊎ (of_class (after k ss old) a d ≡ of_class new a d)

    -- A step puts the prefix of length l that holds y.
    pub record PutAt (y l : ℕ) : Type 0 where
      pub step : ℕ
      pub route : Route
      pub inside : step < length ss
      pub puts : nth ss step ≡ putting route
      pub start : route.addr ≡ start_of (w - l) y
      pub long : route.len ≡ l

    -- The prefix of length l that holds y is old's, or new's, or put.
    pub data KnownAt (y l : ℕ) : Type 0 where
      in_old : routed (rung w old y l) ≡ true → KnownAt y l
      in_new : routed (rung w new y l) ≡ true → KnownAt y l
      is_put : PutAt y l → KnownAt y l

    -- Every address of the prefix is held by a longer one.
    abbrev pub NoClass : ℕ → ℕ → Type 0
    NoClass a d = (y : ℕ) → y < 2 ^ w → start_of (w - d) y ≡ a → (l : ℕ) × (d < l) × (l ≤ w) × KnownAt y l

    -- The prefix of r has in the end what new has there, and its class passes or is empty.
    pub record Classed (r : Route) : Type 0 where
      pub passes : ClassPassed r.addr r.len ⊎ NoClass r.addr r.len
      pub lands : entry (after (length ss) ss old) r.addr r.len ≡ entry new r.addr r.len

    -- What is known of the step s, where the table t stands before it: it can be done, and what it puts where old has nothing is classed.
    pub record Classes (s : Step) (t : List Route) : Type 0 where
      pub able : can s t ≡ true
      pub classed : (r : Route) → s ≡ putting r → entry old r.addr r.len ≡ none → Classed r

    routed-via : (v : Answer) → routed v ≡ true → (h : ℕ) × (v ≡ via h)
    routed-via none e = absurd (false≢true e)
    routed-via (via h) e = (h, refl)

    lacking : (v : Answer) → not (routed v) ≡ true → v ≡ none
    lacking none q = refl
    lacking (via h) q = absurd (false≢true q)

    -- The routes of old and those put.
    abbrev family : List Route
    family = old ++ routes_put ss

    -- y is in the class of its prefix of length d: no longer prefix of old holds it, and none that is put.
    pub record Within (y d : ℕ) : Type 0 where
      pub of_old : (l : ℕ) → d < l → l ≤ w → rung w old y l ≡ none
      pub of_puts : (j : ℕ) (r : Route) → j < length ss → nth ss j ≡ putting r → matches w r y ≡ true → r.len ≤ d

    module _ (from : Table w old) (to : Table w new) (sound : Sounds w ss) where
      family_valid : All (Valid w) family
      family_valid = all_append from.valid (sounds_valid ss sound)

      -- What is a matter of the prefix and holds of the family holds on the way.
      on_the_way : (P : Route → Type 0) → ((r s : Route) → r.addr ≡ s.addr → r.len ≡ s.len → P r → P s) → ((r : Route) → Member r family → P r)
          → (k : ℕ) (r : Route) → Member r (after k ss old) → P r
      on_the_way P moves f k r m =
          let o : All P old = member_all old (λ s z. f s (member-left (routes_put ss) z)) in
          let p : All P (routes_put ss) = member_all (routes_put ss) (λ s z. f s (member_right old z)) in
          all_member (spread old P moves o k ss (all_map (λ s z q. z) p) o) m

      upto_way : (y d : ℕ) → Upto family y d → (k : ℕ) → Upto (after k ss old) y d
      upto_way y d f = on_the_way (λ r. matches w r y ≡ true → r.len ≤ d) (λ r s e q z h. let g = z (rw (sym e, sym q) at h) in omega arith) f

      -- So the three tables answer by the class.
      module _ (y d : ℕ) (le : d ≤ w) (up : Upto family y d) (arrives : after (length ss) ss old ≡ new) where
        of_way : (k : ℕ) → answer w (after k ss old) y ≡ of_class (after k ss old) (start_of (w - d) y) d
        of_way k = class_answer (table-after k ss sound from) y d le (upto_way y d up k)

        of_old_class : answer w old y ≡ of_class old (start_of (w - d) y) d
        of_old_class = of_way 0

        of_new_class : answer w new y ≡ of_class new (start_of (w - d) y) d
        of_new_class = rw arrives at (of_way (length ss))

        class_to : (k : ℕ) → (of_class (after k ss old) (start_of (w - d) y) d ≡ of_class old (start_of (w - d) y) d)
            ⊎ (of_class (after k ss old) (start_of (w - d) y) d ≡ of_class new (start_of (w - d) y) d) → OldOrNew w old new (after k ss old) y
        class_to k (inl e) = inl (of_way k ∙ e ∙ sym of_old_class)
        class_to k (inr e) = inr (of_way k ∙ e ∙ sym of_new_class)

        class_from : (k : ℕ) → OldOrNew w old new (after k ss old) y → (of_class (after k ss old) (start_of (w - d) y) d ≡ of_class old (start_of (w - d) y) d)
            ⊎ (of_class (after k ss old) (start_of (w - d) y) d ≡ of_class new (start_of (w - d) y) d)
        class_from k (inl e) = inl (sym (of_way k) ∙ e ∙ of_old_class)
        class_from k (inr e) = inr (sym (of_way k) ∙ e ∙ of_new_class)

      -- Hitless steps pass every class that has an address.
      pub class_needed : (cap : ℕ) → Hitless w cap old new ss → (y d : ℕ) → y < 2 ^ w → d ≤ w → Within y d → ClassPassed (start_of (w - d) y) d
      class_needed cap h y d lt le z k = class_from y d le up h.arrives k (h.answered k y lt)
        where
          of_old_route : (r : Route) → Member r old → matches w r y ≡ true → Dec (d < r.len) → r.len ≤ d
          of_old_route r m e (no ge) = omega arith
          of_old_route r m e (yes gt) =
              absurd (none_via (sym (z.of_old r.len gt (all_member from.valid m).short) ∙ rung-member w from y r m e))

          up : Upto family y d
          up r m e = go (member-append old m)
            where
              go : Member r old ⊎ Member r (routes_put ss) → r.len ≤ d
              go (inl i) = of_old_route r i e (dec_lt d r.len)
              go (inr i) = all_member (all_puts (λ s. matches w s y ≡ true → s.len ≤ d) ss (λ j s h p. z.of_puts j s h p)) i e

      pub enough_classes : (cap : ℕ) → All Classed old → ((j : ℕ) → j < length ss → Classes (nth ss j) (after j ss old))
          → ((k : ℕ) → length (after k ss old) ≤ cap) → length (after (length ss) ss old) ≡ length new → Hitless w cap old new ss
      enough_classes cap classed taken few as_many =
          record {
            possible = possible_from ss old (λ j lt. (taken j lt).able);
            small = few;
            answered = λ k y lt. answers y lt (lookup w family y) refl k;
            arrives = arrives;
          }
        where
          moves : (r s : Route) → r.addr ≡ s.addr → r.len ≡ s.len → Classed r → Classed s
          moves r s e q z = record { passes = rw (sym e, sym q) z.passes; lands = rw (sym e, sym q) z.lands }

          put_classed : All (λ r. lacks old r ≡ true → Classed r) (routes_put ss)
          put_classed = all_puts (λ r. lacks old r ≡ true → Classed r) ss (λ j r lt e q. (taken j lt).classed r e (lacking (entry old r.addr r.len) q))

          family_classed : All Classed family
          family_classed = all_append classed (all_map (λ r f. of_put old Classed moves classed r f) put_classed)

          -- Each route at the end is new's.
          arrives : after (length ss) ss old ≡ new
          arrives =
              let last = table-after (length ss) ss sound from in
              let landed : All Classed (after (length ss) ss old) = spread old Classed moves classed (length ss) ss put_classed classed in
              sym (same_table last.order to.order (sym as_many)
              (λ r m. sym (all_member landed m).lands ∙ member-entry (ascending_distinct last.order) m))

          known : (y d l : ℕ) → d < l → Upto family y d → KnownAt y l → ⊥
          known y d l lt up (in_old e) =
              let v = routed-via (rung w old y l) e in
              let z = rung-route w from y l v.1 in
              let q : z.0.len ≡ l = z.3 in
              omega (arith, up z.0 (member-left (routes_put ss) z.1) z.2)
          known y d l lt up (in_new e) =
              let v = routed-via (rung w new y l) e in
              let z = rung-route w to y l v.1 in
              let q : z.0.len ≡ l = z.3 in
              omega (arith, (rw arrives at (upto_way y d up (length ss))) z.0 z.1 z.2)
          known y d l lt up (is_put p) =
              let q : p.route.len ≡ l = p.long in
              let e : p.route.addr ≡ start_of (w - p.route.len) y = rw q p.start in
              omega (arith, up p.route (member_right old (put-among ss p.step p.route p.inside p.puts)) (start_match w p.route y e))

          answers : (y : ℕ) → y < 2 ^ w → (m : Match) → lookup w family y ≡ m → (k : ℕ) → OldOrNew w old new (after k ss old) y
          answers y lt miss e k =
              let bare : (k : ℕ) → answer w (after k ss old) y ≡ none =
              λ k. ap (under none) ((lookup_none w (after k ss old) y).1
              (on_the_way (λ r. matches w r y ≡ true → ⊥) (λ r s a l z h. z (rw (sym a, sym l) at h)) (λ r m. (lookup_none w family y).0 e r m) k)) in
              inl (bare k ∙ sym (bare 0))
          answers y lt (hit d h) e k = pick c.passes
            where
              z : (r : Route) × IsLongest w family y r × (r.len ≡ d) × (r.hop ≡ h)
              z = lookup-found w family y e

              r : Route
              r = z.0

              c : Classed r
              c = all_member family_classed z.1.member

              v : Valid w r
              v = all_member family_valid z.1.member

              start : start_of (w - r.len) y ≡ r.addr
              start = match_start w r y v z.1.matching

              pick : ClassPassed r.addr r.len ⊎ NoClass r.addr r.len → OldOrNew w old new (after k ss old) y
              pick (inl p) = class_to y r.len v.short z.1.longest arrives k (rw start (p k))
              pick (inr f) =
                  let g = f y lt start in
                  absurd (known y r.len g.0 g.1 z.1.longest g.3)
