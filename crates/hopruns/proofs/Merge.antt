-- Two ascending lists, met from their heads: what they share, and, where they share nothing, what is in either.
use Prim.Native.Nat.{ℕ, zero, suc, ◌+◌, ◌-◌, ◌≤◌, ◌<◌}
use mathlib.Core.Path.{◌≡◌, refl, sym, ap, ap₂, ◌∙◌}
use mathlib.Core.Bool.{Bool, true, false, cond, ◌||◌}
use mathlib.Core.List.{List, [], ◌∷◌, ◌++◌}
use mathlib.Core.Logic.{◌⊎◌, inl, inr}
use native.Mathlib.Nat.{eq-or-lt_of_le}
use native.Mathlib.Decide.{dec_lt}
use native.Mathlib.Omega.{arith}
use lib.Dec.{eqb, leb, ltb}
use mir.Val.{bool_byte}
use lib.ListN.{length, get_or}
use lib.Seq.{slice, slice-cons, slice_empty, length-slice}
use borrow.Author.Tests.{eq-eqb, ne_eqb, lt-ltb, le-ltb, le-leb, lt-leb}
use Rattle.theory.specs.Results.{has, insert, union, common, or_union}
use Rattle.theory.specs.Shapes.{Above, Sorted}
use Rattle.theory.proofs.Hops.{has-union}
use Rattle.hopruns.specs.Runs.{Run, Below, no_hop, combined}

-- What is below an ascending list is not in it.
pub not_in : (h : ℕ) (s : List ℕ) → Above h s → has h s ≡ false
not_in h [] p = refl
not_in h (k ∷ s) p = rw (ne_eqb h k (λ e. omega arith)) (not_in h s p.1)

pub above_low : (h k : ℕ) (s : List ℕ) → h < k → Above k s → Above h s
above_low h k [] lt p = tt
above_low h k (j ∷ s) lt p = (omega arith, above_low h k s lt p.1)

-- ---- What two lists share.

-- A first hop below the other list is not shared.
skip_left : (h k : ℕ) (s t : List ℕ) → h < k → Sorted (k ∷ t) → common (h ∷ s) (k ∷ t) ≡ common s (k ∷ t)
skip_left h k s t lt p = rw (not_in h (k ∷ t) (lt, above_low h k t lt p.0))

skip_right : (k : ℕ) (s t : List ℕ) → Above k s → common s (k ∷ t) ≡ common s t
skip_right k [] t p = refl
skip_right k (h ∷ s) t p = rw (ne_eqb h k (λ e. omega arith), skip_right k s t p.1)

both : (h : ℕ) (s t : List ℕ) → Above h s → common (h ∷ s) (h ∷ t) ≡ h ∷ common s t
both h s t p = rw (eq-eqb h h refl) (ap (λ (u : List ℕ). h ∷ u) (skip_right h s t p))

-- The two lists by their first hops: what is taken, and what is left of each.
meet : (h k : ℕ) (s t : List ℕ) → Sorted (h ∷ s) → Sorted (k ∷ t)
    → common (h ∷ s) (k ∷ t) ≡ cond (eqb h k) (h ∷ []) [] ++ common (cond (leb h k) s (h ∷ s)) (cond (leb k h) t (k ∷ t))
meet h k s t p q = go (dec_lt h k) (dec_lt k h)
  where
    left_with : Bool → Bool → Bool → List ℕ
    left_with b c d = cond b (h ∷ []) [] ++ common (cond c s (h ∷ s)) (cond d t (k ∷ t))

    by : (b c d : Bool) → eqb h k ≡ b → leb h k ≡ c → leb k h ≡ d → left_with b c d ≡ left_with (eqb h k) (leb h k) (leb k h)
    by b c d x y z =
        sym (ap (λ (u : Bool). left_with u (leb h k) (leb k h)) x ∙ ap (λ (u : Bool). left_with b u (leb k h)) y ∙ ap (λ (u : Bool). left_with b c u) z)

    go : Dec (h < k) → Dec (k < h) → common (h ∷ s) (k ∷ t) ≡ left_with (eqb h k) (leb h k) (leb k h)
    go (yes lt) d =
        skip_left h k s t lt q ∙ by false true false (ne_eqb h k (λ e. omega arith)) (le-leb h k (omega arith)) (lt-leb k h lt)
    go (no ge) (yes lt) =
        skip_right k (h ∷ s) t (lt, above_low k h s lt p.0)
        ∙ by false false true (ne_eqb h k (λ e. omega arith)) (lt-leb h k lt) (le-leb k h (omega arith))
    go (no ge) (no le) =
        let e : k ≡ h = omega arith in
        ap (λ (j : ℕ). common (h ∷ s) (j ∷ t)) e
        ∙ both h s t p.0
        ∙ by true true true (eq-eqb h k (sym e)) (le-leb h k (omega arith)) (le-leb k h (omega arith))

-- ---- What is in either, where nothing is shared.

insert-first : (h : ℕ) (u : List ℕ) → Above h u → insert h u ≡ h ∷ u
insert-first h [] p = refl
insert-first h (k ∷ u) p = rw (lt-ltb h k p.0)

insert-later : (h k : ℕ) (u : List ℕ) → k < h → insert h (k ∷ u) ≡ k ∷ insert h u
insert-later h k u lt = rw (le-ltb h k (omega arith), ne_eqb h k (λ e. omega arith))

above-insert : (h k : ℕ) (s : List ℕ) → h < k → Above h s → Above h (insert k s)
above-insert h k [] lt p = (lt, tt)
above-insert h k (j ∷ s) lt p = go (ltb k j) (eqb k j) (above-insert h k s lt p.1)
  where
    go : (b c : Bool) → Above h (insert k s) → Above h (cond b (k ∷ j ∷ s) (cond c (j ∷ s) (j ∷ insert k s)))
    go true c ih = (lt, p)
    go false true ih = p
    go false false ih = (p.0, ih)

above-union : (h : ℕ) (s t : List ℕ) → Above h s → Above h t → Above h (union s t)
above-union h [] t p q = q
above-union h (k ∷ s) t p q = above-insert h k (union s t) p.0 (above-union h s t p.1 q)

pub union_left : (h : ℕ) (s t : List ℕ) → Above h s → Above h t → union (h ∷ s) t ≡ h ∷ union s t
union_left h s t p q = insert-first h (union s t) (above-union h s t p q)

pub union_right : (k : ℕ) (s t : List ℕ) → Above k s → union s (k ∷ t) ≡ k ∷ union s t
union_right k [] t p = refl
union_right k (h ∷ s) t p = rw (union_right k s t p.1) (insert-later h k (union s t) p.0)

-- Two lists share nothing once the first hop of one goes.
pub apart-left : (h : ℕ) (s t : List ℕ) → common (h ∷ s) t ≡ [] → common s t ≡ []
apart-left h s t e = go (has h t) e
  where
    go : (b : Bool) → cond b (h ∷ common s t) (common s t) ≡ [] → common s t ≡ []
    go true e = let z : ◌≡◌ {A = ℕ} 0 1 = cc in absurd (omega arith)
    go false e = e

pub apart_not : (h : ℕ) (s t : List ℕ) → common (h ∷ s) t ≡ [] → has h t ≡ false
apart_not h s t e = go (has h t) refl e
  where
    go : (b : Bool) → has h t ≡ b → cond b (h ∷ common s t) (common s t) ≡ [] → has h t ≡ false
    go true q e = let z : ◌≡◌ {A = ℕ} 0 1 = cc in absurd (omega arith)
    go false q e = q

or_none : (p q : Bool) → (p || q) ≡ false → q ≡ false
or_none true q e = let z : ◌≡◌ {A = ℕ} 0 1 = cc in absurd (omega arith)
or_none false q e = e

or_first : (p q : Bool) → (p || q) ≡ false → p ≡ false
or_first true q e = e
or_first false q e = refl

pub apart-right : (k : ℕ) (s t : List ℕ) → common s (k ∷ t) ≡ [] → common s t ≡ []
apart-right k [] t e = refl
apart-right k (h ∷ s) t e =
    rw (or_none (eqb h k) (has h t) (apart_not h s (k ∷ t) e)) (apart-right k s t (apart-left h s (k ∷ t) e))

-- Where nothing is shared, either has as many as both together.
insert_more : (h : ℕ) (u : List ℕ) → has h u ≡ false → length (insert h u) ≡ suc (length u)
insert_more h [] e = refl
insert_more h (k ∷ u) e = go (ltb h k) (insert_more h u (or_none (eqb h k) (has h u) e))
  where
    go : (b : Bool) → length (insert h u) ≡ suc (length u) → length (cond b (h ∷ k ∷ u) (cond (eqb h k) (k ∷ u) (k ∷ insert h u))) ≡ suc (suc (length u))
    go true ih = refl
    go false ih = rw (or_first (eqb h k) (has h u) e) (ap suc ih)

pub union-length : (s t : List ℕ) → Sorted s → common s t ≡ [] → length (union s t) ≡ length s + length t
union-length [] t p e = sym (native.Mathlib.Nat.zero-add (length t))
union-length (h ∷ s) t p e =
    let none : has h (union s t) ≡ false = has-union h s t ∙ rw (not_in h s p.0) (apart_not h s t e) in
    let ih = union-length s t p.1 (apart-left h s t e) in
    let more = insert_more h (union s t) none in
    omega (arith, ih, more)

pub common-length : (s t : List ℕ) → length (common s t) ≤ length s
common-length [] t = omega arith
common-length (h ∷ s) t = go (has h t) (common-length s t)
  where
    go : (b : Bool) → length (common s t) ≤ length s → length (cond b (h ∷ common s t) (common s t)) ≤ suc (length s)
    go true le = omega arith
    go false le = omega arith

-- Nothing is shared with an empty list.
pub common_none : (s : List ℕ) → common s [] ≡ []
common_none [] = refl
common_none (h ∷ s) = common_none s

-- ---- Of runs.

-- A run that is not empty by its first word and the run after it.
pub run-cons : (o : List ℕ) (i e : ℕ) → Run o i e → i < e → slice i e o ≡ get_or o i 0 ∷ slice (suc i) e o
run-cons o i e r lt = slice-cons i e o 0 lt r.within

pub run-next : (o : List ℕ) (i e : ℕ) → Run o i e → i < e → Run o (suc i) e
run-next o i e r lt =
    let s : Sorted (get_or o i 0 ∷ slice (suc i) e o) = rw (run-cons o i e r lt) at r.sorted in
    let b : Below no_hop (get_or o i 0 ∷ slice (suc i) e o) = rw (run-cons o i e r lt) at r.hops in
    record { order = lt; within = r.within; sorted = s.1; hops = b.1 }

-- The run after its first word, if that is taken.
pub run_step : (o : List ℕ) (i e : ℕ) (b : Bool) → Run o i e → i < e → Run o (i + cond b 1 0) e
run_step o i e true r lt = let z : i + 1 ≡ suc i = omega arith in rw z (run-next o i e r lt)
run_step o i e false r lt = let z : i + 0 ≡ i = omega arith in rw z r

step_slice : (o : List ℕ) (i e : ℕ) (b : Bool) → Run o i e → i < e
    → cond b (slice (suc i) e o) (get_or o i 0 ∷ slice (suc i) e o) ≡ slice (i + cond b 1 0) e o
step_slice o i e true r lt = let z : i + 1 ≡ suc i = omega arith in rw z
step_slice o i e false r lt = let z : i + 0 ≡ i = omega arith in rw z (sym (run-cons o i e r lt))

-- What two runs share, by their first words.
pub shared_step : (o : List ℕ) (i e j f : ℕ) → Run o i e → Run o j f → i < e → j < f
    → common (slice i e o) (slice j f o)
    ≡ cond (eqb (get_or o i 0) (get_or o j 0)) (get_or o i 0 ∷ []) []
    ++ common (slice (i + cond (leb (get_or o i 0) (get_or o j 0)) 1 0) e o) (slice (j + cond (leb (get_or o j 0) (get_or o i 0)) 1 0) f o)
shared_step o i e j f r q lt lt' =
    let x : ℕ = get_or o i 0 in
    let y : ℕ = get_or o j 0 in
    let p : Sorted (x ∷ slice (suc i) e o) = rw (run-cons o i e r lt) at r.sorted in
    let p' : Sorted (y ∷ slice (suc j) f o) = rw (run-cons o j f q lt') at q.sorted in
    ap₂ common (run-cons o i e r lt) (run-cons o j f q lt')
    ∙ meet x y (slice (suc i) e o) (slice (suc j) f o) p p'
    ∙ ap (λ (u : List ℕ). cond (eqb x y) (x ∷ []) [] ++ u) (ap₂ common (step_slice o i e (leb x y) r lt) (step_slice o j f (leb y x) q lt'))

-- One of two numbers is at most the other.
pub one_moves : (x y : ℕ) → 1 ≤ cond (leb x y) 1 0 + cond (leb y x) 1 0
one_moves x y = go (dec_lt x y)
  where
    go : Dec (x < y) → 1 ≤ cond (leb x y) 1 0 + cond (leb y x) 1 0
    go (yes lt) = rw (le-leb x y (omega arith), lt-leb y x lt) (omega arith)
    go (no ge) = rw (le-leb y x (omega arith)) (omega arith)

-- The number of a test: 1 if it holds.
pub number_of : (b : Bool) → bool_byte b ≡ cond b 1 0
number_of true = refl
number_of false = refl

pub at_most_one : (b : Bool) → cond b 1 0 ≤ 1
at_most_one true = omega arith
at_most_one false = omega arith

pub length_if : (b : Bool) (x : ℕ) → length (cond b (x ∷ []) []) ≡ cond b 1 0
length_if true x = refl
length_if false x = refl

-- How many are shared, by the first words.
pub count_step : (o : List ℕ) (i e j f : ℕ) → Run o i e → Run o j f → i < e → j < f
    → length (common (slice i e o) (slice j f o))
    ≡ cond (eqb (get_or o i 0) (get_or o j 0)) 1 0
    + length (common (slice (i + cond (leb (get_or o i 0) (get_or o j 0)) 1 0) e o) (slice (j + cond (leb (get_or o j 0) (get_or o i 0)) 1 0) f o))
count_step o i e j f r q lt lt' =
    let x : ℕ = get_or o i 0 in
    let y : ℕ = get_or o j 0 in
    ap length (shared_step o i e j f r q lt lt')
    ∙ lib.ListN.length-append (cond (eqb x y) (x ∷ []) []) (common (slice (i + cond (leb x y) 1 0) e o) (slice (j + cond (leb y x) 1 0) f o))
    ∙ ap (λ (k : ℕ). k + length (common (slice (i + cond (leb x y) 1 0) e o) (slice (j + cond (leb y x) 1 0) f o))) (length_if (eqb x y) x)

pub run_length : (o : List ℕ) (i e : ℕ) → Run o i e → length (slice i e o) ≡ e - i
run_length o i e r = length-slice i e o r.within

-- Nothing is shared by a run that is done.
pub done_left : (o : List ℕ) (i e : ℕ) (t : List ℕ) → Run o i e → e ≤ i → common (slice i e o) t ≡ []
done_left o i e t r le = let z : i ≡ e = omega (arith, r.order) in rw (z, slice_empty e o)

pub done_right : (o : List ℕ) (j f : ℕ) (s : List ℕ) → Run o j f → f ≤ j → common s (slice j f o) ≡ []
done_right o j f s r le = let z : j ≡ f = omega (arith, r.order) in rw (z, slice_empty f o) (common_none s)

-- ---- Two runs combined.

-- No list is empty that has a hop.
pub empty-length : (s : List ℕ) → length s ≡ 0 → s ≡ []
empty-length [] e = refl
empty-length (h ∷ s) e = absurd (omega arith)

pub hole-left : (o : List ℕ) (a e : ℕ) (t : List ℕ) → a ≡ e → combined (slice a e o) t ≡ []
hole-left o a e t z = rw (z, slice_empty e o)

pub hole-right : (o : List ℕ) (b f : ℕ) (s : List ℕ) → b ≡ f → combined s (slice b f o) ≡ []
hole-right o b f s z = rw (z, slice_empty f o) (go s)
  where
    go : (s : List ℕ) → combined s [] ≡ []
    go [] = refl
    go (h ∷ s) = refl

or_union_lem : (c s t : List ℕ) → length c ≡ 0 → or_union c s t ≡ union s t
or_union_lem [] s t e = refl
or_union_lem (h ∷ c) s t e = absurd (omega arith)

or_shared : (c s t : List ℕ) → 0 < length c → or_union c s t ≡ c
or_shared [] s t e = absurd (omega arith)
or_shared (h ∷ c) s t e = refl

module _ (o : List ℕ) (a e b f : ℕ) (r : Run o a e) (q : Run o b f) (lt : a < e) (lt' : b < f) where
  both_some : combined (slice a e o) (slice b f o) ≡ or_union (common (slice a e o) (slice b f o)) (slice a e o) (slice b f o)
  both_some = rw (run-cons o a e r lt, run-cons o b f q lt')

  pub combined_either : length (common (slice a e o) (slice b f o)) ≡ 0 → combined (slice a e o) (slice b f o) ≡ union (slice a e o) (slice b f o)
  combined_either z = both_some ∙ or_union_lem (common (slice a e o) (slice b f o)) (slice a e o) (slice b f o) z

  pub combined_shared : 0 < length (common (slice a e o) (slice b f o)) → combined (slice a e o) (slice b f o) ≡ common (slice a e o) (slice b f o)
  combined_shared z = both_some ∙ or_shared (common (slice a e o) (slice b f o)) (slice a e o) (slice b f o) z

  pub apart_runs : length (common (slice a e o) (slice b f o)) ≡ 0 → common (slice a e o) (slice b f o) ≡ []
  apart_runs z = empty-length (common (slice a e o) (slice b f o)) z

  pub either_length : length (common (slice a e o) (slice b f o)) ≡ 0 → length (union (slice a e o) (slice b f o)) ≡ (e - a) + (f - b)
  either_length z =
      omega (arith, union-length (slice a e o) (slice b f o) r.sorted (apart_runs z), run_length o a e r, run_length o b f q)

  -- The size tells which: all the hops of both exactly where they share none.
  pub size_either : length (combined (slice a e o) (slice b f o)) ≡ (e - a) + (f - b) → length (common (slice a e o) (slice b f o)) ≡ 0
  size_either z = go (length (common (slice a e o) (slice b f o))) refl
    where
      go : (n : ℕ) → length (common (slice a e o) (slice b f o)) ≡ n → length (common (slice a e o) (slice b f o)) ≡ 0
      go zero h = h
      go (suc n) h =
          let same = ap length (combined_shared (omega arith)) in
          absurd (omega (arith, same, z, common-length (slice a e o) (slice b f o), run_length o a e r))

  pub size_shared : (length (combined (slice a e o) (slice b f o)) ≡ (e - a) + (f - b) → ⊥) → 0 < length (common (slice a e o) (slice b f o))
  size_shared other = go (length (common (slice a e o) (slice b f o))) refl
    where
      go : (n : ℕ) → length (common (slice a e o) (slice b f o)) ≡ n → 0 < length (common (slice a e o) (slice b f o))
      go zero h = absurd (other (ap length (combined_either h) ∙ either_length h))
      go (suc n) h = omega arith

-- A run that combines two and is no hole is of two that are none.
module _ (o : List ℕ) (a e b f : ℕ) (r : Run o a e) (q : Run o b f) (some : 0 < length (combined (slice a e o) (slice b f o))) where
  pub some_left : a < e
  some_left = go (eq-or-lt_of_le r.order)
    where
      go : (a ≡ e) ⊎ (a < e) → a < e
      go (inl z) = absurd (omega (arith, ap length (hole-left o a e (slice b f o) z), some))
      go (inr lt) = lt

  pub some_right : b < f
  some_right = go (eq-or-lt_of_le q.order)
    where
      go : (b ≡ f) ⊎ (b < f) → b < f
      go (inl z) = absurd (omega (arith, ap length (hole-right o b f (slice a e o) z), some))
      go (inr lt) = lt

-- Which of the two ways it is, by the size.
module _ (o : List ℕ) (a e b f size : ℕ) (r : Run o a e) (q : Run o b f) (sized : size ≡ length (combined (slice a e o) (slice b f o))) (some : 0 < size) where
  left-some : a < e
  left-some = some_left o a e b f r q (omega arith)

  right-some : b < f
  right-some = some_right o a e b f r q (omega arith)

  -- All, where they share none.
  pub way_either : size ≡ (e - a) + (f - b)
      → (common (slice a e o) (slice b f o) ≡ []) × (combined (slice a e o) (slice b f o) ≡ union (slice a e o) (slice b f o))
  way_either z =
      let none = size_either o a e b f r q left-some right-some (sym sized ∙ z) in
      (apart_runs o a e b f r q left-some right-some none, combined_either o a e b f r q left-some right-some none)

  -- Those that they share.
  pub way_shared : (size ≡ (e - a) + (f - b) → ⊥) → combined (slice a e o) (slice b f o) ≡ common (slice a e o) (slice b f o)
  way_shared other = combined_shared o a e b f r q left-some right-some (size_shared o a e b f r q left-some right-some (λ z. other (sized ∙ z)))
