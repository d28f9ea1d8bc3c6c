-- Candidate sets stand in ascending order, so the first hop is the smallest, and a lawful choice.
use Prim.Native.Nat.{ℕ, zero, suc, ◌+◌, ◌^◌, ◌≤◌, ◌<◌}
use mathlib.Core.Path.{◌≡◌, refl, sym, ap₂, ◌∙◌}
use mathlib.Core.Bool.{Bool, true, false, true≢false, cond, ◌||◌}
use mathlib.Core.List.{List, [], ◌∷◌}
use mathlib.Core.Logic.{⊎_elim}
use native.Mathlib.Omega.{arith}
use lib.Dec.{eqb, ltb}
use borrow.Author.Tests.{eq-eqb, eqb-true, eqb-false, ltb-true, ltb-false}
use Rattle.theory.specs.Shapes.{Above, Sorted}
use Rattle.theory.specs.Results.{has, insert, union, common, Cand, hole, of, leaf, or_union, combine, sets, smallest, Chooses}
use Rattle.theory.specs.Routes.{Answer, none, via}
use Rattle.theory.proofs.Hops.{or_cases}

pub smallest_chooses : Chooses smallest
smallest_chooses h s = rw (eq-eqb h h refl)

above_less : (h k : ℕ) (s : List ℕ) → h ≤ k → Above k s → Above h s
above_less h k [] le p = tt
above_less h k (j ∷ s) le p = (omega arith, above_less h k s le p.1)

above-insert : (h k : ℕ) (s : List ℕ) → h < k → Above h s → Above h (insert k s)
above-insert h k [] lt p = (lt, tt)
above-insert h k (j ∷ s) lt p = go (ltb k j) (eqb k j) (above-insert h k s lt p.1)
  where
    go : (b c : Bool) → Above h (insert k s) → Above h (cond b (k ∷ j ∷ s) (cond c (j ∷ s) (j ∷ insert k s)))
    go true c ih = (lt, p)
    go false true ih = p
    go false false ih = (p.0, ih)

sorted_insert : (h : ℕ) (s : List ℕ) → Sorted s → Sorted (insert h s)
sorted_insert h [] p = (tt, tt)
sorted_insert h (k ∷ s) p = go (ltb h k) refl (eqb h k) refl (sorted_insert h s p.1)
  where
    go : (b : Bool) → ltb h k ≡ b → (c : Bool) → eqb h k ≡ c → Sorted (insert h s) → Sorted (cond b (h ∷ k ∷ s) (cond c (k ∷ s) (k ∷ insert h s)))
    go true e c q ih = let lt : h < k = ltb-true h k e in ((lt, above_less h k s (omega arith) p.0), p)
    go false e true q ih = p
    go false e false q ih = (above-insert k h s (above (ltb-false h k e)) p.0, ih)
      where
        above : k ≤ h → k < h
        above le = ⊎_elim (λ z. absurd (eqb-false h k q (sym z))) (λ lt. lt) (native.Mathlib.Nat.eq-or-lt_of_le le)

-- A union with an ascending list is ascending.
pub sorted-union : (s t : List ℕ) → Sorted t → Sorted (union s t)
sorted-union [] t p = p
sorted-union (h ∷ s) t p = sorted_insert h (union s t) (sorted-union s t p)

above-common : (h : ℕ) (s t : List ℕ) → Above h s → Above h (common s t)
above-common h [] t p = tt
above-common h (k ∷ s) t p = go (has k t) (above-common h s t p.1)
  where
    go : (b : Bool) → Above h (common s t) → Above h (cond b (k ∷ common s t) (common s t))
    go true ih = (p.0, ih)
    go false ih = ih

-- What an ascending list has in common with another is ascending.
pub sorted-common : (s t : List ℕ) → Sorted s → Sorted (common s t)
sorted-common [] t p = tt
sorted-common (k ∷ s) t p = go (has k t) (sorted-common s t p.1)
  where
    go : (b : Bool) → Sorted (common s t) → Sorted (cond b (k ∷ common s t) (common s t))
    go true ih = (above-common k s t p.0, ih)
    go false ih = ih

abbrev pub SortedC : Cand → Type 0
SortedC hole = Unit {0}
SortedC (of s) = Sorted s

sorted-leaf : (v : Answer) → SortedC (leaf v)
sorted-leaf none = tt
sorted-leaf (via h) = (tt, tt)

sorted-combine : (S R : Cand) → SortedC S → SortedC R → SortedC (combine S R)
sorted-combine hole R p q = tt
sorted-combine (of s) hole p q = tt
sorted-combine (of s) (of t) p q = go (common s t) (sorted-common s t p)
  where
    go : (c : List ℕ) → Sorted c → Sorted (or_union c s t)
    go [] r = sorted-union s t q
    go (k ∷ c) r = r

pub sets-sorted : (f : ℕ → Answer) (n a : ℕ) → SortedC (sets f n a)
unfolding sets
sets-sorted f zero a = sorted-leaf (f a)
sets-sorted f (suc n) a = sorted-combine (sets f n a) (sets f n (a + 2 ^ n)) (sets-sorted f n a) (sets-sorted f n (a + 2 ^ n))

-- What is in a list that is above h is above h.
pub above-has : (h : ℕ) (s : List ℕ) → Above h s → (k : ℕ) → has k s ≡ true → h < k
above-has h [] p k e = let z : ◌≡◌ {A = ℕ} 0 1 = cc in absurd (omega arith)
above-has h (j ∷ s) p k e = ⊎_elim (λ q. omega (arith, eqb-true k j q)) (λ q. above-has h s p.1 k q) (or_cases (eqb k j) (has k s) e)

-- So the first hop is at most every other.
pub smallest_least : (s : List ℕ) → Sorted s → (h : ℕ) → has h s ≡ true → smallest s ≤ h
smallest_least [] p h e = omega arith
smallest_least (k ∷ s) p h e =
    ⊎_elim (λ q. omega (arith, eqb-true h k q)) (λ q. omega (arith, above-has k s p.0 h q)) (or_cases (eqb h k) (has h s) e)

-- Two ascending lists with the same members are equal: a set has one list.
pub sorted_unique : (s t : List ℕ) → Sorted s → Sorted t → ((h : ℕ) → has h s ≡ has h t) → s ≡ t
sorted_unique [] [] p q e = refl
sorted_unique [] (k ∷ t) p q e = absurd (true≢false (sym (smallest_chooses k t) ∙ sym (e k)))
sorted_unique (h ∷ s) [] p q e = absurd (true≢false (sym (smallest_chooses h s) ∙ e h))
sorted_unique (h ∷ s) (k ∷ t) p q e =
    let lower : h ≤ k = smallest_least (h ∷ s) p k (e k ∙ smallest_chooses k t) in
    let upper : k ≤ h = smallest_least (k ∷ t) q h (sym (e h) ∙ smallest_chooses h s) in
    let same : h ≡ k = omega arith in
    ap₂ ◌∷◌ same (sorted_unique s t p.1 q.1 (λ j. rest same j (eqb j k) refl))
  where
    outside : (j : ℕ) (s : List ℕ) → Above j s → has j s ≡ false
    outside j s r = go (has j s) refl
      where
        go : (b : Bool) → has j s ≡ b → has j s ≡ false
        go true m = let lt : j < j = above-has j s r j m in absurd (omega arith)
        go false m = m

    rest : h ≡ k → (j : ℕ) (b : Bool) → eqb j k ≡ b → has j s ≡ has j t
    rest same j true m =
        let here : j ≡ k = eqb-true j k m in
        rw here (outside k s (rw same at p.0) ∙ sym (outside k t q.0))
    rest same j false m =
        let both : (eqb j k || has j s) ≡ (eqb j k || has j t) = rw same at (e j) in
        rw m at both
