-- The choice by rank over words: a set's hops from the smallest on, the best of them so far kept; and the test of ranks, from the last to the first.
use Prim.Native.Nat.{ℕ, zero, suc, ◌-◌, ◌≤◌, ◌<◌}
use mathlib.Core.Path.{◌≡◌, refl, sym, ap, ◌∙◌}
use mathlib.Core.Bool.{Bool, true, false, true≢false, cond, not, ◌||◌, ◌&&◌, and-false, and-true, or-false}
use mathlib.Core.List.{List, [], ◌∷◌}
use native.Mathlib.Omega.{arith}
use lib.Bits.{bit_and, bit_or, and_le_l, or_comm}
use lib.Dec.{eqb, ltb}
use lib.ListN.{length, get_or, drop}
use lib.Seq.{drop-cons, drop-length}
use borrow.Author.Tests.{ne_eqb, lt-ltb, le-ltb}
use Rattle.theory.specs.Ranks.{rank_of, better, best, lowest, differing, is_ranking}
use Rattle.theory.specs.Results.{has, union, leaf, allowed, smallest}
use Rattle.theory.specs.Routes.{via}
use Rattle.theory.specs.Shapes.{Sorted}
use Rattle.theory.proofs.Chosen.{above-has}
use Rattle.theory.proofs.Ranks.{or_right, unranked_smallest, in_set, first_differs, differ_first}
use Rattle.words.proofs.BitLaws.{bit_dropped, if_eq}
use Rattle.positions.specs.Runs.{hop_of}
use Rattle.hops.specs.Sets.{ShowsHops, ShowsSet}
use Rattle.hops.proofs.SetLaws.{shows_none, zero-shows_none, shows-smallest, shows-union}

-- ---- The hops of a set, from the smallest on.

-- `x & (x - 1)` shows the hops of x but the smallest.
pub shows_rest : (x h : ℕ) (s : List ℕ) → ShowsHops x (h ∷ s) → 0 < x → ShowsHops (bit_and x (x - 1)) s
shows_rest x h s p l = record {
  sorted = p.sorted.1;
  low = λ k e. p.low k (or_right (eqb k h) (has k s) e);
  small = omega (arith, and_le_l x (x - 1), p.small);
  bits = λ k m.
      bit_dropped 64 x k l p.small
      ∙ rw (p.bits k m, shows-smallest x (h ∷ s) p l)
      (if_eq (λ t. ((t || has k s) && not t) ≡ has k s) k h (λ e. sym (absent k e (has k s) refl)) (λ e. and-true (has k s)));
}
  where
    absent : (k : ℕ) → k ≡ h → (b : Bool) → has k s ≡ b → has k s ≡ false
    absent k e true m = absurd (omega (arith, above-has h s p.sorted.0 k m))
    absent k e false m = m

-- The best of a hop and of those that are left is the lowest of the set.
abbrev pub Choosing : List ℕ → ℕ → ℕ → ℕ → Type 0
Choosing ranks x h rest = (s : List ℕ) → ShowsHops x s → (t : List ℕ) × ShowsHops rest t × (best ranks h t ≡ lowest ranks s)

-- At first the hop is the smallest, and the others are left.
pub choosing_start : (ranks : List ℕ) (x h rest : ℕ) → 0 < x → ((s : List ℕ) → ShowsHops x s → h ≡ smallest s)
    → ((k : ℕ) (s : List ℕ) → ShowsHops x (k ∷ s) → ShowsHops rest s) → Choosing ranks x h rest
choosing_start ranks x h rest l first left [] p = let z : x ≡ 0 = (zero-shows_none x [] p).1 refl in absurd (omega arith)
choosing_start ranks x h rest l first left (k ∷ s) p = (s, left k s p, ap (λ (j : ℕ). best ranks j s) (first (k ∷ s) p))

-- The better of the hop and the smallest that is left, with the others.
pub choosing_next : (ranks : List ℕ) (x h rest k rest' : ℕ) → Choosing ranks x h rest → 0 < rest → ((s : List ℕ) → ShowsHops rest s → k ≡ smallest s)
    → ((j : ℕ) (s : List ℕ) → ShowsHops rest (j ∷ s) → ShowsHops rest' s) → Choosing ranks x (better ranks h k) rest'
unfolding best
choosing_next ranks x h rest k rest' c l first left s p = go (c s p).0 (c s p).1 (c s p).2
  where
    go : (t : List ℕ) → ShowsHops rest t → best ranks h t ≡ lowest ranks s
        → (u : List ℕ) × ShowsHops rest' u × (best ranks (better ranks h k) u ≡ lowest ranks s)
    go [] q e = let z : rest ≡ 0 = (zero-shows_none rest [] q).1 refl in absurd (omega arith)
    go (j ∷ u) q e = (u, left j u q, ap (λ (i : ℕ). best ranks (better ranks h i) u) (first (j ∷ u) q) ∙ e)

-- The better of two hops is below 64 where both are.
pub better-below : (ranks : List ℕ) (h k : ℕ) → h < 64 → k < 64 → better ranks h k < 64
better-below ranks h k p q = go (ltb (rank_of ranks k) (rank_of ranks h))
  where
    go : (b : Bool) → cond b k h < 64
    go true = q
    go false = p

-- Where none is left, the hop is the lowest.
pub choosing_end : (ranks : List ℕ) (x h rest : ℕ) → Choosing ranks x h rest → rest ≡ 0 → (s : List ℕ) → ShowsHops x s → h ≡ lowest ranks s
unfolding best
choosing_end ranks x h rest c z s p =
    let t = c s p in
    sym (ap (best ranks h) ((zero-shows_none rest t.0 t.1).0 z)) ∙ t.2

-- Where no ranks are lent the smallest hop is the lowest.
pub unranked : (ranks s : List ℕ) → length ranks ≡ 0 → Sorted s → smallest s ≡ lowest ranks s
unranked [] s e p = sym (unranked_smallest s p)
unranked (r ∷ ranks) s e p = absurd (omega arith)

-- ---- The test of ranks.

-- Of 64 ranks it is whether they differ, of others whether there is none.
pub tests_differing : (ranks : List ℕ) (b : Bool) → length ranks ≡ 64 → differing 64 ranks ≡ b → b ≡ is_ranking 64 ranks
tests_differing ranks b long e = rw (long, e)

pub tests_length : (ranks : List ℕ) → (length ranks ≡ 64 → ⊥) → eqb (length ranks) 0 ≡ is_ranking 64 ranks
tests_length ranks other = rw (ne_eqb (length ranks) 64 other) (sym (or-false (eqb (length ranks) 0)))

-- The ranks from i on differ, and the word shows their set.
pub record Seen (ranks : List ℕ) (i seen : ℕ) : Type 0 where
  pub differ : differing 64 (drop i ranks) ≡ true
  pub shown : ShowsHops seen (union (drop i ranks) [])

-- A list fails the test where what follows some place does.
failed : (ranks : List ℕ) (i : ℕ) → differing 64 (drop i ranks) ≡ false → differing 64 ranks ≡ false
failed ranks i e = go (differing 64 ranks) refl
  where
    passed : (rs : List ℕ) (i : ℕ) → differing 64 rs ≡ true → differing 64 (drop i rs) ≡ true
    passed rs zero t = t
    passed [] (suc i) t = refl
    passed (r ∷ rs) (suc i) t = passed rs i (first_differs 64 r rs t).2

    go : (b : Bool) → differing 64 ranks ≡ b → differing 64 ranks ≡ false
    go true t = absurd (true≢false (sym (passed ranks i t) ∙ e))
    go false t = t

-- From the end on there is none.
pub seen_none : (ranks : List ℕ) (i : ℕ) → length ranks ≡ i → Seen ranks i 0
seen_none ranks i e =
    let z : drop i ranks ≡ [] = ap (λ (k : ℕ). drop k ranks) (sym e) ∙ drop-length ranks in
    record { differ = rw z; shown = rw z shows_none }

module _ {ranks : List ℕ} {i j seen : ℕ} (p : Seen ranks j seen) (next : j ≡ suc i) (inside : i < length ranks) where
  from : drop i ranks ≡ get_or ranks i 0 ∷ drop j ranks
  from = rw next (drop-cons ranks i 0 inside)

  hop_in : get_or ranks i 0 < 64 → allowed (hop_of (get_or ranks i 0)) (union (drop j ranks) []) ≡ has (get_or ranks i 0) (union (drop j ranks) [])
  hop_in low = rw (lt-ltb (get_or ranks i 0) 64 low)

  -- One more, that is a hop and not among them.
  pub seen_next : (one : ℕ) → get_or ranks i 0 < 64 → false ≡ allowed (hop_of (get_or ranks i 0)) (union (drop j ranks) [])
      → ShowsSet one (leaf (hop_of (get_or ranks i 0))) → Seen ranks i (bit_or seen one)
  seen_next one low new o =
      let r = get_or ranks i 0 in
      let shows : ShowsSet one (leaf (via r)) = rw (lt-ltb r 64 low) at o in
      record {
        differ = rw from (differ_first 64 r (drop j ranks) low (sym (hop_in low ∙ in_set r (drop j ranks)) ∙ sym new) p.differ);
        shown = rw (from, or_comm seen one) (shows-union one seen (r ∷ []) (union (drop j ranks) []) shows.0 p.shown);
      }

  -- One that is not, or is there already, fails the test, and with it the whole list does.
  pub seen-high : 64 ≤ get_or ranks i 0 → differing 64 ranks ≡ false
  seen-high high = failed ranks i (rw (from, le-ltb (get_or ranks i 0) 64 high))

  pub seen_twice : get_or ranks i 0 < 64 → true ≡ allowed (hop_of (get_or ranks i 0)) (union (drop j ranks) []) → differing 64 ranks ≡ false
  seen_twice low old =
      let r = get_or ranks i 0 in
      failed ranks i (rw (from, sym (hop_in low ∙ in_set r (drop j ranks)) ∙ sym old, and-false (ltb r 64)))
