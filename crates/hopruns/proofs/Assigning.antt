-- What a run assigns: a hole nothing; else the hop above if it has it, or its hop of lowest rank.
use Prim.Native.Nat.{ℕ, ◌<◌}
use mathlib.Core.Path.{◌≡◌, refl, sym, ap, ◌∙◌}
use mathlib.Core.Bool.{Bool, true, false, cond, ◌||◌}
use mathlib.Core.List.{List, [], ◌∷◌}
use mathlib.Core.Logic.{⊎_elim}
use native.Mathlib.Decide.{dec_lt}
use native.Mathlib.Omega.{arith}
use lib.Dec.{eqb}
use lib.ListN.{length}
use lib.Seq.{slice, slice_empty}
use borrow.Author.Tests.{eqb-true, eq-eqb, ne_eqb, lt-ltb, le-ltb}
use Rattle.std.specs.List.{list_any}
use Rattle.words.proofs.BitLaws.{if_eq}
use Rattle.theory.specs.Routes.{Answer, none, via}
use Rattle.theory.specs.Results.{has, allowed, assigned}
use Rattle.theory.specs.Ranks.{best, lowest}
use Rattle.theory.specs.Shapes.{Sorted}
use Rattle.theory.proofs.Hops.{or_cases}
use Rattle.theory.proofs.Ranks.{lowest_chooses, unranked_smallest}
use Rattle.hopruns.specs.Runs.{cand_of, Below, no_hop, hop_of}

-- What is in the list is below.
below-has : (n h : ℕ) (s : List ℕ) → Below n s → has h s ≡ true → h < n
below-has n h [] p e = let z : ◌≡◌ {A = ℕ} 0 1 = cc in absurd (omega arith)
below-has n h (k ∷ s) p e = ⊎_elim (λ q. omega (arith, eqb-true h k q, p.0)) (λ q. below-has n h s p.1 q) (or_cases (eqb h k) (has h s) e)

-- A list has a number exactly when one of its numbers is that.
pub any_has : (h : ℕ) (s : List ℕ) → list_any (λ k. eqb k h) s ≡ has h s
any_has h [] = refl
any_has h (k ∷ s) = rw (any_has h s) (if_eq (λ (b : Bool). (eqb k h || has h s) ≡ (b || has h s)) h k (λ e. rw (eq-eqb k h (sym e))) (λ n. rw (ne_eqb k h (λ e. n (sym e)))))

-- So the hop of lowest rank is.
pub lowest-below : (ranks : List ℕ) (n : ℕ) (s : List ℕ) → 0 < length s → Below n s → lowest ranks s < n
lowest-below ranks n [] some p = absurd (omega arith)
lowest-below ranks n (h ∷ s) some p = below-has n (lowest ranks (h ∷ s)) (h ∷ s) p (lowest_chooses ranks h s)

-- Without ranks it is the first.
pub unranked_first : (ranks : List ℕ) (h : ℕ) (s : List ℕ) → length ranks ≡ 0 → Sorted (h ∷ s) → h ≡ lowest ranks (h ∷ s)
unranked_first [] h s e p = sym (unranked_smallest (h ∷ s) p)
unranked_first (r ∷ ranks) h s e p = absurd (omega arith)

-- A hop above is allowed exactly when it is in the list.
allowed-has : (above : ℕ) (s : List ℕ) → Below no_hop s → allowed (hop_of above) s ≡ has above s
allowed-has above s p = go (dec_lt above no_hop)
  where
    out : (b : Bool) → has above s ≡ b → (above < no_hop → ⊥) → false ≡ has above s
    out true e n = absurd (n (below-has no_hop above s p e))
    out false e n = sym e

    go : Dec (above < no_hop) → allowed (hop_of above) s ≡ has above s
    go (yes lt) = rw (lt-ltb above no_hop lt)
    go (no n) = rw (le-ltb above no_hop (omega arith)) (out (has above s) refl n)

-- The three ways of the code.
pub assign_hole : (ranks o : List ℕ) (a e : ℕ) (g : Answer) → a ≡ e → none ≡ assigned (lowest ranks) (cand_of (slice a e o)) g
assign_hole ranks o a e g z = rw (z, slice_empty e o)

module _ (ranks : List ℕ) (above : ℕ) where
  pub assign_kept : (s : List ℕ) → 0 < length s → Below no_hop s → has above s ≡ true
      → hop_of above ≡ assigned (lowest ranks) (cand_of s) (hop_of above)
  assign_kept [] some p e = absurd (omega arith)
  assign_kept (h ∷ s) some p e =
      let t : allowed (hop_of above) (h ∷ s) ≡ true = allowed-has above (h ∷ s) p ∙ e in
      sym (ap (λ (b : Bool). cond b (hop_of above) (via (lowest ranks (h ∷ s)))) t)

  pub assign_taken : (s : List ℕ) → 0 < length s → Below no_hop s → has above s ≡ false
      → hop_of (lowest ranks s) ≡ assigned (lowest ranks) (cand_of s) (hop_of above)
  assign_taken [] some p e = absurd (omega arith)
  assign_taken (h ∷ s) some p e =
      let t : allowed (hop_of above) (h ∷ s) ≡ false = allowed-has above (h ∷ s) p ∙ e in
      let small : lowest ranks (h ∷ s) < no_hop = lowest-below ranks no_hop (h ∷ s) some p in
      ap (λ (b : Bool). cond b (via (lowest ranks (h ∷ s))) none) (lt-ltb (lowest ranks (h ∷ s)) no_hop small)
      ∙ sym (ap (λ (b : Bool). cond b (hop_of above) (via (lowest ranks (h ∷ s)))) t)

-- The best of a hop and of a list by its head.
pub best_end : (ranks : List ℕ) (h : ℕ) → best ranks h [] ≡ h
unfolding best
best_end ranks h = refl

pub best-next : (ranks : List ℕ) (h k : ℕ) (s : List ℕ) → best ranks (Rattle.theory.specs.Ranks.better ranks h k) s ≡ best ranks h (k ∷ s)
unfolding best
best-next ranks h k s = refl
