-- Runs and 64-bit words: below 64 both show the same candidates, and combining runs gives the sets that combining words gives.
use Prim.Native.Nat.{ℕ}
use mathlib.Core.Path.{◌≡◌, refl, sym, ap, subst, ◌∙◌}
use mathlib.Core.List.{List, [], ◌∷◌}
use Rattle.theory.specs.Results.{union, common, of, or_union, combine}
use Rattle.theory.specs.Shapes.{Some}
use Rattle.theory.proofs.Hops.{some-union}
use Rattle.hops.specs.Sets.{ShowsSet}
use Rattle.hops.proofs.SetLaws.{shows_unique_set}
use Rattle.hopruns.specs.Runs.{cand_of, hops_of, combined}

-- A run that is not empty shows a set that is not empty.
pub some_cand : (s : List ℕ) → Some s → cand_of s ≡ of s
some_cand [] p = absurd p
some_cand (h ∷ s) p = refl

-- The run of a run's candidates is the run.
pub cand_hops : (s : List ℕ) → hops_of (cand_of s) ≡ s
cand_hops [] = refl
cand_hops (h ∷ s) = refl

-- The combined run shows the combined candidates.
pub combined_cand : (s t : List ℕ) → cand_of (combined s t) ≡ combine (cand_of s) (cand_of t)
combined_cand [] t = refl
combined_cand (h ∷ s) [] = refl
combined_cand (h ∷ s) (k ∷ t) = go (common (h ∷ s) (k ∷ t))
  where
    go : (c : List ℕ) → cand_of (or_union c (h ∷ s) (k ∷ t)) ≡ of (or_union c (h ∷ s) (k ∷ t))
    go [] = some_cand (union (h ∷ s) (k ∷ t)) (some-union (h ∷ s) (k ∷ t) tt)
    go (j ∷ c) = refl

-- So the word that combining two runs' words gives shows the run that combines the two,
pub same_sets : (x : ℕ) (s t : List ℕ) → ShowsSet x (combine (cand_of s) (cand_of t)) → ShowsSet x (cand_of (combined s t))
same_sets x s t h = subst (ShowsSet x) (sym (combined_cand s t)) h

-- and, since a word shows one run only,
pub one_run : (x : ℕ) (s t : List ℕ) → ShowsSet x (cand_of s) → ShowsSet x (cand_of t) → s ≡ t
one_run x s t p q = sym (cand_hops s) ∙ ap hops_of (shows_unique_set x (cand_of s) (cand_of t) p q) ∙ cand_hops t

-- no other.
pub same_run : (x : ℕ) (s t u : List ℕ) → ShowsSet x (combine (cand_of s) (cand_of t)) → ShowsSet x (cand_of u) → u ≡ combined s t
same_run x s t u h q = one_run x u (combined s t) q (same_sets x s t h)
