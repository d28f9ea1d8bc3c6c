-- Runs that are combined and laid: what is laid is a run, and the runs above it are what they were.
use Prim.Native.Nat.{ℕ, ◌+◌, ◌-◌, ◌≤◌, ◌<◌}
use mathlib.Core.Path.{◌≡◌, sym, ap, ◌∙◌}
use mathlib.Core.Bool.{Bool, true, false, cond}
use mathlib.Core.List.{List, [], ◌∷◌, ◌++◌, append_assoc}
use native.Mathlib.Omega.{arith}
use lib.Dec.{eqb, ltb}
use lib.ListN.{length, take, drop, length-append}
use lib.Seq.{slice, take_at, drop_at, drop-drop, length-take-le}
use Rattle.theory.specs.Results.{has, insert, union, common, or_union}
use Rattle.theory.specs.Shapes.{Above, Sorted}
use Rattle.theory.proofs.Chosen.{sorted-common, sorted-union}
use Rattle.nodes.specs.Room.{Pushed}
use Rattle.nodes.proofs.RoomLaws.{pushed-length}
use Rattle.hopruns.specs.Runs.{Run, Below, combined}
use Rattle.hopruns.proofs.Laying.{drop-take}

-- The run that combines two is ascending.
pub combined-sorted : (s t : List ℕ) → Sorted s → Sorted t → Sorted (combined s t)
combined-sorted [] t p q = tt
combined-sorted (h ∷ s) [] p q = tt
combined-sorted (h ∷ s) (k ∷ t) p q = go (common (h ∷ s) (k ∷ t)) (sorted-common (h ∷ s) (k ∷ t) p)
  where
    go : (c : List ℕ) → Sorted c → Sorted (or_union c (h ∷ s) (k ∷ t))
    go [] r = sorted-union (h ∷ s) (k ∷ t) q
    go (j ∷ c) r = r

-- Its hops are below what those of both are below.
below-insert : (n h : ℕ) (s : List ℕ) → h < n → Below n s → Below n (insert h s)
below-insert n h [] lt p = (lt, tt)
below-insert n h (k ∷ s) lt p = go (ltb h k) (eqb h k) (below-insert n h s lt p.1)
  where
    go : (b c : Bool) → Below n (insert h s) → Below n (cond b (h ∷ k ∷ s) (cond c (k ∷ s) (k ∷ insert h s)))
    go true c ih = (lt, p)
    go false true ih = p
    go false false ih = (p.0, ih)

below-union : (n : ℕ) (s t : List ℕ) → Below n s → Below n t → Below n (union s t)
below-union n [] t p q = q
below-union n (h ∷ s) t p q = below-insert n h (union s t) p.0 (below-union n s t p.1 q)

below-common : (n : ℕ) (s t : List ℕ) → Below n s → Below n (common s t)
below-common n [] t p = tt
below-common n (h ∷ s) t p = go (has h t) (below-common n s t p.1)
  where
    go : (b : Bool) → Below n (common s t) → Below n (cond b (h ∷ common s t) (common s t))
    go true ih = (p.0, ih)
    go false ih = ih

pub combined-below : (n : ℕ) (s t : List ℕ) → Below n s → Below n t → Below n (combined s t)
combined-below n [] t p q = tt
combined-below n (h ∷ s) [] p q = tt
combined-below n (h ∷ s) (k ∷ t) p q = go (common (h ∷ s) (k ∷ t)) (below-common n (h ∷ s) (k ∷ t) p)
  where
    go : (c : List ℕ) → Below n c → Below n (or_union c (h ∷ s) (k ∷ t))
    go [] r = below-union n (h ∷ s) (k ∷ t) p q
    go (j ∷ c) r = r

-- An ascending list below n has at most n numbers.
above-few : (n h : ℕ) (s : List ℕ) → Above h s → Sorted s → Below n s → h < n → h + length s < n
above-few n h [] a p q lt = omega arith
above-few n h (k ∷ s) a p q lt = omega (arith, above-few n k s p.0 p.1 q.1 q.0, a.0)

pub sorted-few : (n : ℕ) (s : List ℕ) → Sorted s → Below n s → length s ≤ n
sorted-few n [] p q = omega arith
sorted-few n (h ∷ s) p q = omega (arith, above-few n h s p.0 p.1 q.1 q.0)

module _ {ws o o' : List ℕ} {top r : ℕ} (p : Pushed ws top r o o') (fits : top ≤ length o) where
  head : length (take r o) ≡ r
  head = length-take-le r o (omega (arith, p.ends))

  -- What is laid stands there.
  pub laid_slice : slice r top o' ≡ ws
  laid_slice =
      let z : top - r ≡ length ws = omega (arith, p.ends) in
      drop-take r top o'
      ∙ ap (λ (u : List ℕ). take (top - r) (drop r u)) p.laid
      ∙ ap (take (top - r)) (drop_at (take r o) (ws ++ drop top o) r head)
      ∙ take_at ws (drop top o) (top - r) (sym z)

  -- What stands from top on is as it was.
  above : drop top o' ≡ drop top o
  above =
      let whole : o' ≡ (take r o ++ ws) ++ drop top o = p.laid ∙ sym (append_assoc (take r o) ws (drop top o)) in
      let size : length (take r o ++ ws) ≡ top = omega (arith, length-append (take r o) ws, head, p.ends) in
      ap (drop top) whole ∙ drop_at (take r o ++ ws) (drop top o) top size

  pub kept_slice : (i e : ℕ) → top ≤ i → slice i e o' ≡ slice i e o
  kept_slice i e le =
      let z : top + (i - top) ≡ i = omega arith in
      let same : drop i o' ≡ drop i o =
      ap (λ (k : ℕ). drop k o') (sym z) ∙ sym (drop-drop (i - top) top o') ∙ ap (drop (i - top)) above ∙ drop-drop (i - top) top o ∙ ap (λ (k : ℕ). drop k o) z in
      drop-take i e o' ∙ ap (take (e - i)) same ∙ sym (drop-take i e o)

  pub kept_run : (i e : ℕ) → top ≤ i → Run o i e → Run o' i e
  kept_run i e le q =
      record {
        order = q.order;
        within = omega (arith, pushed-length p fits, q.within);
        sorted = rw (kept_slice i e le) q.sorted;
        hops = rw (kept_slice i e le) q.hops;
      }
