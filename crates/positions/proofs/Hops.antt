-- What a hop of the code says: that hop, below the number for none, and none from there on. Assumes nothing.
use Prim.Native.Nat.{ℕ, ◌≤◌, ◌<◌}
use mathlib.Core.Path.{◌≡◌, refl}
use mathlib.Core.Bool.{Bool, true, false, cond}
use native.Mathlib.Omega.{arith}
use lib.Dec.{ltb}
use borrow.Author.Tests.{ltb-true, ltb-false}
use Rattle.theory.specs.Routes.{none, via}
use Rattle.positions.specs.Runs.{no_hop, hop_of}

-- What says a hop is that hop, and below the number for none;
pub hop-via : (h k : ℕ) → hop_of h ≡ via k → (h ≡ k) × (h < no_hop)
hop-via h k = go (ltb h no_hop) refl
  where
    go : (s : Bool) → ltb h no_hop ≡ s → cond s (via h) none ≡ via k → (h ≡ k) × (h < no_hop)
    go true below e = (cc, ltb-true h no_hop below)
    go false below e = let z : ◌≡◌ {A = ℕ} 0 1 = cc in absurd (omega arith)

-- what says none is not.
pub hop_none : (h : ℕ) → hop_of h ≡ none → no_hop ≤ h
hop_none h = go (ltb h no_hop) refl
  where
    go : (s : Bool) → ltb h no_hop ≡ s → cond s (via h) none ≡ none → no_hop ≤ h
    go true below e = let z : ◌≡◌ {A = ℕ} 0 1 = cc in absurd (omega arith)
    go false below e = ltb-false h no_hop below

-- Two hops up to that number which say the same are equal.
pub hop_unique : (h k : ℕ) → h ≤ no_hop → k ≤ no_hop → hop_of h ≡ hop_of k → h ≡ k
hop_unique h k p q = go (ltb h no_hop) refl (ltb k no_hop) refl
  where
    go : (s : Bool) → ltb h no_hop ≡ s → (t : Bool) → ltb k no_hop ≡ t → cond s (via h) none ≡ cond t (via k) none → h ≡ k
    go true e true d same = cc
    go true e false d same = let z : ◌≡◌ {A = ℕ} 0 1 = cc in absurd (omega arith)
    go false e true d same = let z : ◌≡◌ {A = ℕ} 0 1 = cc in absurd (omega arith)
    go false e false d same = omega (arith, ltb-false h no_hop e, ltb-false k no_hop d)
