-- The slots of a node that have no record: their words while they are laid, the slots pointed to them, and the runs that stand there.
use Prim.Native.Nat.{ℕ, zero, suc, ◌+◌, ◌-◌, ◌/◌, ◌≤◌, ◌<◌}
use mathlib.Core.Path.{◌≡◌, refl, sym, ap, ◌∙◌}
use mathlib.Core.Bool.{Bool, true, false, cond}
use mathlib.Core.List.{List}
use native.Mathlib.Decide.{dec_lt}
use native.Mathlib.Omega.{arith}
use lib.Dec.{ltb}
use lib.ListN.{length, get_or, set, take}
use lib.Seq.{slice, slice-cons, slice_empty, get_or-take, get_or-drop}
use borrow.Author.Tests.{lt-ltb, le-ltb}
use Rattle.theory.specs.Routes.{none, via}
use Rattle.theory.specs.Results.{leaf}
use Rattle.theory.specs.Shapes.{Sorted}
use Rattle.positions.specs.Runs.{or_else}
use Rattle.nodes.specs.Room.{Pushed}
use Rattle.nodes.proofs.RoomLaws.{pushed_none, pushed_then, pushed-length, pushed-word}
use Rattle.hopruns.specs.Runs.{Run, Below, no_hop, hop_of, hops_of}
use Rattle.hopruns.specs.Leaves.{leaf_hop, leaf_words, leaf_from, leaf_to, Pointed}
use Rattle.hopruns.proofs.Merge.{at_most_one}
use Rattle.hopruns.proofs.Kept.{laid_slice}

-- ---- Laying the words.

pub leaves_none : (covering : List ℕ) (fill top : ℕ) (o : List ℕ) → Pushed (leaf_words covering fill (16 - 16)) top top o o
unfolding leaf_words
leaves_none covering fill top o = pushed_none top o

pub leaves_next : (covering : List ℕ) (fill : ℕ) {o o' : List ℕ} {top at : ℕ} (p v : ℕ) → p < 16 → Pushed (leaf_words covering fill (16 - suc p)) top at o o'
    → v ≡ leaf_hop (get_or covering (15 + p) 0) fill → 1 ≤ at → top ≤ length o → Pushed (leaf_words covering fill (16 - p)) top (at - 1) o (set o' (at - 1) v)
unfolding leaf_words
leaves_next covering fill {o} {o'} {top} {at} p v lt laid e low fits =
    let k : 16 - p ≡ suc (16 - suc p) = omega arith in
    let place : 30 - (16 - suc p) ≡ 15 + p = omega arith in
    rw (k, place, ← e) (pushed_then laid (pushed-word v at o' low (omega (arith, laid.ends, pushed-length laid fits))) fits)

-- ---- Pointing the slots.

-- The first c are done, and the others are as they were.
pub record Pointing (covering : List ℕ) (fill occupied at c : ℕ) (from₀ to₀ from to : List ℕ) : Type 0 where
  pub done : Pointed covering fill occupied at c from₀ to₀ from to
  pub from_ahead : (i : ℕ) → c ≤ i → i < 32 → get_or from (31 + i) 0 ≡ get_or from₀ (31 + i) 0
  pub to_ahead : (i : ℕ) → c ≤ i → i < 32 → get_or to (31 + i) 0 ≡ get_or to₀ (31 + i) 0

-- ---- The runs that stand there.

-- The hop of a pair says what answers there.
pub leaf-answer : (covering fill : ℕ) → hop_of (leaf_hop covering fill) ≡ or_else (hop_of covering) (hop_of fill)
leaf-answer covering fill = go (dec_lt covering no_hop)
  where
    go : Dec (covering < no_hop) → hop_of (leaf_hop covering fill) ≡ or_else (hop_of covering) (hop_of fill)
    go (yes lt) = rw (lt-ltb covering no_hop lt, lt-ltb covering no_hop lt)
    go (no ge) = rw (le-ltb covering no_hop (omega arith))

leaf-word : (covering : List ℕ) (fill k i : ℕ) → i < k → k ≤ 16 → get_or (leaf_words covering fill k) i 0 ≡ leaf_hop (get_or covering ((31 - k) + i) 0) fill
unfolding leaf_words
leaf-word covering fill zero i lt le = absurd (omega arith)
leaf-word covering fill (suc k) zero lt le = let e : 30 - k ≡ (31 - suc k) + 0 = omega arith in ap (λ (n : ℕ). leaf_hop (get_or covering n 0) fill) e
leaf-word covering fill (suc k) (suc i) lt le =
    let e : (31 - k) + i ≡ (31 - suc k) + suc i = omega arith in
    leaf-word covering fill k i (omega arith) (omega arith) ∙ ap (λ (n : ℕ). leaf_hop (get_or covering n 0) fill) e

leaf-words : (covering : List ℕ) (fill k : ℕ) → length (leaf_words covering fill k) ≡ k
unfolding leaf_words
leaf-words covering fill zero = refl
leaf-words covering fill (suc k) = ap suc (leaf-words covering fill k)

module _ (covering : List ℕ) (fill : ℕ) {o o' : List ℕ} {top at : ℕ} (p : Pushed (leaf_words covering fill 16) top at o o') (fits : top ≤ length o)
    (c : ℕ) (lt : c < 32) where
  abbrev hop : ℕ
  hop = leaf_hop (get_or covering (15 + c / 2) 0) fill

  ends : at + 16 ≡ top
  ends = omega (arith, p.ends, leaf-words covering fill 16)

  within : at + c / 2 + 1 ≤ length o'
  within = omega (arith, ends, pushed-length p fits)

  stands : get_or o' (at + c / 2) 0 ≡ hop
  stands =
      sym (get_or-drop at (take top o') (c / 2) 0 ∙ get_or-take top o' (at + c / 2) 0 (omega (arith, ends)))
      ∙ ap (λ (l : List ℕ). get_or l (c / 2) 0) (laid_slice p fits)
      ∙ leaf-word covering fill 16 (c / 2) (omega arith) (omega arith)

  -- The run of a slot without a record.
  pub leaf_slice : slice (leaf_from at c) (leaf_to covering fill at c) o' ≡ hops_of (leaf (hop_of (leaf_hop (get_or covering (15 + c / 2) 0) fill)))
  leaf_slice = go (ltb hop no_hop)
    where
      go : (b : Bool) → slice (at + c / 2) (at + c / 2 + cond b 1 0) o' ≡ hops_of (leaf (cond b (via hop) none))
      go true =
          let one : at + c / 2 + 1 ≡ suc (at + c / 2) = omega arith in
          rw one (slice-cons (at + c / 2) (suc (at + c / 2)) o' 0 (omega arith) (omega (arith, within)) ∙ rw (slice_empty (suc (at + c / 2)) o', stands))
      go false = let zero_more : at + c / 2 + 0 ≡ at + c / 2 = omega arith in rw zero_more (slice_empty (at + c / 2) o')

  pub leaf-run : Run o' (leaf_from at c) (leaf_to covering fill at c)
  leaf-run =
      record {
        order = omega arith;
        within = omega (arith, within, at_most_one (ltb hop no_hop));
        sorted = rw leaf_slice (single hop).0;
        hops = rw leaf_slice (single hop).1;
      }
    where
      single : (h : ℕ) → Sorted (hops_of (leaf (hop_of h))) × Below no_hop (hops_of (leaf (hop_of h)))
      single h = go (dec_lt h no_hop)
        where
          go : Dec (h < no_hop) → Sorted (hops_of (leaf (hop_of h))) × Below no_hop (hops_of (leaf (hop_of h)))
          go (yes l) = rw (lt-ltb h no_hop l) ((tt, tt), (l, tt))
          go (no ge) = rw (le-ltb h no_hop (omega arith)) (tt, tt)
