-- The runs of a node's places are those of the definition's sets: what the fold asks of them, and what it counts.
use Prim.Native.Nat.{ℕ, zero, suc, ◌+◌, ◌-◌, ◌*◌, ◌/◌, ◌^◌, ◌≤◌, ◌<◌}
use mathlib.Core.Path.{◌≡◌, refl, sym, ap, ap₂, ◌∙◌}
use mathlib.Core.Bool.{Bool, true, false, cond}
use mathlib.Core.List.{List, [], ◌∷◌}
use native.Mathlib.Nat.{pow-suc}
use native.Mathlib.Omega.{arith}
use native.Mathlib.Decide.{dec_lt}
use lib.Dec.{eqb, leb}
use lib.ListN.{length}
use lib.Pow.{pow_pos, pow_mono, shr-shr}
use borrow.Author.Tests.{eq-eqb, lt-ltb, le-ltb}
use Rattle.theory.specs.Routes.{Answer, none, via, Aligned}
use Rattle.theory.specs.Results.{In, Cand, hole, of, has, leaf, sets}
use Rattle.theory.specs.Shapes.{Sorted}
use Rattle.theory.proofs.Blocks.{in→block}
use Rattle.theory.proofs.Chosen.{SortedC, sets-sorted}
use Rattle.theory.proofs.Hops.{Held, sets-held}
use Rattle.theory.proofs.Ranks.{or_right}
use Rattle.theory.proofs.Uniform.{sets_uniform}
use Rattle.words.specs.Positions.{position}
use Rattle.words.proofs.PositionLaws.{Place, placed, below_left, below_right}
use Rattle.positions.specs.Runs.{size_at, place_at}
use Rattle.positions.proofs.RunsNode.{place-aligned, size_halves, place-left, place-right}
use Rattle.weights.specs.Needed.{hops_in, node_hops, levels_holding, holding}
use Rattle.weights.proofs.Needed.{node-positions}
use Rattle.hopruns.specs.Runs.{cand_of, hops_of, combined, Below}
use Rattle.hopruns.specs.Fold.{level_of, run_at, Heap, first_hops}
use Rattle.hopruns.proofs.SameSets.{some_cand}

-- ---- Sets as runs.

module _ (f : ℕ → Answer) (n a : ℕ) where
  -- The run of a position shows its candidates.
  pub sets_cand : cand_of (hops_of (sets f n a)) ≡ sets f n a
  sets_cand = go (sets f n a) (sets-held f n a)
    where
      go : (S : Cand) → Held f n a S → cand_of (hops_of S) ≡ S
      go hole h = refl
      go (of s) h = some_cand s h.0

  -- It is ascending,
  pub run-sorted : Sorted (hops_of (sets f n a))
  run-sorted = go (sets f n a) (sets-sorted f n a)
    where
      go : (S : Cand) → SortedC S → Sorted (hops_of S)
      go hole p = tt
      go (of s) p = p

  -- and of hops below a number that those of its addresses are below.
  pub run-below : (b : ℕ) → ((x h : ℕ) → f x ≡ via h → h < b) → Below b (hops_of (sets f n a))
  run-below b low = go (sets f n a) (sets-held f n a)
    where
      all : (s : List ℕ) → ((h : ℕ) → has h s ≡ true → h < b) → Below b s
      all [] q = tt
      all (h ∷ s) q = (q h (rw (eq-eqb h h refl)), all s (λ k e. q k (or_right (eqb k h) (has k s) e)))

      go : (S : Cand) → Held f n a S → Below b (hops_of S)
      go hole p = tt
      go (of s) p = all s (λ h e. let w = p.1 h e in low w.0 h w.1.1)

  -- Where all its addresses have one answer it has one hop at most.
  pub run-narrow : (v : Answer) → ((x : ℕ) → In n a x → f x ≡ v) → length (hops_of (sets f n a)) ≤ 1
  run-narrow v one = rw (sets_uniform f v n a one) (go v)
    where
      go : (v : Answer) → length (hops_of (leaf v)) ≤ 1
      go none = omega arith
      go (via h) = omega arith

-- ---- By the numbers of the places.

level_at : (l j : ℕ) → l ≤ 5 → j < 2 ^ l → level_of (position l j) ≡ l
level_at zero j le lt =
    rw (lt-ltb (position 0 j) 1 (omega arith))
level_at (suc zero) j le lt =
    rw (le-ltb (position 1 j) 1 (omega arith), lt-ltb (position 1 j) 3 (omega arith))
level_at (suc (suc zero)) j le lt =
    rw (le-ltb (position 2 j) 1 (omega arith), le-ltb (position 2 j) 3 (omega arith), lt-ltb (position 2 j) 7 (omega arith))
level_at (suc (suc (suc zero))) j le lt =
    rw (le-ltb (position 3 j) 1 (omega arith), le-ltb (position 3 j) 3 (omega arith), le-ltb (position 3 j) 7 (omega arith), lt-ltb (position 3 j) 15 (omega arith))
level_at (suc (suc (suc (suc zero)))) j le lt =
    rw (le-ltb (position 4 j) 1 (omega arith), le-ltb (position 4 j) 3 (omega arith), le-ltb (position 4 j) 7 (omega arith), le-ltb (position 4 j) 15 (omega arith), lt-ltb (position 4 j) 31 (omega arith))
level_at (suc (suc (suc (suc (suc zero))))) j le lt =
    rw (le-ltb (position 5 j) 1 (omega arith), le-ltb (position 5 j) 3 (omega arith), le-ltb (position 5 j) 7 (omega arith), le-ltb (position 5 j) 15 (omega arith), le-ltb (position 5 j) 31 (omega arith))
level_at (suc (suc (suc (suc (suc (suc l)))))) j le lt = absurd (omega arith)

module _ (f : ℕ → Answer) (m a : ℕ) where
  -- The run of position j of level l, of slot j where l is 5.
  pub run_at_lem : (l j : ℕ) → l ≤ 5 → j < 2 ^ l → run_at f m a (position l j) ≡ hops_of (sets f (size_at m l) (place_at m a l j))
  run_at_lem l j le lt =
      let z : suc (position l j) - 2 ^ l ≡ j = omega (arith, pow_pos l) in
      ap (λ (i : ℕ). hops_of (sets f (size_at m i) (place_at m a i (suc (position l j) - 2 ^ i)))) (level_at l j le lt)
      ∙ ap (λ (i : ℕ). hops_of (sets f (size_at m l) (place_at m a l i))) z

  halves : (l j : ℕ) → l < 5 → hops_of (sets f (size_at m l) (place_at m a l j))
      ≡ combined (hops_of (sets f (size_at m (suc l)) (place_at m a (suc l) (2 * j)))) (hops_of (sets f (size_at m (suc l)) (place_at m a (suc l) (2 * j + 1))))
  unfolding sets
  halves l j lt =
      rw (sets_cand f (size_at m (suc l)) (place_at m a (suc l) (2 * j)), sets_cand f (size_at m (suc l)) (place_at m a (suc l) (2 * j + 1)))
      (rw (place-left m a l j lt, place-right m a l j lt, size_halves m l lt))

  -- That of a position combines those of the two places below it.
  pub node-heap : Heap (run_at f m a)
  node-heap k small =
      let p = placed k small in
      let l : ℕ = p.level in
      let j : ℕ = p.index in
      let lt : j < 2 ^ l = p.in_level in
      let le : l ≤ 4 = p.above-slots in
      let left : 2 * j < 2 ^ suc l = omega (arith, pow-suc 2 l) in
      let right : 2 * j + 1 < 2 ^ suc l = omega (arith, pow-suc 2 l) in
      ap (run_at f m a) p.is
      ∙ run_at_lem l j (omega arith) lt
      ∙ halves l j (omega arith)
      ∙ sym (ap₂ combined
      (ap (λ (i : ℕ). run_at f m a (2 * i + 1)) p.is ∙ ap (run_at f m a) (below_left l j) ∙ run_at_lem (suc l) (2 * j) (omega arith) left)
      (ap (λ (i : ℕ). run_at f m a (2 * i + 2)) p.is ∙ ap (run_at f m a) (below_right l j) ∙ run_at_lem (suc l) (2 * j + 1) (omega arith) right))

  -- The hops of the positions that hold data are those that the definition counts.
  pub node-hops : (spare : ℕ) → first_hops (run_at f m a) (holding spare (m + 5)) ≡ node_hops f spare (m + 5) a
  node-hops spare = node-positions f spare m a (λ b. length (run_at f m a b)) (λ l j le lt. ap length (run_at_lem l j (omega arith) lt) ∙ count (sets f (size_at m l) (place_at m a l j)))
    where
      count : (S : Cand) → length (hops_of S) ≡ hops_in S
      count hole = refl
      count (of s) = refl

-- ---- Positions that hold no data.

-- One that is not among the first lies in the spare bits: it has fewer addresses than these count.
past-holding : (spare m b : ℕ) → holding spare (m + 5) ≤ b → (p : Place b) → size_at m p.level ≤ spare
past-holding spare m b past p = go (dec_lt l h)
  where
    l : ℕ
    l = p.level

    h : ℕ
    h = levels_holding spare (m + 5)

    deep : (c : Bool) → leb (4 + spare) (m + 5) ≡ c → cond c 5 (suc (m + 5) - spare) ≤ l → size_at m l ≤ spare
    deep true e le = absurd (omega (arith, p.above-slots))
    deep false e le = omega (arith, p.above-slots)

    go : Dec (l < h) → size_at m l ≤ spare
    go (yes lt) =
        let up : 2 ^ suc l ≤ 2 ^ h = pow_mono lt in
        absurd (omega (arith, past, p.is, p.in_level, pow-suc 2 l, up, pow_pos l))
    go (no ge) = deep (leb (4 + spare) (m + 5)) refl (let le : h ≤ l = omega arith in le)

-- So it has one hop at most, where addresses that differ in spare bits alone are answered alike.
pub node-narrow : (f : ℕ → Answer) (spare m a : ℕ) → ((x y : ℕ) → x / 2 ^ spare ≡ y / 2 ^ spare → f x ≡ f y) → Aligned (m + 5) a
    → (b : ℕ) → holding spare (m + 5) ≤ b → b < 31 → length (run_at f m a b) ≤ 1
node-narrow f spare m a alike lined b past small =
    let p = placed b small in
    let l : ℕ = p.level in
    let j : ℕ = p.index in
    let le : l ≤ 5 = omega (arith, p.above-slots) in
    let size : ℕ = size_at m l in
    let at : ℕ = place_at m a l j in
    let within : size ≤ spare = past-holding spare m b past p in
    let up : (y : ℕ) → y / 2 ^ size / 2 ^ (spare - size) ≡ y / 2 ^ spare =
    λ y. shr-shr y size (spare - size) ∙ ap (λ (i : ℕ). y / 2 ^ i) (let e : size + (spare - size) ≡ spare = omega arith in e) in
    let same : (x : ℕ) → In size at x → x / 2 ^ spare ≡ at / 2 ^ spare =
    λ x i. sym (up x) ∙ ap (λ (y : ℕ). y / 2 ^ (spare - size)) (in→block size at x (place-aligned m a l j lined) i) ∙ up at in
    rw (p.is, run_at_lem f m a l j le p.in_level) (run-narrow f size at (f at) (λ x i. alike x at (same x i)))
