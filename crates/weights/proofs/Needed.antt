-- The room that modes 4 and 5 need: at wider addresses, by a walk over the nodes, and by a node's positions as they are numbered.
use Prim.Native.Nat.{ℕ, zero, suc, ◌+◌, ◌-◌, ◌*◌, ◌/◌, ◌^◌, ◌≤◌, ◌<◌}
use mathlib.Core.Path.{◌≡◌, refl, sym, ap, ap₂, ◌∙◌}
use mathlib.Core.Bool.{Bool, true, false, cond}
use mathlib.Core.List.{List}
use native.Mathlib.Nat.{mul_assoc, add-mul, pow-suc}
use native.Mathlib.Omega.{arith}
use native.Mathlib.Decide.{dec_lt}
use lib.Dec.{leb, ltb}
use lib.Pow.{pow-add, pow_pos, pow_mono, shr-shr}
use borrow.Author.Tests.{leb-true, le-leb, leb-false, lt-leb, lt-ltb, le-ltb}
use Rattle.theory.specs.Routes.{Route, Answer, Valid, All}
use Rattle.theory.specs.Results.{sets, start_of}
use Rattle.positions.specs.Wide.{widened}
use Rattle.positions.specs.Runs.{size_at, place_at}
use Rattle.positions.proofs.Wide.{unwide, all_widen, valid-widen, sets-widen}
use Rattle.words.specs.Positions.{position}
use Rattle.nodecount.specs.Nodes.{levels, nodes}
use Rattle.nodecount.specs.Walk.{sum_to}
use Rattle.weights.specs.Weights.{weighed, weighed_in}
use Rattle.weights.specs.Needed.{hops_in, level_hops, node_hops, levels_holding, holding, node_words, needed}
use Rattle.weights.proofs.Weights.{sum_same, weighed_runs}
use Rattle.weights.proofs.Sums.{weighed-add, weighed_constant}
use Rattle.weights.proofs.Wide.{weighed-widen}

-- ---- A node's words.

-- They are the same at all addresses of the node.
pub words_steady : (f : ℕ → Answer) (spare n x y : ℕ) → x / 2 ^ n ≡ y / 2 ^ n → node_words f spare n x ≡ node_words f spare n y
words_steady f spare n x y e = ap (λ (q : ℕ). 160 + node_hops f spare n (q * 2 ^ n)) e

module _ (k : ℕ) (f : ℕ → Answer) where
  abbrev wider : ℕ → Answer
  wider x = f (x / 2 ^ k)

  -- The hops of a level that holds data are those of the same level of the node at wider addresses.
  pub level-widen : (n a l : ℕ) → l ≤ n → level_hops wider (n + k) (a * 2 ^ k) l ≡ level_hops f n a l
  level-widen n a l le = sum_same _ _ (2 ^ l) (λ j. at j)
    where
      size : (n + k) - l ≡ (n - l) + k
      size = omega arith

      place : (j : ℕ) → a * 2 ^ k + j * 2 ^ ((n - l) + k) ≡ (a + j * 2 ^ (n - l)) * 2 ^ k
      place j =
          ap (λ (z : ℕ). a * 2 ^ k + z) (ap (λ (z : ℕ). j * z) (pow-add 2 (n - l) k) ∙ sym (mul_assoc j (2 ^ (n - l)) (2 ^ k)))
          ∙ sym (add-mul a (j * 2 ^ (n - l)) (2 ^ k))

      at : (j : ℕ) → hops_in (sets wider ((n + k) - l) (a * 2 ^ k + j * 2 ^ ((n + k) - l))) ≡ hops_in (sets f (n - l) (a + j * 2 ^ (n - l)))
      at j =
          ap (λ (s : ℕ). hops_in (sets wider s (a * 2 ^ k + j * 2 ^ s))) size
          ∙ ap (λ (b : ℕ). hops_in (sets wider ((n - l) + k) b)) (place j)
          ∙ ap hops_in (sets-widen k f (n - l) (a + j * 2 ^ (n - l)))

  hops-widen : (n a : ℕ) → node_hops wider k (n + k) (a * 2 ^ k) ≡ node_hops f 0 n a
  hops-widen n a = sum_same _ _ 5 (λ l. go l (leb (l + 0) n) refl)
    where
      go : (l : ℕ) (b : Bool) → leb (l + 0) n ≡ b
          → cond (leb (l + k) (n + k)) (level_hops wider (n + k) (a * 2 ^ k) l) 0 ≡ cond b (level_hops f n a l) 0
      go l true e = let le : l ≤ n = omega (arith, leb-true (l + 0) n e) in rw (le-leb (l + k) (n + k) (omega arith)) (level-widen n a l le)
      go l false e = rw (lt-leb (l + k) (n + k) (omega (arith, leb-false (l + 0) n e)))

  words-widen : (n x : ℕ) → node_words wider k (n + k) (x * 2 ^ k) ≡ node_words f 0 n x
  words-widen n x = ap (λ (h : ℕ). 160 + h) (ap (node_hops wider k (n + k)) start ∙ hops-widen n (start_of n x))
    where
      start : start_of (n + k) (x * 2 ^ k) ≡ start_of n x * 2 ^ k
      start =
          let e : n + k ≡ k + n = omega arith in
          let top : x * 2 ^ k / 2 ^ (n + k) ≡ x / 2 ^ n = rw e (sym (shr-shr (x * 2 ^ k) k n) ∙ ap (λ (z : ℕ). z / 2 ^ n) (unwide k x)) in
          ap (λ (q : ℕ). q * 2 ^ (n + k)) top ∙ ap (λ (z : ℕ). x / 2 ^ n * z) (pow-add 2 n k) ∙ sym (mul_assoc (x / 2 ^ n) (2 ^ n) (2 ^ k))

  -- So the words needed are those of the widened table's nodes, where the positions of the spare bits do not count.
  pub needed-widen : (w : ℕ) {t : List Route} → All (Valid w) t → weighed (node_words wider k) (w + k) (widened k t) ≡ needed f w t
  needed-widen w vs = weighed-widen w k (node_words wider k) (node_words f 0) words-widen vs

-- They are 160 for each node, and its hops.
pub needed_sum : (f : ℕ → Answer) (w : ℕ) (t : List Route) → needed f w t ≡ 160 * nodes w t + weighed (λ n x. node_hops f 0 n (start_of n x)) w t
needed_sum f w t =
    weighed-add (λ n x. 160) (λ n x. node_hops f 0 n (start_of n x)) w t
    ∙ ap (λ (k : ℕ). k + weighed (λ n x. node_hops f 0 n (start_of n x)) w t) (weighed_constant 160 w t)

-- ---- By a walk.

-- What a walk over the nodes meets, node by node, is what the table needs.
pub needed_runs : (f : ℕ → Answer) (spare w k : ℕ) {t : List Route} → All (Valid w) t → 5 * k ≤ w → All (λ r. levels r ≤ k) t
    → weighed_in (node_words f spare) w (suc k) w 0 t ≡ weighed (node_words f spare) w t
needed_runs f spare w k all fits few = weighed_runs (node_words f spare) (words_steady f spare) w k all fits few

-- Of a table of width w, the walk at addresses of k more bits, d nodes deep below the root.
pub needed-walk : (f : ℕ → Answer) (w k d : ℕ) {t : List Route} → All (Valid w) t → 5 * d ≤ w + k → w / 5 ≤ d
    → weighed_in (node_words (λ x. f (x / 2 ^ k)) k) (w + k) (suc d) (w + k) 0 (widened k t) ≡ needed f w t
needed-walk f w k d all fits far =
    needed_runs (λ x. f (x / 2 ^ k)) k (w + k) d (all_widen k (valid-widen w k) all) fits
    (all_widen k (λ r v. (let j : levels r ≤ d = omega (arith, v.short) in j)) all)
    ∙ needed-widen k f w all

-- ---- By positions as they are numbered.

-- Sums of the same numbers, as far as they go.
pub sum_below : (f g : ℕ → ℕ) (n : ℕ) → ((c : ℕ) → c < n → f c ≡ g c) → sum_to f n ≡ sum_to g n
unfolding sum_to
sum_below f g zero h = refl
sum_below f g (suc n) h = ap₂ ◌+◌ (sum_below f g n (λ c lt. h c (omega arith))) (h n (omega arith))

-- A sum of which only the first h numbers count.
sum_first : (f : ℕ → ℕ) (h n : ℕ) → sum_to (λ c. cond (ltb c h) (f c) 0) (h + n) ≡ sum_to f h
unfolding sum_to
sum_first f h zero = let z : h + 0 ≡ h = omega arith in rw z (sum_below _ f h (λ c lt. rw (lt-ltb c h lt)))
sum_first f h (suc n) = let z : h + suc n ≡ suc (h + n) = omega arith in rw (z, le-ltb (h + n) h (omega arith)) (omega (arith, sum_first f h n))

sum_split : (g : ℕ → ℕ) (m n : ℕ) → sum_to g (m + n) ≡ sum_to g m + sum_to (λ j. g (m + j)) n
unfolding sum_to
sum_split g m zero = let z : m + 0 ≡ m = omega arith in rw z (omega arith)
sum_split g m (suc n) = let z : m + suc n ≡ suc (m + n) = omega arith in rw z (omega (arith, sum_split g m n))

-- The numbers of the first positions, level by level.
pub by_levels : (g : ℕ → ℕ) (l : ℕ) → sum_to g (2 ^ l - 1) ≡ sum_to (λ i. sum_to (λ j. g (position i j)) (2 ^ i)) l
unfolding sum_to
by_levels g zero = refl
by_levels g (suc l) =
    let z : 2 ^ suc l - 1 ≡ (2 ^ l - 1) + 2 ^ l = omega (arith, pow-suc 2 l, pow_pos l) in
    ap (sum_to g) z ∙ sum_split g (2 ^ l - 1) (2 ^ l) ∙ ap (λ (n : ℕ). n + sum_to (λ j. g (position l j)) (2 ^ l)) (by_levels g l)

-- At most five levels hold data, so at most 31 positions.
levels-most : (spare n : ℕ) → levels_holding spare n ≤ 5
levels-most spare n = go (leb (4 + spare) n) refl
  where
    go : (b : Bool) → leb (4 + spare) n ≡ b → cond b 5 (suc n - spare) ≤ 5
    go true e = omega arith
    go false e = omega (arith, leb-false (4 + spare) n e)

pub holding-most : (spare n : ℕ) → holding spare n ≤ 31
holding-most spare n = let le : 2 ^ levels_holding spare n ≤ 2 ^ 5 = pow_mono (levels-most spare n) in omega arith

-- The hops of a node (m + 5, a) are those of its first positions, where g has the hops of each by its number.
pub node-positions : (f : ℕ → Answer) (spare m a : ℕ) (g : ℕ → ℕ)
    → ((l j : ℕ) → l ≤ 4 → j < 2 ^ l → g (position l j) ≡ hops_in (sets f (size_at m l) (place_at m a l j)))
    → sum_to g (holding spare (m + 5)) ≡ node_hops f spare (m + 5) a
node-positions f spare m a g each = by_levels g h ∙ sum_below _ (level_hops f (m + 5) a) h level ∙ sym (sum_first (level_hops f (m + 5) a) h (5 - h)) ∙ all
  where
    h : ℕ
    h = levels_holding spare (m + 5)

    few : h ≤ 5
    few = levels-most spare (m + 5)

    -- A level holds data exactly when it is one of the first.
    holds : (l : ℕ) → l < 5 → ltb l h ≡ leb (l + spare) (m + 5)
    holds l lt = go (leb (4 + spare) (m + 5)) refl
      where
        go : (b : Bool) → leb (4 + spare) (m + 5) ≡ b → ltb l (cond b 5 (suc (m + 5) - spare)) ≡ leb (l + spare) (m + 5)
        go true e = rw (lt-ltb l 5 lt, le-leb (l + spare) (m + 5) (omega (arith, leb-true (4 + spare) (m + 5) e)))
        go false e = by (dec_lt (m + 5) (l + spare))
          where
            by : Dec (m + 5 < l + spare) → ltb l (suc (m + 5) - spare) ≡ leb (l + spare) (m + 5)
            by (yes past) = rw (le-ltb l (suc (m + 5) - spare) (omega arith), lt-leb (l + spare) (m + 5) past)
            by (no in-it) = rw (lt-ltb l (suc (m + 5) - spare) (omega arith), le-leb (l + spare) (m + 5) (omega arith))

    level : (l : ℕ) → l < h → sum_to (λ j. g (position l j)) (2 ^ l) ≡ level_hops f (m + 5) a l
    level l lt =
        let size : (m + 5) - l ≡ m + (5 - l) = omega (arith, few) in
        rw size (sum_below _ _ (2 ^ l) (λ j lj. each l j (omega (arith, few)) lj))

    all : sum_to (λ l. cond (ltb l h) (level_hops f (m + 5) a l) 0) (h + (5 - h)) ≡ node_hops f spare (m + 5) a
    all =
        let z : h + (5 - h) ≡ 5 = omega (arith, few) in
        ap (sum_to (λ l. cond (ltb l h) (level_hops f (m + 5) a l) 0)) z
        ∙ sum_below _ _ 5 (λ l lt. ap (λ (b : Bool). cond b (level_hops f (m + 5) a l) 0) (holds l lt))

-- At wide addresses of 65 bits a table of 32 bits has 33 spare ones, one of 64 bits 1. Seven positions hold data at depth 30 of 32 bits, else 31.
pub holding_30 : holding 33 (65 - 30) ≡ 7
holding_30 = refl

pub holding_25 : holding 33 (65 - 25) ≡ 31
holding_25 = refl

pub holding_60 : holding 1 (65 - 60) ≡ 31
holding_60 = refl
