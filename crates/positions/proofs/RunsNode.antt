-- A node's levels: where their positions stand, and what a run of the node answers, holds and covers at each, by what stands above it there
-- and by the run of the position itself.
use Prim.Native.Nat.{ℕ, zero, suc, ◌+◌, ◌*◌, ◌/◌, ◌%◌, ◌^◌, ◌≤◌, ◌<◌}
use mathlib.Core.Path.{◌≡◌, refl, sym, ap, ap₂, subst, ◌∙◌}
use mathlib.Core.Bool.{Bool, ◌||◌, ◌&&◌}
use mathlib.Core.List.{List}
use mathlib.Core.Logic.{inl, inr}
use native.Mathlib.Nat.{pow-suc, add-zero, add-mul, suc-mul, mul-le-mul_right}
use native.Mathlib.Omega.{arith}
use lib.Pow.{pow-add}
use Rattle.theory.specs.Shapes.{routed}
use Rattle.theory.specs.Results.{In, throughout}
use Rattle.theory.specs.Routes.{Route, held, lookup, Answer, none, under, Aligned}
use Rattle.theory.proofs.Blocks.{aligned_down}
use Rattle.theory.proofs.Routed.{held-answer}
use Rattle.positions.specs.Runs.{inside, Run, own, or_else, size_at, place_at, cover, cover_over, member_over}
use Rattle.positions.proofs.Runs.{Nested, inside-run, inside_all, Half, half_nested, routed-under, routed_else, throughout-under, inside-answer, inside-covered}

-- ---- Where the positions stand.

-- A level's positions are half as large as those of the level before.
pub size_halves : (m l : ℕ) → l < 5 → size_at m l ≡ suc (size_at m (suc l))
size_halves m l lt = omega arith

-- The slots, its level 5, are of size m.
pub size-slot : (m : ℕ) → size_at m 5 ≡ m
size-slot m = add-zero m

-- No position is larger than the node.
pub size_le : (m l : ℕ) → size_at m l ≤ m + 5
size_le m l = omega arith

-- A level's positions are aligned.
pub place-aligned : (m a l j : ℕ) → Aligned (m + 5) a → Aligned (size_at m l) (place_at m a l j)
place-aligned m a l j d =
    let e : Aligned (size_at m l) a = aligned_down (size_at m l) (m + 5) a (size_le m l) d in
    (e.0 + j, ap (λ (k : ℕ). k + j * 2 ^ size_at m l) e.1 ∙ sym (add-mul e.0 j (2 ^ size_at m l)))

-- A level's positions lie in the node.
pub place_nested : (m a l j : ℕ) → l ≤ 5 → j < 2 ^ l → Nested (size_at m l) (place_at m a l j) (m + 5) a
place_nested m a l j le lt =
    let e : l + size_at m l ≡ m + 5 = omega arith in
    let p : 2 ^ (m + 5) ≡ 2 ^ l * 2 ^ size_at m l = ap (λ (k : ℕ). 2 ^ k) (sym e) ∙ pow-add 2 l (size_at m l) in
    record {
      smaller = size_le m l;
      from = omega arith;
      upto = omega (arith, mul-le-mul_right (2 ^ size_at m l) lt, suc-mul j (2 ^ size_at m l));
    }

-- Position 2 j of the next level is the left half of position j, and 2 j + 1 the right half.
pub place-left : (m a l j : ℕ) → l < 5 → place_at m a (suc l) (2 * j) ≡ place_at m a l j
place-left m a l j lt = rw (size_halves m l lt, pow-suc 2 (size_at m (suc l))) (omega arith)

pub place-right : (m a l j : ℕ) → l < 5 → place_at m a (suc l) (2 * j + 1) ≡ place_at m a l j + 2 ^ size_at m (suc l)
place-right m a l j lt = rw (size_halves m l lt, pow-suc 2 (size_at m (suc l))) (omega arith)

-- So each position of a level is a half of the one above it.
pub place_half : (m a l j : ℕ) → l < 5 → Half (size_at m (suc l)) (place_at m a l (j / 2)) (place_at m a (suc l) j)
place_half m a l j lt = go (j % 2) refl
  where
    go : (k : ℕ) → j % 2 ≡ k → Half (size_at m (suc l)) (place_at m a l (j / 2)) (place_at m a (suc l) j)
    go zero e =
        let q : j ≡ 2 * (j / 2) = omega arith in
        inl (ap (place_at m a (suc l)) q ∙ place-left m a l (j / 2) lt)
    go (suc k) e =
        let q : j ≡ 2 * (j / 2) + 1 = omega arith in
        inr (ap (place_at m a (suc l)) q ∙ place-right m a l (j / 2) lt)

-- The one above it is one of the level before, and has its addresses.
pub above_lt : (l j : ℕ) → j < 2 ^ suc l → j / 2 < 2 ^ l
above_lt l j lt = omega (arith, pow-suc 2 l)

pub above_in : (m a l j x : ℕ) → l < 5 → In (size_at m (suc l)) (place_at m a (suc l) j) x → In (size_at m l) (place_at m a l (j / 2)) x
above_in m a l j x lt i =
    let h : Nested (size_at m (suc l)) (place_at m a (suc l) j) (suc (size_at m (suc l))) (place_at m a l (j / 2)) =
    half_nested (size_at m (suc l)) (place_at m a l (j / 2)) (place_at m a (suc l) j) (place_half m a l j lt) in
    let e : 2 ^ size_at m l ≡ 2 ^ suc (size_at m (suc l)) = ap (λ (k : ℕ). 2 ^ k) (size_halves m l lt) in
    omega arith

-- ---- The run of each position, and its own hop.

-- The routes that lie in position j of level l.
abbrev pub inside_at : ℕ → ℕ → ℕ → List Route → ℕ → ℕ → List Route
inside_at w m a t l j = inside w (size_at m l) (place_at m a l j) t

-- The hop of the route that stands at it.
abbrev pub own_at : ℕ → ℕ → ℕ → List Route → ℕ → ℕ → Answer
own_at w m a t l j = own w (size_at m l) (place_at m a l j) t

-- What covers a position is its own hop, or else what covers it from above.
pub cover-own : (w m a : ℕ) (t : List Route) (g : Answer) (l j : ℕ)
    → cover w m a t g l j ≡ or_else (own_at w m a t l j) (cover_over w m a t g l j)
unfolding cover
cover-own w m a t g zero j = refl
cover-own w m a t g (suc l) j = refl

-- With nothing above the node, a position is covered from above exactly when a route of the node stands above it.
pub routed-over : (w m a : ℕ) (t : List Route) (l j : ℕ) → routed (cover_over w m a t none l j) ≡ member_over w m a t l j
unfolding member_over
routed-over w m a t zero j = refl
routed-over w m a t (suc l) j =
    ap routed (cover-own w m a t none l (j / 2))
    ∙ routed_else (own_at w m a t l (j / 2)) (cover_over w m a t none l (j / 2))
    ∙ ap (λ (b : Bool). routed (own_at w m a t l (j / 2)) || b) (routed-over w m a t l (j / 2))

module _ (w m a : ℕ) {t : List Route} (run : Run w (m + 5) a t) where
  -- The routes of a position are a run of it.
  pub level-run : (l j : ℕ) → Run w (size_at m l) (place_at m a l j) (inside_at w m a t l j)
  level-run l j =
      inside-run w (size_at m l) (place_at m a l j) (omega (arith, size_le m l, run.fits)) (place-aligned m a l j run.aligned) run.table

  -- Those of a slot are a run of the slot.
  pub slot-run : (c : ℕ) → Run w m (place_at m a 5 c) (inside w m (place_at m a 5 c) t)
  slot-run c = subst (λ (k : ℕ). Run w k (place_at m a 5 c) (inside w k (place_at m a 5 c) t)) (size-slot m) (level-run 5 c)

  -- At level 0 they are the whole run.
  pub level-zero : (j : ℕ) → j < 1 → inside_at w m a t 0 j ≡ t
  level-zero j lt =
      let z : j ≡ 0 = omega arith in
      let e : place_at m a 0 j ≡ a = rw z (omega arith) in
      rw e (inside_all w (m + 5) a run.within)

  -- One step: an address of a position of the next level is answered by that one's run, or else by the own route of the one above.
  pub level_step : (g : Answer) (l j x : ℕ) → l < 5 → In (size_at m (suc l)) (place_at m a (suc l) j) x
      → under g (lookup w (inside_at w m a t l (j / 2)) x)
      ≡ under (or_else (own_at w m a t l (j / 2)) g) (lookup w (inside_at w m a t (suc l) j) x)
  level_step g l j x lt i =
      inside-answer w (size_at m (suc l)) (place_at m a l (j / 2)) (size_halves m l lt) (level-run l (j / 2)).fits (level-run l (j / 2)).aligned
      run.table g (place_at m a (suc l) j) x (place_half m a l j lt) i

  -- An address of a position is answered by the position's run, or else by what covers the position from above.
  pub level-answer : (g : Answer) (l j x : ℕ) → l ≤ 5 → j < 2 ^ l → In (size_at m l) (place_at m a l j) x
      → under g (lookup w t x) ≡ under (cover_over w m a t g l j) (lookup w (inside_at w m a t l j) x)
  level-answer g zero j x le lt i = ap (λ (u : List Route). under g (lookup w u x)) (sym (level-zero j lt))
  level-answer g (suc l) j x le lt i =
      level-answer g l (j / 2) x (omega arith) (above_lt l j lt) (above_in m a l j x le i)
      ∙ level_step (cover_over w m a t g l (j / 2)) l j x le i
      ∙ ap (λ (v : Answer). under v (lookup w (inside_at w m a t (suc l) j) x)) (sym (cover-own w m a t g l (j / 2)))

  -- An address of a slot is answered by the slot's run, or else by what covers the position above it.
  pub slot-answer : (g : Answer) (c x : ℕ) → c < 32 → In m (place_at m a 5 c) x
      → under g (lookup w t x) ≡ under (cover w m a t g 4 (c / 2)) (lookup w (inside w m (place_at m a 5 c) t) x)
  slot-answer g c x lt =
      subst (λ (k : ℕ). In k (place_at m a 5 c) x
      → under g (lookup w t x) ≡ under (cover w m a t g 4 (c / 2)) (lookup w (inside w k (place_at m a 5 c) t) x)) (size-slot m)
      (level-answer g 5 c x (omega arith) lt)

  -- An address of a position is held by a route above the position or by the position's run.
  pub level-held : (l j x : ℕ) → l ≤ 5 → j < 2 ^ l → In (size_at m l) (place_at m a l j) x
      → held w t x ≡ (member_over w m a t l j || held w (inside_at w m a t l j) x)
  level-held l j x le lt i =
      held-answer w x t
      ∙ ap routed (level-answer none l j x le lt i)
      ∙ routed-under (cover_over w m a t none l j) (lookup w (inside_at w m a t l j) x)
      ∙ ap₂ ◌||◌ (routed-over w m a t l j) (sym (held-answer w x (inside_at w m a t l j)))

  -- A position is covered by a route above it, or else by its own run.
  pub level-covered : (l j : ℕ) → l ≤ 5 → j < 2 ^ l
      → throughout (held w t) (size_at m l) (place_at m a l j)
      ≡ (member_over w m a t l j || throughout (held w (inside_at w m a t l j)) (size_at m l) (place_at m a l j))
  level-covered l j le lt = throughout-under (held w t) (held w (inside_at w m a t l j)) (member_over w m a t l j) (size_at m l) (place_at m a l j) (λ x i. level-held l j x le lt i)

  -- A position's run covers it by the position's own route, or else half by half.
  pub halves_covered : (l j : ℕ) → l < 5
      → throughout (held w (inside_at w m a t l j)) (size_at m l) (place_at m a l j)
      ≡ (routed (own_at w m a t l j)
      || (throughout (held w (inside_at w m a t (suc l) (2 * j))) (size_at m (suc l)) (place_at m a (suc l) (2 * j))
      && throughout (held w (inside_at w m a t (suc l) (2 * j + 1))) (size_at m (suc l)) (place_at m a (suc l) (2 * j + 1))))
  halves_covered l j lt =
      inside-covered w (size_at m (suc l)) (place_at m a l j) (size_halves m l lt) (level-run l j).fits (level-run l j).aligned run.table
      (place_at m a (suc l) (2 * j)) (place_at m a (suc l) (2 * j + 1)) (place-left m a l j lt) (place-right m a l j lt)
