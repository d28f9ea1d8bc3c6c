-- Worked cases of the room that modes 4 and 5 need.
use Prim.Native.Nat.{ℕ, zero, suc, ◌+◌, ◌-◌, ◌*◌, ◌^◌, ◌≤◌}
use mathlib.Core.Path.{◌≡◌, refl, sym, ap, ◌∙◌}
use mathlib.Core.List.{[], ◌∷◌}
use native.Mathlib.Nat.{zero-mul, suc-mul}
use native.Mathlib.Omega.{arith}
use borrow.Author.Tests.{le-leb}
use Rattle.theory.specs.Routes.{Route, Answer, none, via, answer, filled}
use Rattle.theory.specs.Results.{leaf, sets, start_of, aggregate_map_drop, aggregate_map_fill}
use Rattle.theory.proofs.Uniform.{sets_uniform}
use Rattle.nodecount.specs.Walk.{sum_to}
use Rattle.weights.specs.Weights.{fresh_by, brought_by, weighed}
use Rattle.weights.specs.Needed.{hops_in, level_hops, node_hops, room_of}
use Rattle.weights.proofs.Weights.{sum_same}

abbrev route : ℕ → ℕ → ℕ → Route
route a l h = record { addr = a; len = l; hop = h }

-- ---- Tables without a route, at any width that has five levels.

sum_constant : (c n : ℕ) → sum_to (λ j. c) n ≡ n * c
unfolding sum_to
sum_constant c zero = sym (zero-mul c)
sum_constant c (suc n) = omega (arith, sum_constant c n, suc-mul n c)

-- Where all addresses have one answer, each position has its hops.
module _ (f : ℕ → Answer) (v : Answer) (one : (x : ℕ) → f x ≡ v) where
  level_uniform : (n a l : ℕ) → level_hops f n a l ≡ 2 ^ l * hops_in (leaf v)
  level_uniform n a l = sum_same _ (λ j. hops_in (leaf v)) (2 ^ l) (λ j. ap hops_in (sets_uniform f v (n - l) (a + j * 2 ^ (n - l)) (λ x i. one x))) ∙ sum_constant (hops_in (leaf v)) (2 ^ l)

  node_uniform : (n a : ℕ) → 4 ≤ n → node_hops f 0 n a ≡ 31 * hops_in (leaf v)
  unfolding sum_to
  node_uniform n a deep =
      rw (le-leb (0 + 0) n (omega arith), le-leb (1 + 0) n (omega arith), le-leb (2 + 0) n (omega arith), le-leb (3 + 0) n (omega arith), le-leb (4 + 0) n (omega arith))
      (omega (arith, level_uniform n a 0, level_uniform n a 1, level_uniform n a 2, level_uniform n a 3, level_uniform n a 4))

pub empty-drop : (w : ℕ) → 4 ≤ w → room_of w aggregate_map_drop [] ≡ 160
unfolding weighed brought_by
empty-drop w deep = omega (arith, node_uniform (answer w []) none (λ x. refl) w (start_of w 0) deep)

pub empty_fill : (w d : ℕ) → 4 ≤ w → room_of w (aggregate_map_fill d) [] ≡ 191
unfolding weighed brought_by
empty_fill w d deep = omega (arith, node_uniform (filled d (answer w [])) (via d) (λ x. refl) w (start_of w 0) deep)

-- ---- At six bits, computed.

-- Two halves by hops 1 and 2, and the first address by hop 3, at six bits: the root has 2, 2, 4, 8 and 16 hops by level, and the node at depth 5,
-- of two addresses, has 2 at either of the two levels that hold data.
pub three_routes : room_of 6 aggregate_map_drop (route 0 1 1 ∷ route 0 6 3 ∷ route 32 1 2 ∷ []) ≡ 160 + 32 + (160 + 4)
unfolding weighed brought_by fresh_by sets sum_to
three_routes = refl

-- A half by hop 1: the other half and the whole are holes, which count nothing, until a default fills them.
pub one_half : room_of 6 aggregate_map_drop (route 0 1 1 ∷ []) ≡ 160 + 15
unfolding weighed brought_by fresh_by sets sum_to
one_half = refl

pub one_half_filled : room_of 6 (aggregate_map_fill 7) (route 0 1 1 ∷ []) ≡ 160 + 32
unfolding weighed brought_by fresh_by sets sum_to
one_half_filled = refl
