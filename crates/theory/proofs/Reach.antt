-- How many addresses a table holds: those with a longest match; before and after each mode; and what is missing to all of them are its holes.
use Prim.Native.Nat.{ℕ, ◌+◌, ◌^◌, ◌≤◌, ◌<◌}
use mathlib.Core.Path.{◌≡◌, refl, sym, ap, ◌∙◌}
use mathlib.Core.Bool.{true, not, not-not}
use mathlib.Core.List.{List, []}
use mathlib.Core.Logic.{◌↔◌}
use native.Mathlib.Nat.{le_refl}
use native.Mathlib.Omega.{arith}
use Rattle.theory.specs.Routes.{Route, held, lookup, Answer, none, via, answer, or_default, filled, Table}
use Rattle.theory.specs.Results.{maximal, is_miss, Mode, aggregate_set, aggregate_consistent_map, aggregate_map_drop, aggregate_map_fill, result, Chooses}
use Rattle.theory.specs.Reach.{how_many, reach, reach_after, sizes}
use Rattle.theory.specs.Shapes.{routed}
use Rattle.theory.specs.Demands.{Keeps}
use Rattle.theory.proofs.HowMany.{many-agree, many_contrary, many_all, sizes-zero, maximal-sizes}
use Rattle.theory.proofs.LongestMatch.{lookup-held}
use Rattle.theory.proofs.Maximal.{throughout-each}
use Rattle.theory.proofs.Modes.{result-keeps}
use Rattle.theory.proofs.Routed.{held-answer}

module _ (w : ℕ) where
  -- The addresses that a table holds are those with a longest match.
  pub reach_matched : (t : List Route) → reach w t ≡ how_many (λ x. not (is_miss (lookup w t x))) w 0
  reach_matched t =
      many-agree (held w t) (λ x. not (is_miss (lookup w t x))) w 0
      (λ x i. sym (not-not (held w t x)) ∙ ap not (sym (lookup-held w t x)))

  -- Tables that hold the same addresses hold as many.
  pub reach_alike : (t s : List Route) → ((x : ℕ) → x < 2 ^ w → held w t x ≡ held w s x) → reach w t ≡ reach w s
  reach_alike t s h = many-agree (held w t) (held w s) w 0 (λ x i. h x (omega arith))

  -- A table that holds every address holds 2 ^ w.
  pub reach_all : (t : List Route) → ((x : ℕ) → x < 2 ^ w → held w t x ≡ true) → reach w t ≡ 2 ^ w
  reach_all t h = many_all (held w t) w 0 ((throughout-each (held w t) w 0).1 (λ x i. h x (omega arith)))

  -- ---- Holes: the maximal prefixes none of whose addresses is held.

  -- The addresses held and the sizes of the holes make all the addresses.
  pub reach-holes : (t : List Route) → reach w t + sizes w (maximal w (λ x. not (held w t x)) w 0) ≡ 2 ^ w
  reach-holes t = omega (arith, many_contrary (held w t) w 0, maximal-sizes w (λ x. not (held w t x)) w 0 (le_refl w))

  -- No more are held than there are.
  pub reach-most : (t : List Route) → reach w t ≤ 2 ^ w
  reach-most t = omega (arith, reach-holes t)

  -- All are held exactly when there is no hole.
  pub reach-whole : (t : List Route) → (reach w t ≡ 2 ^ w) ↔ (maximal w (λ x. not (held w t x)) w 0 ≡ [])
  unfolding sizes
  reach-whole t = (
    λ e. sizes-zero w _ (omega (arith, reach-holes t)),
    λ e. let z : sizes w (maximal w (λ x. not (held w t x)) w 0) ≡ 0 = ap (sizes w) e in omega (arith, reach-holes t),
  )

-- ---- The modes.

-- A list that answers an address as another table does holds it where that one does; one that answers it as a filled table does holds it.
held_alike : (w x : ℕ) (t s : List Route) → answer w s x ≡ answer w t x → held w s x ≡ held w t x
held_alike w x t s e = held-answer w x s ∙ ap routed e ∙ sym (held-answer w x t)

held-filled : (w x d : ℕ) (t s : List Route) → answer w s x ≡ filled d (answer w t) x → held w s x ≡ true
held-filled w x d t s e = held-answer w x s ∙ ap routed e ∙ go (answer w t x)
  where
    go : (v : Answer) → routed (or_default d v) ≡ true
    go none = refl
    go (via h) = refl

-- What keeps a mode's demands holds as many addresses as it must.
pub keeps-reach : (w : ℕ) (mode : Mode) (t s : List Route) → ((x : ℕ) → x < 2 ^ w → Keeps w mode t s x) → reach w s ≡ reach_after w mode (reach w t)
keeps-reach w aggregate_set t s h = reach_alike w s t h
keeps-reach w aggregate_consistent_map t s h = reach_alike w s t (λ x lt. held_alike w x t s (h x lt))
keeps-reach w aggregate_map_drop t s h = reach_alike w s t (λ x lt. held_alike w x t s (h x lt))
keeps-reach w (aggregate_map_fill d) t s h = reach_all w s (λ x lt. held-filled w x d t s (h x lt))

-- So does each mode's result.
pub result-reach : (choose : List ℕ → ℕ) (law : Chooses choose) (w : ℕ) (mode : Mode) {t : List Route} → Table w t
    → reach w (result choose w mode t) ≡ reach_after w mode (reach w t)
result-reach choose law w mode {t} ok = keeps-reach w mode t (result choose w mode t) (result-keeps choose law w mode ok)
