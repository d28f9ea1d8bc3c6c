-- The results of modes 1, 4 and 5 by the recursion that stops where no route is left, so that they can be computed at 32 bits.
use Prim.Native.Nat.{ℕ}
use mathlib.Core.Path.{◌≡◌, refl, ◌∙◌}
use mathlib.Core.List.{List}
use native.Mathlib.Nat.{le_refl}
use Rattle.theory.specs.Results.{unhopped, Chooses, whole, aggregate_set, aggregate_map_drop, aggregate_map_fill, result}
use Rattle.theory.specs.Routes.{Route, Match, miss, hit, lookup, Answer, none, via, under, answer, or_default, filled, Valid, All, nil, cons}
use Rattle.theory.proofs.Blocks.{aligned-zero}
use Rattle.theory.proofs.Lists.{all_map}
use Rattle.theory.proofs.Maximal.{set_is_drop}
use Rattle.theory.proofs.Order.{valid-within}
use Rattle.theory.proofs.Quick.{ortc_of, ortc_quick}

-- A table's prefixes are as valid as its routes.
pub valid-unhopped : {w : ℕ} {t : List Route} → All (Valid w) t → All (Valid w) (unhopped t)
valid-unhopped nil = nil
valid-unhopped (cons v vs) = cons (record { short = v.short; clean = v.clean; small = v.small }) (valid-unhopped vs)

-- What a match says over a default hop is what it says with that default.
pub under_default : (d : ℕ) (m : Match) → under (via d) m ≡ or_default d (under none m)
under_default d miss = refl
under_default d (hit k h) = refl

module _ (choose : List ℕ → ℕ) (law : Chooses choose) (w : ℕ) {t : List Route} (valid : All (Valid w) t) where
  -- The rewrite of a table's answers, over what is said of unrouted addresses.
  whole_computed : (f : ℕ → Answer) (cover : Answer) → ((x : ℕ) → under cover (lookup w t x) ≡ f x)
      → whole choose w f ≡ ortc_of choose w w 0 cover none t
  whole_computed f cover sem =
      ortc_quick choose w f law w 0 cover none t (le_refl w) (aligned-zero w) (all_map (valid-within w) valid) (λ x i. sem x)

  -- Mode 4.
  pub drop_computed : result choose w aggregate_map_drop t ≡ ortc_of choose w w 0 none none t
  unfolding result
  drop_computed = whole_computed (answer w t) none (λ x. refl)

  -- Mode 5.
  pub fill_computed : (d : ℕ) → result choose w (aggregate_map_fill d) t ≡ ortc_of choose w w 0 (via d) none t
  unfolding result
  fill_computed d = whole_computed (filled d (answer w t)) (via d) (λ x. under_default d (lookup w t x))

-- Mode 1.
pub set_computed : (choose : List ℕ → ℕ) → Chooses choose → (w : ℕ) {t : List Route} → All (Valid w) t
    → result choose w aggregate_set t ≡ ortc_of choose w w 0 none none (unhopped t)
set_computed choose law w {t} valid = set_is_drop w choose law t ∙ drop_computed choose law w (valid-unhopped valid)
