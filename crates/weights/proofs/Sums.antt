-- What a table weighs by weights that are constant or a sum: with weight 1 its number of nodes.
use Prim.Native.Nat.{ℕ, zero, suc, ◌+◌, ◌-◌, ◌*◌}
use mathlib.Core.Path.{◌≡◌, refl, sym}
use mathlib.Core.Bool.{Bool, true, false, cond}
use mathlib.Core.List.{List, [], ◌∷◌}
use native.Mathlib.Nat.{mul-zero, mul-add}
use native.Mathlib.Omega.{arith}
use Rattle.theory.specs.Routes.{Route}
use Rattle.nodecount.specs.Nodes.{levels, seen, fresh, brought, nodes}
use Rattle.weights.specs.Weights.{fresh_by, brought_by, weighed}

module _ (c w : ℕ) where
  fresh_constant : (earlier : List Route) (x m : ℕ) → fresh_by (λ n y. c) w earlier x m ≡ c * fresh w earlier x m
  unfolding fresh_by fresh
  fresh_constant earlier x zero = sym (mul-zero c)
  fresh_constant earlier x (suc m) = go (seen w (suc m) x earlier) (fresh_constant earlier x m)
    where
      go : (b : Bool) → fresh_by (λ n y. c) w earlier x m ≡ c * fresh w earlier x m
          → fresh_by (λ n y. c) w earlier x m + cond b 0 c ≡ c * (fresh w earlier x m + cond b 0 1)
      go true ih = omega (arith, mul-add c (fresh w earlier x m) 0)
      go false ih = omega (arith, mul-add c (fresh w earlier x m) 1)

  brought_constant : (earlier t : List Route) → brought_by (λ n y. c) w earlier t ≡ c * brought w earlier t
  unfolding brought_by brought
  brought_constant earlier [] = sym (mul-zero c)
  brought_constant earlier (r ∷ t) =
      omega (
        arith,
        fresh_constant earlier r.addr (levels r),
        brought_constant (r ∷ earlier) t,
        mul-add c (fresh w earlier r.addr (levels r)) (brought w (r ∷ earlier) t),
      )

  -- A weight c for each node.
  pub weighed_constant : (t : List Route) → weighed (λ n y. c) w t ≡ c * nodes w t
  unfolding weighed nodes
  weighed_constant t = omega (arith, brought_constant [] t, mul-add c 1 (brought w [] t))

pub weighed_one : (w : ℕ) (t : List Route) → weighed (λ n y. 1) w t ≡ nodes w t
weighed_one w t = omega (arith, weighed_constant 1 w t)

module _ (f g : ℕ → ℕ → ℕ) (w : ℕ) where
  fresh-add : (earlier : List Route) (x m : ℕ) → fresh_by (λ n y. f n y + g n y) w earlier x m ≡ fresh_by f w earlier x m + fresh_by g w earlier x m
  unfolding fresh_by
  fresh-add earlier x zero = refl
  fresh-add earlier x (suc m) = go (seen w (suc m) x earlier) (fresh-add earlier x m)
    where
      go : (b : Bool) → fresh_by (λ n y. f n y + g n y) w earlier x m ≡ fresh_by f w earlier x m + fresh_by g w earlier x m
          → fresh_by (λ n y. f n y + g n y) w earlier x m + cond b 0 (f (w - 5 * suc m) x + g (w - 5 * suc m) x)
          ≡ (fresh_by f w earlier x m + cond b 0 (f (w - 5 * suc m) x)) + (fresh_by g w earlier x m + cond b 0 (g (w - 5 * suc m) x))
      go true ih = omega arith
      go false ih = omega arith

  brought-add : (earlier t : List Route) → brought_by (λ n y. f n y + g n y) w earlier t ≡ brought_by f w earlier t + brought_by g w earlier t
  unfolding brought_by
  brought-add earlier [] = refl
  brought-add earlier (r ∷ t) = omega (arith, fresh-add earlier r.addr (levels r), brought-add (r ∷ earlier) t)

  -- Two weights together.
  pub weighed-add : (t : List Route) → weighed (λ n y. f n y + g n y) w t ≡ weighed f w t + weighed g w t
  unfolding weighed
  weighed-add t = omega (arith, brought-add [] t)
