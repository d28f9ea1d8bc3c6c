-- The two passes by place: through a list of ranges, and through a table. Assumes nothing.
use mathlib.Core.Path.{◌≡◌, refl, ap}
use mathlib.Core.Bool.{Bool, true, false, ◌||◌, cond}
use mathlib.Core.List.{List, [], ◌∷◌}
use Prim.Native.Nat.{ℕ, zero, suc, ◌+◌}
use native.Mathlib.Numerals.{add-one}
use Rattle.std.specs.Option.{option_map}
use Rattle.special.specs.Calls.{place_of}
use Rattle.std.specs.Prelude.{Option, None, Some}
use Rattle.std.specs.List.{list_any, find, range_with_len}
use Rattle.theory.specs.Routes.{Route}
use Rattle.records.specs.Wire.{route_at, records, routes, routes_from}
use Rattle.records.specs.Sized.{route, routes_from_in, routes_in}
use Rattle.special.specs.Ranges.{lies_in, is_special, at, first_from, first_special}

-- A route's hop does not matter.
pub any_hop : (w : ℕ) (ranges : List Route) (r : Route) → is_special w ranges (route r.addr r.len 0) ≡ is_special w ranges r
any_hop w [] r = refl
any_hop w (s ∷ ranges) r = ap (λ (b : Bool). lies_in w s r || b) (any_hop w ranges r)

-- ---- Through the records t of ranges, for a route q.
module _ (t : List ℕ) (q : Route) where
  lies_from : (i k : ℕ) → list_any (λ j. lies_in 32 (route_at t j) q) (range_with_len i k) ≡ is_special 32 (routes_from t i k) q
  unfolding routes_from_in
  lies_from i zero = refl
  lies_from i (suc k) = ap (λ (b : Bool). lies_in 32 (route_at t i) q || b) (rw (add-one i) (lies_from (suc i) k))

  -- It lies in one of the ranges.
  pub lies_somewhere : list_any (λ j. lies_in 32 (route_at t j) q) (range_with_len 0 (records t)) ≡ is_special 32 (routes t) q
  unfolding routes_in
  lies_somewhere = lies_from 0 (records t)

-- ---- Through the records t of a table.

pub place_kept : (o : Option ℕ) → place_of (option_map (λ (i : ℕ). i) o) ≡ place_of o
place_kept None = refl
place_kept (Some i) = refl

module _ (ranges : List Route) (t : List ℕ) where
  found_from : (i k : ℕ) → place_of (find (λ j. is_special 32 ranges (route_at t j)) (range_with_len i k)) ≡ first_from 32 ranges i (routes_from t i k)
  unfolding routes_from_in first_from
  found_from i zero = refl
  found_from i (suc k) = go (is_special 32 ranges (route_at t i)) (rw (add-one i) (found_from (suc i) k))
    where
      rest : Option ℕ
      rest = find (λ j. is_special 32 ranges (route_at t j)) (range_with_len (i + 1) k)

      go : (b : Bool) → place_of rest ≡ first_from 32 ranges (suc i) (routes_from t (suc i) k)
          → place_of (cond b (Some i) rest) ≡ cond b (at i) (first_from 32 ranges (suc i) (routes_from t (suc i) k))
      go true e = refl
      go false e = e

  pub found_first : place_of (find (λ j. is_special 32 ranges (route_at t j)) (range_with_len 0 (records t))) ≡ first_special 32 ranges (routes t)
  unfolding routes_in
  found_first = found_from 0 (records t)
