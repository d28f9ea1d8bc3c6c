-- Laws of a table's routes at records of 8 bytes: those of SizedReading at this size. Assumes nothing.
use mathlib.Core.Path.{◌≡◌}
use mathlib.Core.List.{List, [], ◌∷◌}
use mathlib.Core.Logic.{inl}
use mathlib.Core.Path.{refl}
use Prim.Native.Nat.{ℕ, ◌+◌, ◌-◌, ◌≤◌, ◌<◌}
use lib.ListN.{length}
use Rattle.theory.specs.Routes.{Route, Valid, All}
use Rattle.theory.proofs.Numbered.{counted, numbered}
use Rattle.records.specs.Wire.{byte_at, route_at, routes_from, records, routes}
use Rattle.records.specs.Sized.{IsSize, Bytes}
use Rattle.records.proofs.SizedReading as sized

-- 8 is a size.
pub eight : IsSize 8
eight = inl refl

-- The routes from record i on.
abbrev pub rest : List ℕ → ℕ → List Route
rest t i = sized.rest_in 8 t i

pub rest_end : (t : List ℕ) (i : ℕ) → i ≡ records t → rest t i ≡ []
rest_end = sized.in_rest_end 8

pub rest_all : (t : List ℕ) (i : ℕ) → i ≡ 0 → rest t i ≡ routes t
rest_all = sized.in_rest_all 8

pub rest_step : (t : List ℕ) (i : ℕ) → 0 < i → i ≤ records t → rest t (i - 1) ≡ route_at t (i - 1) ∷ rest t i
rest_step = sized.in_rest_step 8

pub rest_next : (t : List ℕ) (i : ℕ) → i < records t → rest t i ≡ route_at t i ∷ rest t (i + 1)
rest_next = sized.in_rest_next 8

pub all_next : {P : Route → Type 0} (t : List ℕ) (i : ℕ) → i < records t → All P (rest t i) → P (route_at t i) × All P (rest t (i + 1))
all_next {P} t i = sized.in_all_next 8 t {P = P} i

pub from_counted : (t : List ℕ) (lo k : ℕ) → routes_from t lo k ≡ counted (route_at t) lo k
from_counted = sized.in_counted 8

pub routes_numbered : (t : List ℕ) → routes t ≡ numbered (route_at t) 0 (records t)
routes_numbered = sized.in_numbered 8

pub length_from : (t : List ℕ) (i k : ℕ) → length (routes_from t i k) ≡ k
length_from = sized.in_length_from 8

pub length-routes : (t : List ℕ) → length (routes t) ≡ records t
length-routes = sized.in_length_routes 8

pub route-length : (t : List ℕ) (i : ℕ) → (route_at t i).len ≡ byte_at t i 4
route-length = sized.in_length 8

pub route-valid : (t : List ℕ) → Bytes t → (i : ℕ) → (route_at t i).len ≤ 32 → Valid 32 (route_at t i)
route-valid t = sized.in_valid 8 t eight
