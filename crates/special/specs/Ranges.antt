-- When a route lies in one of a list of ranges, and which route of a table is the first that does. Over the width w.
use Rattle.std.specs.Prelude.{ℕ, suc, ◌≤◌, ◌<◌, ◌≡◌, Bool, true, false, cond, ◌||◌, ◌&&◌, List, [], ◌∷◌, leb}
use Rattle.theory.specs.Routes.{Route, matches, Member}
use Rattle.records.specs.Wire.{records, route_at}

-- Does the route r lie in the range s: is s no longer, and does it match the address of r?
abbrev pub lies_in : ℕ → Route → Route → Bool
lies_in w s r = leb s.len r.len && matches w s r.addr

-- Does it lie in one of the ranges?
abbrev pub is_special : ℕ → List Route → Route → Bool
is_special w [] r = false
is_special w (s ∷ ranges) r = lies_in w s r || is_special w ranges r

-- A place in a list, counted from 0, or none.
pub data Place : Type 0 where
  nowhere : Place
  at : ℕ → Place

-- The place of the first route that lies in one of the ranges, where the list's first has place k.
unfoldable pub first_from : ℕ → List Route → ℕ → List Route → Place
first_from w ranges k [] = nowhere
first_from w ranges k (r ∷ t) = cond (is_special w ranges r) (at k) (first_from w ranges (suc k) t)

abbrev pub first_special : ℕ → List Route → List Route → Place
first_special w ranges t = first_from w ranges 0 t

-- ---- The same said of addresses, with no test and no walk; theorems say that the answers are these facts.

-- r lies in one of the ranges: one of them has every address of r.
abbrev pub LiesInOne : ℕ → List Route → Route → Type 0
LiesInOne w ranges r = (s : Route) × (Member s ranges × ((x : ℕ) → matches w r x ≡ true → matches w s x ≡ true))

-- The place is that of the first record of the table that does: that record does and none before it, or there is no such record.
abbrev pub IsFirst : List Route → List ℕ → Place → Type 0
IsFirst ranges t nowhere = (j : ℕ) → j < records t → LiesInOne 32 ranges (route_at t j) → ⊥
IsFirst ranges t (at i) = (i < records t) × LiesInOne 32 ranges (route_at t i) × ((j : ℕ) → j < i → LiesInOne 32 ranges (route_at t j) → ⊥)

-- ---- What the inner functions ask of a list's bytes: no length is above 32.
abbrev pub Ranges : List ℕ → Type 0
Ranges t = (i : ℕ) → i < records t → (route_at t i).len ≤ 32
