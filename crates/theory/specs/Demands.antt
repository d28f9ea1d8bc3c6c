-- What is demanded of each mode's result s, where the table is t: what it must say of an address, and where its hops may come from.
use Rattle.std.specs.Prelude.{ℕ, ◌≡◌, List, ◌⊎◌}
use Rattle.theory.specs.Results.{Mode, aggregate_set, aggregate_consistent_map, aggregate_map_drop, aggregate_map_fill}
use Rattle.theory.specs.Routes.{Route, Member, held, answer, filled}

-- Of the address x: the sets hold it alike, the maps answer it alike, and fill gives it the default where the table has no route.
abbrev pub Keeps : ℕ → Mode → List Route → List Route → ℕ → Type 0
Keeps w aggregate_set t s x = held w s x ≡ held w t x
Keeps w aggregate_consistent_map t s x = answer w s x ≡ answer w t x
Keeps w aggregate_map_drop t s x = answer w s x ≡ answer w t x
Keeps w (aggregate_map_fill d) t s x = answer w s x ≡ filled d (answer w t) x

-- h is the hop of a member of the table.
abbrev pub HopIn : List Route → ℕ → Type 0
HopIn t h = (r : Route) × (Member r t × (r.hop ≡ h))

-- Where a hop of the result comes from: 0 in mode 1, else a member's, or the default in fill.
abbrev pub HopFrom : Mode → List Route → ℕ → Type 0
HopFrom aggregate_set t h = h ≡ 0
HopFrom aggregate_consistent_map t h = HopIn t h
HopFrom aggregate_map_drop t h = HopIn t h
HopFrom (aggregate_map_fill d) t h = (h ≡ d) ⊎ HopIn t h
