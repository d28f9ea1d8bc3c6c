-- The same table at addresses of k more bits, all zero: so a node at any depth has five levels of positions and its slots.
use Rattle.std.specs.Prelude.{ℕ, ◌*◌, ◌/◌, ◌^◌, List, [], ◌∷◌}
use Rattle.theory.specs.Routes.{Route}

-- The route with k zero bits after its address.
abbrev pub widen : ℕ → Route → Route
widen k r = record { addr = r.addr * 2 ^ k; len = r.len; hop = r.hop }

-- Every route of a list so.
abbrev pub widened : ℕ → List Route → List Route
widened k [] = []
widened k (r ∷ t) = widen k r ∷ widened k t

-- The route without the last k bits of its address.
abbrev pub narrow : ℕ → Route → Route
narrow k r = record { addr = r.addr / 2 ^ k; len = r.len; hop = r.hop }

-- Every route of a list so.
abbrev pub narrowed : ℕ → List Route → List Route
narrowed k [] = []
narrowed k (r ∷ t) = narrow k r ∷ narrowed k t
