-- A node as a run of a table's records, of 8 bytes or 16, at wide addresses.
use Rattle.std.specs.Prelude.{ℕ, ◌+◌, ◌-◌, ◌*◌, ◌/◌, ◌^◌, ◌≤◌, ◌<◌, ◌≡◌, List}
use Rattle.theory.specs.Routes.{Route, All, Table, Aligned}
use Rattle.theory.specs.Shapes.{Within}
use Rattle.records.specs.Sized.{IsSize, width_in, records_in, routes_from_in, route_in}
use Rattle.positions.specs.Runs.{no_hop}
use Rattle.positions.specs.Wide.{widen, widened}

-- How many bits down the slots of the deepest node lie, where a record has this size.
abbrev pub reach : ℕ → ℕ
reach size = width_in size / 5 * 5 + 5

-- The width of a wide address, and how many bits it has more than one of the table. In code an address is half of the wide one.
abbrev pub wide : ℕ
wide = 65

abbrev pub spare : ℕ → ℕ
spare size = wide - width_in size

-- Record i as a wide route.
abbrev pub wide_at : ℕ → List ℕ → ℕ → Route
wide_at size t i = widen (spare size) (route_in size t i)

-- The records lo..hi as wide routes.
abbrev pub run : ℕ → List ℕ → ℕ → ℕ → List Route
run size t lo hi = widened (spare size) (routes_from_in size t lo (hi - lo))

-- The size of a slot of a node at this depth: the bits below it.
abbrev pub slot_size : ℕ → ℕ
slot_size depth = 60 - depth

-- A node may stand at this depth and key.
pub record At (depth key : ℕ) : Type 0 where
  pub deep : depth ≤ 60
  pub aligned : Aligned (wide - depth) key
  pub small : key + 2 ^ (wide - depth) ≤ 2 ^ wide

-- The records lo..hi are those of a node at a depth of 0, 5, .. and a key: in order, inside it, of a table's lengths, by hops.
pub record Node (size : ℕ) (t : List ℕ) (lo hi depth key : ℕ) : Type 0 where
  pub sized : IsSize size
  pub low : lo ≤ hi
  pub high : hi ≤ records_in size t
  pub level : ℕ
  pub fives : depth ≡ level * 5
  pub at : At depth key
  pub within_reach : depth + 5 ≤ reach size
  pub table : Table wide (run size t lo hi)
  pub within : All (Within wide (wide - depth) key) (run size t lo hi)
  pub short : All (λ r. r.len ≤ width_in size) (run size t lo hi)
  pub hops : All (λ r. r.hop < no_hop) (run size t lo hi)
