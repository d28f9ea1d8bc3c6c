-- What covers a position of a node: the routes inside it, or a record at it or above it.
use Rattle.std.specs.Prelude.{ℕ, zero, suc, ◌/◌, Bool, ◌||◌, List, ltb, get_or}
use Rattle.theory.specs.Routes.{Route, held}
use Rattle.theory.specs.Results.{throughout}
use Rattle.words.specs.Positions.{position}
use Rattle.positions.specs.Runs.{inside, size_at, place_at}
use Rattle.nodes.specs.Node.{wide}

-- Do the routes of t that lie in position j of level l cover every address of it?
abbrev pub covered_in : ℕ → ℕ → List Route → ℕ → ℕ → Bool
covered_in m a t l j = throughout (held wide (inside wide (size_at m l) (place_at m a l j) t)) (size_at m l) (place_at m a l j)

-- Does a record stand at position j of level l or above it, by the records of each place?
unfoldable pub record_over : List ℕ → List ℕ → ℕ → ℕ → Bool
record_over first end zero j = ltb (get_or first (position zero j) 0) (get_or end (position zero j) 0)
record_over first end (suc l) j =
    ltb (get_or first (position (suc l) j) 0) (get_or end (position (suc l) j) 0) || record_over first end l (j / 2)
