-- What it is for a mode's result to be as short as can be, where the table is t. Over the width w.
use Rattle.std.specs.Prelude.{ℕ, ◌^◌, ◌≤◌, ◌<◌, List, length}
use Rattle.theory.specs.Demands.{Keeps}
use Rattle.theory.specs.Results.{Mode, aggregate_set, aggregate_map_drop, aggregate_map_fill}
use Rattle.theory.specs.Routes.{Route, Valid, All}

-- The modes of which it is true: 1, 4 and 5. Mode 3 only leaves out routes of the table, and fewer other routes may say the same.
pub data Shortens : Mode → Type 0 where
  of_set : Shortens aggregate_set
  of_drop : Shortens aggregate_map_drop
  of_fill : (d : ℕ) → Shortens (aggregate_map_fill d)

-- The routes u serve in the place of a result: they are valid, in any order and with any hops, and say of each address what is demanded of the mode.
pub record Serves (w : ℕ) (mode : Mode) (t u : List Route) : Type 0 where
  pub valid : All (Valid w) u
  pub keeps : (x : ℕ) → x < 2 ^ w → Keeps w mode t u x

-- No fewer than n routes do.
abbrev pub NoFewer : ℕ → Mode → List Route → ℕ → Type 0
NoFewer w mode t n = (u : List Route) → Serves w mode t u → n ≤ length u
