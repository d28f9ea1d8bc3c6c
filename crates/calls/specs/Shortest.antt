-- What it is for the records that a rewrite wrote to be as few as can be, over accepted tables; and how far up its change may go.
-- No contract cites these; theorems of proofs/ say that they hold of the calls.
use Rattle.std.specs.Prelude.{ℕ, ◌^◌, ◌≤◌, ◌<◌, Bool, List, ℤ, pos}
use Rattle.theory.specs.Results.{Mode, aggregate_set, aggregate_consistent_map, aggregate_map_drop, aggregate_map_fill}
use Rattle.theory.specs.Demands.{Keeps}
use Rattle.records.specs.Sized.{width_in, records_in, routes_in, Bytes}
use Rattle.table.specs.SizedConditions.{AcceptedIn}
use Rattle.calls.specs.Rewriting.{mode_of}

-- u is a table with records of this size, accepted under either choice on host bits, of a set or of a map, that says of each address what the mode's result
-- for the table t must say.
pub record Replaces (size mode default : ℕ) (t u : List ℕ) : Type 0 where
  pub bytes : Bytes u
  pub strict : Bool
  pub is_set : Bool
  pub accepted : AcceptedIn size strict is_set u
  pub keeps : (x : ℕ) → x < 2 ^ width_in size → Keeps (width_in size) (mode_of mode default) (routes_in size t) (routes_in size u) x

-- No such table has fewer than n records.
abbrev pub NoneShorter : ℕ → ℕ → ℕ → List ℕ → ℕ → Type 0
NoneShorter size mode default t n = (u : List ℕ) → Replaces size mode default t u → n ≤ records_in size u

-- The most that the change comes to: 1 in fill, 0 in the other modes.
abbrev pub most_change : Mode → ℤ
most_change aggregate_set = pos 0
most_change aggregate_consistent_map = pos 0
most_change aggregate_map_drop = pos 0
most_change (aggregate_map_fill d) = pos 1
