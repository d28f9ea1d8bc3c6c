-- The sets of the slots that have no record, while they are filled in by pairs.
use Prim.Native.Nat.{ℕ, ◌+◌, ◌*◌, ◌/◌, ◌<◌}
use mathlib.Core.Path.{◌≡◌}
use mathlib.Core.List.{List}
use lib.ListN.{length, get_or}
use Rattle.theory.specs.Results.{Cand, leaf}
use Rattle.positions.specs.Runs.{hop_of, or_else}
use Rattle.hops.specs.Sets.{ShowsSet}

-- The set of slot i if it has no record, by the hops that cover the node's positions.
abbrev pub leaf_at : List ℕ → ℕ → ℕ → Cand
leaf_at covering fill i = leaf (or_else (hop_of (get_or covering (15 + i / 2) 0)) (hop_of fill))

-- Those of the slots under the first p positions of the lowest level are in their places.
pub record Leaves (covering : List ℕ) (fill p : ℕ) (slots : List ℕ) : Type 0 where
  pub count : length slots ≡ 63
  pub shown : (i : ℕ) → i < 2 * p → ShowsSet (get_or slots (31 + i) 0) (leaf_at covering fill i)
