-- `matching::place` halves the records that are not yet known. The loop's invariant: those before `from` stand before the prefix, those from `to` on do
-- not. Assumes nothing.
use Prim.Native.Nat.{ℕ, ◌-◌, ◌≤◌, ◌<◌}
use mathlib.Core.Bool.{true, false}
use mathlib.Core.Path.{◌≡◌}
use Rattle.table.specs.SizedRules.{before}
use Rattle.nodecount.specs.Nodes.{bare}
use Rattle.liveroom.specs.Rooms.{route_in}
use Rattle.liveroom.proofs.matching.place.Given as goal

abbrev pub invariant-loop-from : goal.invariant-loop-from
invariant-loop-from l =
    (l.from ≤ l.to)
    × (l.to ≤ l.n)
    × ((k : ℕ) → k < l.from → before (route_in l.room k) (bare l.addr l.len) ≡ true)
    × ((k : ℕ) → l.to ≤ k → k < l.n → before (route_in l.room k) (bare l.addr l.len) ≡ false)

abbrev pub decreases-loop-from : goal.decreases-loop-from
decreases-loop-from l = l.to - l.from
