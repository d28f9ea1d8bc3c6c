-- `rungs::behind` meets its contract. The loop's invariant: the records from `to` on stand behind the prefix. Assumes nothing.
use Prim.Native.Nat.{ℕ, ◌-◌, ◌≤◌, ◌<◌}
use mathlib.Core.Path.{◌≡◌}
use mathlib.Core.Logic.{◌⊎◌}
use Rattle.records.specs.Wire.{route_at, records}
use Rattle.rungs.proofs.behind.Given as goal

abbrev pub invariant-loop-from : goal.invariant-loop-from
invariant-loop-from l =
    (l.from ≤ l.to) × (l.to ≤ l.k) × (l.k ≤ records l.table)
    × ((i : ℕ) → l.to ≤ i → i < l.k → (l.m < (route_at l.table i).addr) ⊎ ((l.m ≡ (route_at l.table i).addr) × (l.d < (route_at l.table i).len)))

abbrev pub decreases-loop-from : goal.decreases-loop-from
decreases-loop-from l = l.to - l.from
