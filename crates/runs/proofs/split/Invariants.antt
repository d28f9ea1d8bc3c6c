-- `runs::split` meets its contract. The loop's invariant: the records before `from` stand below the key, those from `to` on do not; between the
-- two stand those that are not yet known, half of which each turn settles. Assumes nothing.
use Prim.Native.Nat.{ℕ, ◌-◌, ◌≤◌, ◌<◌}
use Rattle.words.specs.Keys.{key_of}
use Rattle.records.specs.Sized.{width_in, route_in}
use Rattle.runs.proofs.split.Given as goal

abbrev pub invariant-loop-from : goal.invariant-loop-from
invariant-loop-from l =
    (l.lo ≤ l.from)
    × (l.from ≤ l.to)
    × (l.to ≤ l.hi)
    × ((k : ℕ) → l.lo ≤ k → k < l.from → key_of (width_in l.size) (route_in l.size l.table k).addr < l.mid)
    × ((k : ℕ) → l.to ≤ k → k < l.hi → l.mid ≤ key_of (width_in l.size) (route_in l.size l.table k).addr)

abbrev pub decreases-loop-from : goal.decreases-loop-from
decreases-loop-from l = l.to - l.from
