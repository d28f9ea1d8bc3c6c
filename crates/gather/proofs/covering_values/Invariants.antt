-- `gather::covering_values` meets its contract. The loop's invariant: the hops of the positions before b are found. Assumes nothing.
use Prim.Native.Nat.{◌≤◌}
use Rattle.gather.proofs.GatherCovers.{Covering}
use Rattle.gather.proofs.covering_values.Given as goal

abbrev pub invariant-loop-b : goal.invariant-loop-b
invariant-loop-b l = (l.b ≤ 31) × Covering l.size l.table l.first l.end l.inherited l.hops l.b
