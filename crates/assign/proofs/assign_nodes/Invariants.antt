-- `assign::assign_nodes` meets its contract. The loop's invariant: the positions before b are assigned, and the reader stands before b.
-- Assumes nothing.
use Prim.Native.Nat.{◌≤◌}
use Rattle.theory.specs.Ranks.{lowest}
use Rattle.assign.proofs.AssignLaws.{Assigning}
use Rattle.assign.proofs.assign_nodes.Given as goal

abbrev pub invariant-loop-b : goal.invariant-loop-b
invariant-loop-b l =
    (l.b ≤ 31) × Assigning (lowest l.ranks) l.work l.top l.above l.hops l.entries l.reader.mask l.reader.top l.b
