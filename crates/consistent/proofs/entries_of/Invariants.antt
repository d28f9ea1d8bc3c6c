-- `consistent::entries_of` meets its contract. The loop's invariant: the bits of the positions before b are found. Assumes nothing.
use Prim.Native.Nat.{◌-◌, ◌≤◌}
use lib.Dec.{ltb}
use Rattle.gather.proofs.MarkedBits.{Marked}
use Rattle.consistent.proofs.MapLaws.{entry_bit}
use Rattle.consistent.proofs.entries_of.Given as goal

abbrev pub invariant-loop-b : goal.invariant-loop-b
invariant-loop-b l = (l.b ≤ 32) × Marked 31 (entry_bit l.first l.end l.hops l.inherited) (λ i. ltb i l.b) l.entries

abbrev pub decreases-loop-b : goal.decreases-loop-b
decreases-loop-b l = 32 - l.b
