-- `count_held`: what is counted so far and what the pass counts of the rest of the table make the addresses held. Assumes nothing.
use Prim.Native.Nat.{◌≤◌}
use Rattle.theory.specs.Routes.{Valid, All}
use Rattle.records.specs.Wire.{records}
use Rattle.records.proofs.Reading.{rest}
use Rattle.lookup.proofs.Pass.{Passing}
use Rattle.lookup.proofs.count_held.Given as goal

abbrev pub invariant-loop-i : goal.invariant-loop-i
invariant-loop-i l =
    (l.i ≤ records l.table) × Passing l.table l.held l.end l.i × All (Valid 32) (rest l.table l.i)
