-- `hopruns::combining::shared` meets its contract. The loop's invariant: what is counted and what is still to be shared make all. Assumes nothing.
use Prim.Native.Nat.{◌+◌, ◌-◌}
use mathlib.Core.Path.{◌≡◌}
use lib.ListN.{length}
use lib.Seq.{slice}
use Rattle.theory.specs.Results.{common}
use Rattle.hopruns.specs.Runs.{Run}
use Rattle.hopruns.proofs.combining.shared.Given as goal

abbrev pub invariant-loop-i : goal.invariant-loop-i
invariant-loop-i l =
    Run l.work l.i l.a_end × Run l.work l.j l.b_end × (l.n + length (common (slice l.i l.a_end l.work) (slice l.j l.b_end l.work)) ≡ length (common (slice l.a l.a_end l.work) (slice l.b l.b_end l.work)))

abbrev pub decreases-loop-i : goal.decreases-loop-i
decreases-loop-i l = (l.a_end - l.i) + (l.b_end - l.j)
