-- `hopruns::choosing::choose` meets its contract. The loop's invariant: the best of h and of what is left is the lowest of all. Assumes nothing.
use Prim.Native.Nat.{◌≤◌}
use mathlib.Core.Path.{◌≡◌}
use lib.ListN.{length}
use lib.Seq.{slice}
use Rattle.theory.specs.Ranks.{best, lowest}
use Rattle.hopruns.proofs.choosing.choose.Given as goal

abbrev pub invariant-loop-i : goal.invariant-loop-i
invariant-loop-i l =
    (l.i ≤ l.to) × (l.to ≤ length l.work) × (best l.ranks l.h (slice l.i l.to l.work) ≡ lowest l.ranks (slice l.from l.to l.work))
