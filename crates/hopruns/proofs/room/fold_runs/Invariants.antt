-- `hopruns::room::fold_runs` meets its contract. The loop's invariant: for any runs that the fold is asked for, the places from b on are done.
-- Assumes nothing.
use Prim.Native.Nat.{ℕ, ◌≤◌}
use mathlib.Core.Path.{◌≡◌}
use mathlib.Core.List.{List}
use lib.ListN.{length}
use Rattle.hopruns.specs.Fold.{MayFold}
use Rattle.hopruns.proofs.Folding.{Folding}
use Rattle.hopruns.proofs.room.fold_runs.Given as goal

abbrev pub invariant-loop-b : goal.invariant-loop-b
invariant-loop-b l =
    (l.b ≤ 31) × (length l.from ≡ 63) × (length l.to ≡ 63)
    × ((runs : ℕ → List ℕ) → MayFold runs l.holding l.initial.work l.initial.from l.initial.to l.top l.left → Folding runs l.holding l.top l.left l.initial.work l.work l.from l.to l.node l.rest l.b)
