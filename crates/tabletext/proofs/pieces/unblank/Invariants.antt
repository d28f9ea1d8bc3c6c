-- `tabletext::pieces::unblank` meets its contract: before the rest are blanks alone. Assumes nothing.
use mathlib.Core.Path.{◌≡◌}
use lib.ListN.{length}
use Rattle.tabletext.specs.Pieces.{unblank}
use Rattle.tabletext.proofs.pieces.unblank.Given as goal

abbrev pub invariant-loop-rest : goal.invariant-loop-rest
invariant-loop-rest l = unblank l.s ≡ unblank l.rest

abbrev pub decreases-loop-rest : goal.decreases-loop-rest
decreases-loop-rest l = length l.rest
