-- No more lines than bytes are ended.
use Rattle.std.specs.Prelude.{◌≤◌}
use Rattle.stepread.proofs.guess.Given as goal

abbrev pub invariant-loop-byte : goal.invariant-loop-byte
invariant-loop-byte l = l.line ≤ l.byte-index
