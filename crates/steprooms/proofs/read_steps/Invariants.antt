-- The steps so far are those of the bytes.
use Rattle.std.specs.Prelude.{◌≡◌, take}
use Rattle.steprooms.specs.Steps.{steps_from}
use Rattle.steprooms.proofs.read_steps.Given as goal

abbrev pub invariant-loop-i : goal.invariant-loop-i
invariant-loop-i l = take l.i l.steps ≡ steps_from l.bytes 0 l.i
