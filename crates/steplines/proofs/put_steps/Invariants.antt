-- The lines of the steps so far are put.
use Rattle.std.specs.Prelude.{◌+◌, ◌*◌, ◌≤◌, take}
use Rattle.text.specs.Text.{Put}
use Rattle.steplines.specs.Lines.{step_lines}
use Rattle.steplines.proofs.put_steps.Given as goal

abbrev pub invariant-loop-s : goal.invariant-loop-s
invariant-loop-s l = (l.end ≤ l.at + 29 * l.s-index) × Put (step_lines (take l.s-index l.steps)) l.at l.end l.fn.out l.out
