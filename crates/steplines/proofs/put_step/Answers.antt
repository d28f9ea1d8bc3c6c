-- `steplines::put_step` meets its contract: the word, the prefix, the rest of the line. Assumes nothing.
use mathlib.Core.List.{append_assoc}
use native.Mathlib.Omega.{arith}
use Rattle.text.specs.Text.{address_in, line_in}
use Rattle.text.proofs.Puts.{put_as, put_then}
use Rattle.steplines.specs.Lines.{step_line}
use Rattle.steplines.proofs.put_step.Goals as goal

pub returns : goal.returns
unfolding step_line line_in address_in
returns c =
    let word = c.put_word-word.ensures in
    let prefix = c.put_dotted-prefix.ensures in
    let end = c.put_ending.ensures in record { put = put_as (simp append_assoc) (put_then word.put (put_then prefix.put end.put)); upper_bound = omega (arith, word.upper_bound, prefix.upper_bound, end.upper_bound) }
