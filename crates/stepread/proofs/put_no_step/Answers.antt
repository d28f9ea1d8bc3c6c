-- `stepread::put_no_step` meets its contract. Assumes nothing.
use Rattle.text.proofs.Puts.{put_then}
use Rattle.stepread.specs.Reading.{no_step_line}
use Rattle.stepread.proofs.put_no_step.Goals as goal

pub returns : goal.returns
unfolding no_step_line
returns c = put_then c.put_bytes-end.ensures c.put_last.ensures.put
