-- `answers::put_listed` meets its contract: the lines of the records that were written, then the total, if it is wanted. Assumes nothing.
use Rattle.text.specs.Answers.{listed_text}
use Rattle.text.proofs.Puts.{put_then}
use Rattle.text.proofs.answers.put_listed.Goals as goal

pub returns-in-Ok : goal.returns-in-Ok
unfolding listed_text
returns-in-Ok c = rw c.in-Ok.is (put_then c.put_written-end.ensures.put c.put_total.ensures)
