-- `stepread::reply` meets its contract. Assumes nothing.
use Rattle.stepread.specs.Reading.{many_line}
use Rattle.stepread.specs.Reading.Replied.{many}
use Rattle.stepread.proofs.reply.Goals as goal

pub returns-then-n-gt2048 : goal.returns-then-n-gt2048
unfolding many_line
returns-then-n-gt2048 c = record { replied = many c.put_bytes.ensures; upper_bound = c.put_bytes.ensures.fits }
