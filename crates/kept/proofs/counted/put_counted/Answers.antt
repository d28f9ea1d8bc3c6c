-- `counted::put_counted` meets its contract. Assumes nothing.
use Rattle.text.proofs.Puts.{put_then}
use Rattle.kept.specs.Lines.{counted_line}
use Rattle.kept.proofs.counted.put_counted.Goals as goal

pub returns : goal.returns
unfolding counted_line
returns c = put_then c.put_bytes-begin.ensures c.put_last.ensures.put
