-- `text::put_unrouted` meets its contract. Assumes nothing.
use Rattle.text.specs.Text.{unrouted_line}
use Rattle.text.proofs.Puts.{put_then}
use Rattle.text.proofs.put_unrouted.Goals as goal

pub returns : goal.returns
unfolding unrouted_line
returns c = put_then c.put_bytes-word.ensures c.put_last.ensures.put
