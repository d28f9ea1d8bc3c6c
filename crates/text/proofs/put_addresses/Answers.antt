-- `text::put_addresses` meets its contract. Assumes nothing.
use Rattle.text.specs.Text.{addresses_line}
use Rattle.text.proofs.Puts.{put_then}
use Rattle.text.proofs.put_addresses.Goals as goal

pub returns : goal.returns
unfolding addresses_line
returns c = put_then c.put_bytes-word.ensures c.put_last.ensures.put
