-- `text::put_bytes` meets its contract. Assumes nothing.
use Rattle.text.proofs.Puts.{put_copied}
use Rattle.text.proofs.put_bytes.Goals as goal

pub returns : goal.returns
returns c = put_copied _ _ _ _ c.copy_from_slice.ensures.after c.requires
