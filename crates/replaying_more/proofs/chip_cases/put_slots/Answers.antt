-- `chip_cases::put_slots` meets its contract: the records are those of the image's part that is lent on. Assumes nothing.
use Rattle.text.proofs.Puts.{put_then}
use Rattle.replaying_more.proofs.chip_cases.put_slots.Goals as goal

pub returns : goal.returns
returns c = put_then c.put_records-end.ensures.put c.put_counted.ensures
