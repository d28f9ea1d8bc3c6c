-- `check_table` is the check over the size of a record, at 8 bytes. Assumes nothing.
use Rattle.records.proofs.Reading.{eight}
use Rattle.table.proofs.check_table.Goals as goal

pub check_sized-requires : goal.check_sized-requires
check_sized-requires c = eight

pub returns : goal.returns
returns c = c.check_sized.ensures
