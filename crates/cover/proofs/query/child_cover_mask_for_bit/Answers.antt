-- `cover::query::child_cover_mask_for_bit` meets its contract. Assumes nothing.
use Rattle.words.proofs.CoverageLaws.{slots-below}
use Rattle.cover.proofs.query.child_cover_mask_for_bit.Goals as goal

pub returns : goal.returns
returns c l j le lt e = slots-below l j _ le lt (rw e at c.with_bit.ensures) c.member_coverage.ensures
