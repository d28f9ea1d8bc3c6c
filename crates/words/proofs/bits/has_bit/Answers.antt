-- `words::bits::has_bit` meets its contract. Assumes nothing.
use Rattle.words.proofs.BitLaws.{bit_test}
use Rattle.words.proofs.bits.has_bit.Goals as goal

pub returns : goal.returns
returns c = bit_test 32 c.args.x c.args.k c.ranges.x.fits c.requires
