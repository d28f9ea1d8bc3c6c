-- `words::ladder::push_l4` meets its contract: its ladder's 32 formulas are the rule's, by computation. Assumes nothing.
use mathlib.Core.Path.{refl}
use Rattle.words.proofs.Ladders.{word, ◌>>◌, up, twice, pushed-slots}
use Rattle.words.proofs.ladder.push_l4.Goals as goal

pub returns : goal.returns
returns c = pushed-slots (twice (up (up (up (up (word >> 15) 8 16711935) 4 252645135) 2 858993459) 1 1431655765)) refl c.args.m c.ranges.m.fits
