-- `words::ladder::fold_l4` meets its contract: its ladder's 32 formulas are the rule's, by computation. Assumes nothing.
use mathlib.Core.Path.{refl}
use Rattle.words.proofs.Ladders.{word, ◌>>◌, pair, down, folded}
use Rattle.words.proofs.ladder.fold_l4.Goals as goal

pub returns : goal.returns
returns c = folded 3 (down (down (down (pair (word >> 8) 2796160) 1 1677696) 2 493440) 4 32640) refl c.args.cov c.ranges.cov.fits
