-- `words::ladder::fold_l2` meets its contract: its ladder's 32 formulas are the rule's, by computation. Assumes nothing.
use mathlib.Core.Path.{refl}
use Rattle.words.proofs.Ladders.{word, ◌>>◌, pair, down, folded}
use Rattle.words.proofs.ladder.fold_l2.Goals as goal

pub returns : goal.returns
returns c = folded 1 (down (pair (word >> 2) 10) 1 6) refl c.args.cov c.ranges.cov.fits
