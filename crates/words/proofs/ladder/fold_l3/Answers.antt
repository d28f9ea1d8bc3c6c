-- `words::ladder::fold_l3` meets its contract: its ladder's 32 formulas are the rule's, by computation. Assumes nothing.
use mathlib.Core.Path.{refl}
use Rattle.words.proofs.Ladders.{word, ◌>>◌, pair, down, folded}
use Rattle.words.proofs.ladder.fold_l3.Goals as goal

pub returns : goal.returns
returns c = folded 2 (down (down (pair (word >> 4) 680) 1 408) 2 120) refl c.args.cov c.ranges.cov.fits
