-- `words::ladder::fold_l1` meets its contract: its ladder's 32 formulas are the rule's, by computation. Assumes nothing.
use mathlib.Core.Path.{refl}
use Rattle.words.proofs.Ladders.{word, ◌&◌, ◌>>◌, ◌mask◌, folded}
use Rattle.words.proofs.ladder.fold_l1.Goals as goal

pub returns : goal.returns
returns c = folded 0 (((word >> 1) & (word >> 2)) mask 1) refl c.args.cov c.ranges.cov.fits
