-- `words::ladder::push_l0` meets its contract: its ladder's 32 formulas are the rule's, by computation. Assumes nothing.
use mathlib.Core.Path.{refl}
use Rattle.words.proofs.Ladders.{word, ◌<<◌, ◌mask◌, twice, pushed}
use Rattle.words.proofs.ladder.push_l0.Goals as goal

pub returns : goal.returns
returns c = pushed 0 (twice ((word mask 1) << 1)) refl c.args.m c.ranges.m.fits
