-- `words::ladder::push_l1` meets its contract: its ladder's 32 formulas are the rule's, by computation. Assumes nothing.
use mathlib.Core.Path.{refl}
use Rattle.words.proofs.Ladders.{word, ◌<<◌, ◌mask◌, up, twice, pushed}
use Rattle.words.proofs.ladder.push_l1.Goals as goal

pub returns : goal.returns
returns c = pushed 1 (twice (up ((word mask 6) << 2) 1 40)) refl c.args.m c.ranges.m.fits
