-- `words::ladder::push_l2` meets its contract: its ladder's 32 formulas are the rule's, by computation. Assumes nothing.
use mathlib.Core.Path.{refl}
use Rattle.words.proofs.Ladders.{word, ◌<<◌, ◌mask◌, up, twice, pushed}
use Rattle.words.proofs.ladder.push_l2.Goals as goal

pub returns : goal.returns
returns c = pushed 2 (twice (up (up ((word mask 120) << 4) 2 6528) 1 10880)) refl c.args.m c.ranges.m.fits
