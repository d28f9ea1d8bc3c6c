-- `words::ladder::push_l3` meets its contract: its ladder's 32 formulas are the rule's, by computation. Assumes nothing.
use mathlib.Core.Path.{refl}
use Rattle.words.proofs.Ladders.{word, ◌<<◌, ◌mask◌, up, twice, pushed}
use Rattle.words.proofs.ladder.push_l3.Goals as goal

pub returns : goal.returns
returns c = pushed 3 (twice (up (up (up ((word mask 32640) << 8) 4 126320640) 2 429490176) 1 715816960)) refl c.args.m c.ranges.m.fits
