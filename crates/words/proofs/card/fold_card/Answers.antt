-- `words::card::fold_card` meets its contract: the rule is tested once over the whole table, by computation. Assumes nothing.
use mathlib.Core.Path.{refl}
use Rattle.words.specs.Bits.{bit}
use Rattle.words.proofs.CardLaws.{card_of}
use Rattle.words.proofs.card.fold_card.Goals as goal

pub returns : goal.returns
unfolding bit
returns c = card_of _ refl refl
