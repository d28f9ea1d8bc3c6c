-- `shrink::word_number` meets its contract: the rest of the word, behind the number so far, stands for what the word stands for. Assumes nothing.
use mathlib.Core.Path.{◌≡◌}
use lib.ListN.{drop}
use Rattle.shrink.specs.Words.{number_from, word_number}
use Rattle.shrink.proofs.word_number.Given as goal

abbrev pub invariant-loop-byte : goal.invariant-loop-byte
invariant-loop-byte l = number_from l.n (drop l.byte-index l.word) ≡ word_number l.word
