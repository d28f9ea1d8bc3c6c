-- `steplines::put_word` meets its contract. Assumes nothing.
use native.Mathlib.Omega.{arith}
use Rattle.steplines.specs.Lines.{word_of}
use Rattle.steplines.proofs.put_word.Goals as goal

pub returns-then-put : goal.returns-then-put
unfolding word_of
returns-then-put c = let word = c.put_bytes.ensures in rw c.if-put.true (record { put = word; upper_bound = omega (arith, word.ends) })

pub returns-else-put : goal.returns-else-put
unfolding word_of
returns-else-put c = let word = c.put_bytes-else-put.ensures in rw c.if-put.false (record { put = word; upper_bound = omega (arith, word.ends) })
