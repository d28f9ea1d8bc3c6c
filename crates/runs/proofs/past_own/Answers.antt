-- `runs::past_own` meets its contract: the first record is the position's own if it has the position's length. Assumes nothing.
use mathlib.Core.Path.{◌∙◌, sym}
use native.Mathlib.Omega.{arith}
use Rattle.runs.specs.Runs.{with_own, without}
use Rattle.runs.proofs.past_own.Goals as goal

pub returns-then-hi-lo : goal.returns-then-hi-lo
returns-then-hi-lo c = without (λ lt e. omega arith)

pub length_at-requires : goal.length_at-requires
length_at-requires c = (c.requires.0, omega arith)

pub returns-then-length_at-len : goal.returns-then-length_at-len
returns-then-length_at-len c = with_own (omega arith) (sym c.length_at.ensures ∙ c.if-length_at-len.true)

pub returns : goal.returns
returns c = without (λ lt e. c.if-length_at-len.false (c.length_at.ensures ∙ e))
