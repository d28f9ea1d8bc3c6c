-- `steplines::put_total` meets its contract. Assumes nothing.
use native.Mathlib.Omega.{arith}
use Rattle.text.proofs.Puts.{put_none, put_then}
use Rattle.steplines.specs.Lines.{steps_end}
use Rattle.steplines.proofs.put_total.Goals as goal

pub returns-then-total : goal.returns-then-total
unfolding steps_end
returns-then-total c = rw c.if-total.true (put_then c.put_bytes-end.ensures c.put_last.ensures.put)

pub returns : goal.returns
unfolding steps_end
returns c = rw c.if-total.false (put_none _ _ (omega (arith, c.requires)))
