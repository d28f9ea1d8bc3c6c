-- `stepread::wrong_line` meets its contract: where all bytes agree, the text is what was put. Assumes nothing.
use native.Mathlib.Omega.{arith}
use lib.ListN.{length-take}
use Rattle.stepread.proofs.Alike.{put_whole}
use Rattle.stepread.proofs.wrong_line.Goals as goal

pub slice_bounds-common-end : goal.slice_bounds-common-end
slice_bounds-common-end c = simp length-take (omega (arith, c.put_steps-end.ensures.put.fits, c.put_steps-end.auto.out))

pub returns-then-same-text : goal.returns-then-same-text
returns-then-same-text c = put_whole c.put_steps-end.ensures.put c.common-same.ensures.2 c.if-same-end.true c.if-same-text.true
