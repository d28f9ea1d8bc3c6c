-- `matching::shared_bits` counts the leading zeros of the difference. Assumes nothing.
use mathlib.Core.Path.{refl}
use Rattle.liveroom.proofs.Looking.{leading_shared}
use Rattle.liveroom.proofs.matching.shared_bits.Goals as goal

pub returns : goal.returns
returns c = leading_shared c.args.a c.args.b _ c.ranges.a.fits c.ranges.b.fits refl
