-- `text::put_last` meets its contract: a number of 64 bits has at most 20 digits. Assumes nothing.
use native.Mathlib.Omega.{arith}
use Rattle.text.proofs.Numbers.{number_short}
use Rattle.text.proofs.Puts.{put_then}
use Rattle.text.proofs.put_last.Goals as goal

pub put_decimal-end-requires : goal.put_decimal-end-requires
put_decimal-end-requires c = omega (arith, c.requires, number_short c.args.n c.ranges.n.fits)

pub put_byte-requires : goal.put_byte-requires
put_byte-requires c = omega (arith, c.requires, c.put_decimal-end.ensures.ends, number_short c.args.n c.ranges.n.fits)

pub returns : goal.returns
returns c =
    let number = c.put_decimal-end.ensures in
    let byte = c.put_byte.ensures in record { put = put_then number byte; upper_bound = omega (arith, number.ends, byte.ends, number_short c.args.n c.ranges.n.fits) }
