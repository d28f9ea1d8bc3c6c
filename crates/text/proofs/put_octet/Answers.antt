-- `text::put_octet` meets its contract: a byte has at most 3 digits. Assumes nothing.
use native.Mathlib.Omega.{arith}
use Rattle.text.proofs.Numbers.{octet_short}
use Rattle.text.proofs.Puts.{put_then}
use Rattle.text.proofs.put_octet.Goals as goal

pub put_decimal-end-requires : goal.put_decimal-end-requires
put_decimal-end-requires c = omega (arith, c.requires, octet_short c.args.n c.ranges.n.fits)

pub put_byte-requires : goal.put_byte-requires
put_byte-requires c = omega (arith, c.requires, c.put_decimal-end.ensures.ends, octet_short c.args.n c.ranges.n.fits)

pub returns : goal.returns
returns c =
    let number = c.put_decimal-end.ensures in
    let byte = c.put_byte.ensures in record { put = put_then number byte; upper_bound = omega (arith, number.ends, byte.ends, octet_short c.args.n c.ranges.n.fits) }
