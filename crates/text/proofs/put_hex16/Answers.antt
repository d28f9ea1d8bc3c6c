-- `text::put_hex16` meets its contract: all 16 digits of a number of 64 bits. Assumes nothing.
use mathlib.Core.Path.{◌∙◌, ap}
use mathlib.Core.List.{List}
use Prim.Native.Nat.{ℕ}
use native.Mathlib.Omega.{arith}
use lib.ListN.{length}
use Rattle.text.proofs.Numbers.{hex16_is, length-hex16}
use Rattle.text.proofs.Puts.{put_as, put_then}
use Rattle.text.proofs.put_hex16.Goals as goal

pub put_bytes-end-requires : goal.put_bytes-end-requires
put_bytes-end-requires c =
    let all = c.hex-k.ensures in
    let same = ap (λ (l : List ℕ). length l) (all.digits ∙ hex16_is c.args.address c.hex-k.result c.ranges.address.fits all.len) in
    omega (arith, c.requires, same, length-hex16 c.args.address)

pub put_byte-requires : goal.put_byte-requires
put_byte-requires c =
    let all = c.hex-k.ensures in
    let same = ap (λ (l : List ℕ). length l) (all.digits ∙ hex16_is c.args.address c.hex-k.result c.ranges.address.fits all.len) in
    omega (arith, c.requires, same, length-hex16 c.args.address, c.put_bytes-end.ensures.ends)

pub returns : goal.returns
returns c =
    let all = c.hex-k.ensures in
    let is = all.digits ∙ hex16_is c.args.address c.hex-k.result c.ranges.address.fits all.len in
    let digits = put_as is c.put_bytes-end.ensures in
    let slash = c.put_byte.ensures in record { put = put_then digits slash; upper_bound = omega (arith, digits.ends, slash.ends, length-hex16 c.args.address) }
