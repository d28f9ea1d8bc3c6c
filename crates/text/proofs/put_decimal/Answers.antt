-- `text::put_decimal` meets its contract: the digits that io writes are the number in decimal. Assumes nothing.
use mathlib.Core.Path.{◌∙◌, ap}
use mathlib.Core.List.{List}
use Prim.Native.Nat.{ℕ}
use native.Mathlib.Omega.{arith}
use lib.ListN.{length}
use Rattle.text.proofs.Numbers.{decimal_is}
use Rattle.text.proofs.Puts.{put_as}
use Rattle.text.proofs.put_decimal.Goals as goal

pub put_bytes-requires : goal.put_bytes-requires
put_bytes-requires c =
    let few = c.decimal-k.ensures in
    let same = ap (λ (l : List ℕ). length l) (few.digits ∙ decimal_is c.args.n c.decimal-k.result c.ranges.n.fits few.len) in
    omega (arith, c.requires, same)

pub returns : goal.returns
returns c =
    let few = c.decimal-k.ensures in
    put_as (few.digits ∙ decimal_is c.args.n c.decimal-k.result c.ranges.n.fits few.len) c.put_bytes.ensures
