-- `words::coverage::keep_of` meets its contract. Assumes nothing.
use mathlib.Core.Path.{ap, ap₂, ◌∙◌}
use mathlib.Core.Bool.{Bool, ◌&&◌}
use Prim.Native.Nat.{◌-◌, ◌^◌}
use lib.Bits.{bit_and}
use Rattle.words.specs.Bits.{bit}
use Rattle.words.proofs.BitLaws.{bit-and, bit_not}
use Rattle.words.proofs.coverage.keep_of.Goals as goal

pub returns : goal.returns
returns c k h =
    let x = c.args.coverage in
    let p = c.args.parent in
    let q = c.args.covered in
    bit-and (bit_and x ((2 ^ 32 - 1) - p)) ((2 ^ 32 - 1) - q) k
    ∙ ap₂ ◌&&◌ (bit-and x ((2 ^ 32 - 1) - p) k ∙ ap (λ (t : Bool). bit x k && t) (bit_not 32 p k c.ranges.parent.fits h))
    (bit_not 32 q k c.ranges.covered.fits h)
