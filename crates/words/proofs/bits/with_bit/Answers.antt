-- `words::bits::with_bit` meets its contract. Assumes nothing.
use mathlib.Core.Path.{ap, ◌∙◌}
use mathlib.Core.Bool.{Bool, ◌||◌, or_comm}
use Prim.Native.Nat.{◌*◌, ◌%◌, ◌^◌}
use lib.Dec.{eqb}
use Rattle.words.specs.Bits.{bit}
use Rattle.words.proofs.BitLaws.{bit-or, bit_one}
use Rattle.words.proofs.bits.with_bit.Goals as goal

pub returns : goal.returns
returns c i h =
    let x = c.args.x in
    let k = c.args.k in
    bit-or x (1 * 2 ^ k % 2 ^ 32) i ∙ ap (λ (t : Bool). bit x i || t) (bit_one 32 k i c.requires h) ∙ or_comm (bit x i) (eqb i k)
