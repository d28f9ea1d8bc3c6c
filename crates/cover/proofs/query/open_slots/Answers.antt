-- `cover::query::open_slots` meets its contract. Assumes nothing.
use Prim.Native.Nat.{◌-◌, ◌^◌}
use mathlib.Core.Path.{ap, ◌∙◌}
use mathlib.Core.Bool.{Bool, ◌&&◌}
use Rattle.words.specs.Bits.{bit}
use Rattle.words.proofs.BitLaws.{bit-and, bit_not}
use Rattle.cover.proofs.query.open_slots.Goals as goal

pub returns : goal.returns
returns c i lt =
    let a = c.args in
    bit-and a.occupied ((2 ^ 32 - 1) - a.under) i
    ∙ ap (λ (b : Bool). bit a.occupied i && b) (bit_not 32 a.under i c.ranges.under.fits lt)
