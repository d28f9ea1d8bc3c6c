-- `gather::slot_key` meets its contract. Assumes nothing.
use Prim.Native.Nat.{◌*◌}
use mathlib.Core.Path.{◌∙◌, ap}
use native.Mathlib.Omega.{arith}
use lib.Pow.{pow_pos}
use Rattle.nodes.specs.Node.{slot_size}
use Rattle.gather.proofs.Halves.{slot_half, slot_twice, slot-inside}
use Rattle.gather.proofs.slot_key.Goals as goal

pub overflow_add-result : goal.overflow_add-result
overflow_add-result c =
    let a = c.args in
    let half = slot_half a.depth a.key a.c c.requires.0 c.requires.1 in
    let within = slot-inside a.depth a.key a.c c.requires.0 c.requires.1 in
    record { fits = omega (arith, half, within, pow_pos (slot_size a.depth)) }

pub returns : goal.returns
returns c =
    let a = c.args in
    let half = slot_half a.depth a.key a.c c.requires.0 c.requires.1 in record { value = half; result_value = λ lt. ap (λ (k : _). k * 2) half ∙ slot_twice a.depth a.key a.c c.requires.0 c.requires.1 lt }
