-- `gather::slot_last` meets its contract. Assumes nothing.
use native.Mathlib.Omega.{arith}
use lib.Pow.{pow_pos}
use Rattle.nodes.specs.Node.{slot_size}
use Rattle.gather.proofs.Halves.{last_half, slot-inside}
use Rattle.gather.proofs.slot_last.Goals as goal

pub overflow_add-result : goal.overflow_add-result
overflow_add-result c =
    let a = c.args in
    let pre = c.requires in
    let half = last_half a.depth a.key a.c pre.0 pre.1 in
    let within = slot-inside a.depth a.key a.c pre.0 pre.1 in
    let e = c.slot_key.ensures.value in
    record { fits = omega (arith, half, within, e, pow_pos (slot_size a.depth)) }

pub returns : goal.returns
returns c =
    let a = c.args in
    let pre = c.requires in
    rw c.slot_key.ensures.value (last_half a.depth a.key a.c pre.0 pre.1)
