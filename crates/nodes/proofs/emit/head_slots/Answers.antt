-- `nodes::emit::head_slots` meets its contract. The loop: the slots of the positions below b that have an entry are marked. Assumes nothing.
use native.Mathlib.Omega.{arith}
use Rattle.nodes.proofs.OutputHeads.{heads_pass, heads-mark, heads_all}
use Rattle.nodes.proofs.emit.head_slots.Goals as goal

pub loop-b-preserved : goal.loop-b-preserved
loop-b-preserved c =
    let entries = c.args.entries in
    let loop = c.loop-b in
    let next = c.next_bit-b-in-loop-b.ensures in
    let slot = c.slot_of in
    let with = c.with_bit-marked in
    (next.high, heads_pass entries with.result (heads-mark entries loop.marked loop.b slot.result with.result loop.invariant.1 slot.ensures.by_index with.ensures) next)

pub returns : goal.returns
returns c = heads_all _ _ c.loop-b.b c.loop-b.invariant.1 (omega arith)
