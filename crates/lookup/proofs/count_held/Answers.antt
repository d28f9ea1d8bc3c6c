-- `count_held`: what is counted so far and what the pass counts of the rest of the table make the addresses held. Assumes nothing.
use Prim.Native.Nat.{◌-◌, ◌<◌}
use native.Mathlib.Omega.{arith}
use lib.Pow.{pow_mono}
use Rattle.records.specs.Wire.{records}
use Rattle.records.proofs.Reading.{all_next}
use Rattle.lookup.proofs.Pass.{pass_start, pass_end, pass_inside, pass_past, pass_most}
use Rattle.lookup.proofs.count_held.Goals as goal
use Rattle.lookup.proofs.count_held.Goals.{then-end-start, else-end-start}

pub loop-i-init : goal.loop-i-init
loop-i-init c = let start = pass_start c.args.table.now c.requires in (omega arith, start.0, start.1)

pub prefix_size-size-requires : goal.prefix_size-size-requires
prefix_size-size-requires c =
    omega (arith, (all_next c.args.table.now c.loop-i.i (omega arith) c.loop-i.invariant.2).0.short)

pub overflow_add-held : goal.overflow_add-held
overflow_add-held c =
    let t = c.args.table.now in
    let size = rw c.len_at.ensures at c.prefix_size-size.ensures in
    let past = pass_past t _ _ c.loop-i.i (omega arith) c.loop-i.invariant.1 _ _ c.addr_at-start.ensures size (omega arith) in
    omega (arith, pass_most t _ _ _ past)

pub overflow_add-end : goal.overflow_add-end
overflow_add-end c = omega (arith, c.prefix_size-size.ensures, pow_mono {i = 32 - c.len_at.result} {j = 32} (omega arith))

pub loop-i-preserved : goal.loop-i-preserved
loop-i-preserved c =
    let t = c.args.table.now in
    let lt : c.loop-i.i < records t = omega arith in (
      omega arith,
      elim c.if-end-start.branch [
        | then-end-start w ↦
            let size = rw w.len_at.ensures at w.prefix_size-size.ensures in
            rw (w.held-is, w.end-is) (pass_past t _ _ c.loop-i.i lt c.loop-i.invariant.1 _ _ c.addr_at-start.ensures size (omega arith))
        | else-end-start w ↦ rw (w.held-is, w.end-is) (pass_inside t _ _ c.loop-i.i lt c.loop-i.invariant.1 (omega arith))
      ],
      (all_next t c.loop-i.i lt c.loop-i.invariant.2).1,
    )

pub returns : goal.returns
returns c =
    pass_end c.args.table.now _ _ c.loop-i.i (omega arith) c.loop-i.invariant.1
