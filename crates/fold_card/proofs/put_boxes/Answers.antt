-- `fold_card::put_boxes` meets its contract: after `low` turns the lines of the first `low` boxes are put. Assumes nothing.
use mathlib.Core.Path.{◌≡◌, sym, ap, ◌∙◌}
use native.Mathlib.Omega.{arith}
use lib.ListN.{length}
use Rattle.text.proofs.Puts.{put_none, put_as, put-length, put_then}
use Rattle.fold_card.specs.Shown.{boxes}
use Rattle.fold_card.proofs.Boxes.{box_length, boxes_more}
use Rattle.fold_card.proofs.put_boxes.Goals as goal

pub loop-low-init : goal.loop-low-init
unfolding boxes
loop-low-init c = (omega arith, put_none _ _ (omega arith))

pub slice_bounds-put_bytes-end : goal.slice_bounds-put_bytes-end
slice_bounds-put_bytes-end c = sym (ap length c.box_line-line.ensures ∙ box_length _ _)

pub put_bytes-end-requires : goal.put_bytes-end-requires
put_bytes-end-requires c =
    let line = ap length c.box_line-line.ensures ∙ box_length _ _ in
    let inv = c.loop-low.invariant in
    omega (arith, line, inv.0, put-length inv.1, c.requires.high_bound, c.requires.at_in_bounds, c.loop-low-test.true)

pub loop-low-preserved : goal.loop-low-preserved
loop-low-preserved c =
    let l = c.loop-low in
    let line = c.box_line-line.ensures in
    let put = c.put_bytes-end.ensures in
    let more = boxes_more c.args.lower c.args.card.now c.args.high l.low line in
    (omega (arith, l.invariant.0, put.ends, ap length line ∙ box_length _ _), put_as more (put_then l.invariant.1 put))

pub returns : goal.returns
returns c =
    let l = c.loop-low in
    let all : l.low ≡ 16 = omega (arith, l.auto.low-end, c.loop-low-test.false) in record { put = put_as (ap (boxes c.args.lower c.args.card.now c.args.high) all) l.invariant.1; value = omega (arith, l.invariant.0) }
