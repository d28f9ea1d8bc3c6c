-- `gather::gather_run` meets its contract. The loop's invariant: the records from lo up to i are gathered, and the word says which slots have
-- one of them. Assumes nothing.
use Prim.Native.Nat.{ℕ, ◌-◌, ◌*◌, ◌≤◌, ◌<◌}
use lib.ListN.{get_or, set}
use mathlib.Core.Path.{◌≡◌, sym, ◌∙◌}
use native.Mathlib.Omega.{arith}
use lib.Pow.{pow_pos}
use Rattle.theory.specs.Results.{In}
use Rattle.theory.specs.Routes.{Route}
use Rattle.theory.specs.Shapes.{Within}
use Rattle.nodes.specs.Node.{wide, wide_at}
use Rattle.gather.specs.Gathered.{Gathered, first_of}
use Rattle.gather.proofs.GatherPlaces.{heap_of, heap_is}
use Rattle.gather.proofs.GatherSlots.{place-run, slots-start, slots_next, slots_done}
use Rattle.gather.proofs.GatherSteps.{first_kept, first_new, passed_start, passed_next, passed_done, node-within}
use Rattle.gather.proofs.GatherMarks.{Marks, MarksSlot, position_marked, slot_marked}
use Rattle.gather.proofs.gather_run.Goals as goal
use Rattle.gather.proofs.gather_run.Goals.{then-first-b, else-first-b, then-b-lt31, else-b-lt31}

pub loop-i-init : goal.loop-i-init
loop-i-init c =
    let a = c.args in
    let p = c.requires in (
      omega arith,
      p.node.low,
      passed_start a.size a.table.now a.lo a.depth (a.key * 2) a.first.now a.end.now p.first_len.0 p.first_len.1 p.by_index,
      slots-start a.first.now a.end.now p.by_index,
    )

pub level_of-level-requires : goal.level_of-level-requires
level_of-level-requires c =
    let a = c.args in
    let l = c.loop-i in
    let n = c.requires.node in
    let w : Within wide (wide - a.depth) (a.key * 2) (wide_at a.size a.table.now l.i) = node-within n l.i l.invariant.0 c.loop-i-test.true in
    (n.at.deep, let d = n.at.deep in omega (arith, w.deep, c.bits_at.ensures))

pub loop-i-preserved : goal.loop-i-preserved
loop-i-preserved c =
    let a = c.args in
    let l = c.loop-i in
    let n = c.requires.node in
    let low = l.invariant.0 in
    let b = c.heap_index-b.result in
    let e = c.place_end-stop.result in
    let ends = c.place_end-stop.ensures.lower_bound in
    let taken : Route = wide_at a.size a.table.now l.i in
    let is_heap : b ≡ heap_of a.depth (a.key * 2) taken = let len = c.bits_at in let level = c.level_of-level in let addr = c.half_at in let w : Within wide (wide - a.depth) (a.key * 2) taken = node-within n l.i low c.loop-i-test.true in let lies : In (wide - a.depth) (a.key * 2) (addr.result * 2) = omega (arith, addr.ensures, w.low, w.high, pow_pos (wide - taken.len)) in heap_is a.depth (a.key * 2) taken len.result level.result (addr.result * 2) b len.ensures.0 level.ensures.0 addr.ensures (c.heap_index-b.ensures.by_index (a.key * 2) n.at lies) in
    let is_run : (k : ℕ) → l.i ≤ k → k < e → heap_of a.depth (a.key * 2) (wide_at a.size a.table.now k) ≡ b = place-run n l.i low e ends.1 b (sym is_heap) c.place_end-stop.ensures.by_index in
    let first : c.if-first-b.first ≡ set l.first b (first_of (get_or l.first b 0) (get_or l.end b 0) l.i) = elim c.if-first-b.branch [ then-first-b w ↦ w.first-is ∙ sym (first_new l.first l.end b l.i w.if-first-b.true) | else-first-b w ↦ w.first-is ∙ sym (first_kept l.first l.end b l.i w.if-first-b.false) ] in
    let marks : Marks b l.present c.if-b-lt31.present × MarksSlot b l.occupied c.if-b-lt31.occupied = elim c.if-b-lt31.branch [ then-b-lt31 w ↦ rw (w.present-is, w.occupied-is) (position_marked b l.present l.occupied w.with_bit-present.result w.if-b-lt31.true w.with_bit-present.ensures) | else-b-lt31 w ↦ rw (w.present-is, w.occupied-is) (slot_marked b l.present l.occupied w.with_bit-occupied.result w.if-b-lt31.false w.with_bit-occupied.ensures) ] in (
      omega arith,
      ends.1,
      rw first (passed_next n l.i e low ends.0 ends.1 b is_run l.invariant.2 c.if-b-lt31.present marks.0.0 marks.0.1),
      rw first (slots_next n l.i e low ends.0 ends.1 b is_run l.invariant.2 l.occupied c.if-b-lt31.occupied l.invariant.3 marks.1),
    )

pub returns : goal.returns
returns c =
    let l = c.loop-i in
    let a = c.args in
    let e : l.i ≡ a.hi = omega (arith, l.invariant.1, c.loop-i-test.false) in
    let g : Gathered a.size a.table.now a.lo a.hi a.depth (a.key * 2) l.first l.end l.present = passed_done c.requires.node (rw e at l.invariant.2) in record { gathered = g; occupied = slots_done g l.occupied l.invariant.3 }
