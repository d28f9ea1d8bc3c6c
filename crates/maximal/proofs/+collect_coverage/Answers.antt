-- `maximal::collect_coverage`, which calls itself on the slots that are walked, meets its contract, by falling bits below the node. The loop's
-- invariant: of the slots from k on the coverage is laid, and the word has the covered ones. Assumes nothing.
use Prim.Native.Nat.{ℕ, ◌-◌, ◌<◌}
use mathlib.Core.Path.{◌≡◌, refl}
use mathlib.Core.Bool.{◌&&◌, ◌||◌}
use lib.Dec.{eqb}
use Rattle.words.specs.Bits.{bit}
use native.Mathlib.Omega.{arith}
use lib.ListN.{get_or-replicate}
use Rattle.cover.proofs.CoverLaws.{slot_set, slot_left}
use Rattle.maximal.proofs.MaximalRoom.{slot-node, collect_start, collect_within, collect_room, collect_child, collect_end}
use Rattle.maximal.proofs.+collect_coverage.Goals as goal
use Rattle.maximal.proofs.+collect_coverage.Goals.{then-has_bit, else-has_bit}

pub gather_run-g-requires : goal.gather_run-g-requires
gather_run-g-requires t c = record { node = c.requires.node; first_len = (refl, refl); by_index = λ b lt. (get_or-replicate 63 b 0 0 lt, get_or-replicate 63 b 0 0 lt) }

pub loop-k-init : goal.loop-k-init
loop-k-init t c =
    let pre = c.requires in
    let g = c.gather_run-g in
    let last = c.last_bit-k.ensures in (
      collect_start (record {
        node = pre.node;
        gathered = g.ensures.gathered;
        occupied = g.result.occupied;
        filled = g.ensures.occupied;
        covered = c.member_coverage-under.result.covered;
        members = c.member_coverage-under.ensures;
        chosen = c.open_slots-walked.ensures;
      }) pre.hi_bound last,
      last.is_set,
    )

pub collect_coverage-child-requires : goal.collect_coverage-child-requires
collect_coverage-child-requires t c =
    let l = c.loop-k in
    let w = l.invariant.0 in
    let pos = c.loop-k-test.true in
    let e = l.invariant.1 pos in
    let bits = c.decreases in
    let child = slot-node w.opened (l.k - 1) (omega arith) e in
    (omega (arith, child.within_reach), rw (c.slot_key.ensures.result_value (omega (arith, child.at.deep))) (child, (collect_room w pos e, collect_within w)))

pub loop-k-preserved : goal.loop-k-preserved
loop-k-preserved t c =
    let l = c.loop-k in
    let pos = c.loop-k-test.true in
    let node = slot-node l.invariant.0.opened (l.k - 1) (omega arith) (l.invariant.1 pos) in
    let here = c.slot_key.ensures.result_value (omega (arith, node.at.deep)) in
    let coverage = rw here at c.collect_coverage-child.ensures.coverage in
    let laid = rw here at c.collect_coverage-child.ensures.laid_by in
    let last = c.last_bit-k-in-loop-k.ensures in
    let taken : (i : ℕ) → i < 32 → bit c.if-has_bit.covered i ≡ ((eqb i (l.k - 1) && c.has_bit.result) || bit l.covered i) = elim c.if-has_bit.branch [
      | then-has_bit w ↦ rw w.covered-is (slot_set l.covered (l.k - 1) c.has_bit.result w.with_bit-covered.result w.if-has_bit.true w.with_bit-covered.ensures)
      | else-has_bit w ↦ rw w.covered-is (slot_left l.covered (l.k - 1) c.has_bit.result w.if-has_bit.false)
    ] in
    (collect_child l.invariant.0 pos (l.invariant.1 pos) _ _ coverage laid c.has_bit.ensures taken last, last.is_set)

pub returns : goal.returns
returns t c =
    let none : c.loop-k.k ≡ 0 = omega arith in
    let e = collect_end c.loop-k.invariant.0 none c.fold_coverage-coverage.result c.fold_coverage-coverage.ensures in
    record { coverage = e.0; laid_by = e.1 }
