-- `cover::query::bit_covered`, which calls itself on the slots that it asks, meets its contract, by falling bits below the node. The loop's
-- invariant: of the slots before the next the word has those that were asked and are covered. Assumes nothing.
use Prim.Native.Nat.{ℕ, ◌<◌}
use mathlib.Core.Path.{◌≡◌, refl, sym, ◌∙◌}
use mathlib.Core.Bool.{◌&&◌, ◌||◌}
use lib.Dec.{eqb}
use Rattle.words.specs.Bits.{bit}
use native.Mathlib.Omega.{arith}
use lib.ListN.{get_or-replicate}
use Rattle.cover.proofs.CoverLaws.{slot_set, slot_left, member_covers, ask_start, ask_node, ask_child, ask_end}
use Rattle.cover.proofs.query.+bit_covered.Goals as goal
use Rattle.cover.proofs.query.+bit_covered.Goals.{then-bit_covered, else-bit_covered}

pub gather_run-g-requires : goal.gather_run-g-requires
gather_run-g-requires t c = record { node = c.requires.node; first_len = (refl, refl); by_index = λ b lt. (get_or-replicate 63 b 0 0 lt, get_or-replicate 63 b 0 0 lt) }

pub returns-then-has_bit : goal.returns-then-has_bit
returns-then-has_bit t c l j le lt e =
    member_covers c.requires.node c.gather_run-g.ensures.gathered l j le lt (rw e at (sym c.has_bit.ensures ∙ c.if-has_bit.true))

pub loop-next-init : goal.loop-next-init
loop-next-init t c =
    let g = c.gather_run-g in
    ask_start (record {
      node = c.requires.node;
      gathered = g.ensures.gathered;
      occupied = g.result.occupied;
      filled = g.ensures.occupied;
      below = c.child_cover_mask_for_bit.result;
      beneath = c.child_cover_mask_for_bit.ensures;
      covered = c.member_coverage-under.result.covered;
      members = c.member_coverage-under.ensures;
      chosen = c.open_slots-walked.ensures;
    }) c.next_bit-next.ensures

pub bit_covered-requires : goal.bit_covered-requires
bit_covered-requires t c =
    let child = ask_node c.loop-next.invariant c.loop-next-test.true in
    (omega (arith, c.decreases, child.within_reach), (rw (c.slot_key-slot.ensures.result_value (omega (arith, child.at.deep))) child, omega arith))

pub loop-next-preserved : goal.loop-next-preserved
loop-next-preserved t c =
    let l = c.loop-next in
    let lt = c.loop-next-test.true in
    let child = ask_node l.invariant lt in
    let found = rw (c.slot_key-slot.ensures.result_value (omega (arith, child.at.deep))) at (c.bit_covered.ensures 0 0 (omega arith) (omega arith) refl) in
    let taken : (i : ℕ) → i < 32 → bit c.if-bit_covered.covered i ≡ ((eqb i l.next && c.bit_covered.result) || bit l.covered i) = elim c.if-bit_covered.branch [
      | then-bit_covered w ↦ rw w.covered-is (slot_set l.covered l.next c.bit_covered.result w.with_bit-covered.result w.if-bit_covered.true w.with_bit-covered.ensures)
      | else-bit_covered w ↦ rw w.covered-is (slot_left l.covered l.next c.bit_covered.result w.if-bit_covered.false)
    ] in
    ask_child l.invariant lt c.bit_covered.result c.if-bit_covered.covered c.next_bit-next-in-loop-next.result found taken c.next_bit-next-in-loop-next.ensures

pub returns : goal.returns
returns t c l j le lt e =
    c.has_bit-2.ensures ∙ ask_end c.loop-next.invariant c.loop-next-test.false c.fold_coverage.result c.fold_coverage.ensures l j le lt e
