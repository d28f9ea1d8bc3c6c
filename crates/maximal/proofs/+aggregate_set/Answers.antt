-- `maximal::aggregate_set`, which calls itself on the slots that are walked, meets its contract, by falling bits below the node. The loop's
-- invariant: the node's coverage is read, and of its slots before the next the maximal prefixes are written. Assumes nothing.
use Prim.Native.Nat.{◌+◌, ◌*◌}
use mathlib.Core.Path.{◌≡◌, refl, sym, ◌∙◌}
use mathlib.Core.Bool.{true, ◌||◌}
use Rattle.words.specs.Bits.{bit}
use native.Mathlib.Omega.{arith}
use lib.ListN.{get_or, replicate, get_or-replicate}
use borrow.Author.Rules.{rules}
use Rattle.positions.specs.Runs.{place_at}
use Rattle.nodes.specs.Node.{slot_size}
use Rattle.nodes.proofs.OutputLaws.{wrote_count}
use Rattle.nodes.proofs.OutputWalk.{relaid, Begun, begun, begun_few}
use Rattle.nodes.proofs.RoomWalk.{ahead_end}
use Rattle.maximal.proofs.MaximalLaws.{maximal_slot}
use Rattle.maximal.proofs.MaximalRoom.{slot-node, word_read, child_stored, found-most, slot_wrote, walk_start, walk_child, walk_none, walk_end}
use Rattle.maximal.proofs.+aggregate_set.Goals as goal
use Rattle.maximal.proofs.+aggregate_set.Goals.{then-above, else-above}

pub gather_run-g-requires : goal.gather_run-g-requires
gather_run-g-requires t c = record { node = c.requires.node; first_len = (refl, refl); by_index = λ b lt. (get_or-replicate 63 b 0 0 lt, get_or-replicate 63 b 0 0 lt) }

pub offset_bounds-work-top : goal.offset_bounds-work-top
offset_bounds-work-top t c =
    let pre = c.requires in
    let w = (word_read pre.node pre.stored_by).within in
    search rules

pub bounds-work-top : goal.bounds-work-top
bounds-work-top t c =
    let pre = c.requires in
    (word_read pre.node pre.stored_by).within

pub overflow_add-at : goal.overflow_add-at
overflow_add-at t c =
    let w = (word_read c.requires.node c.requires.stored_by).within in
    let fits = c.well_formed.1.1.1.1.1.1.1 in
    search rules

pub loop-next-init : goal.loop-next-init
loop-next-init t c =
    let pre = c.requires in
    let g = c.gather_run-g in
    let read = word_read pre.node pre.stored_by in
    walk_start (record {
      present = g.result.present;
      under = c.member_coverage.result.children_under_member;
      opened = record {
        node = pre.node;
        gathered = g.ensures.gathered;
        occupied = g.result.occupied;
        filled = g.ensures.occupied;
        covered = c.member_coverage.result.covered;
        members = c.member_coverage.ensures;
        chosen = c.open_slots-walked.ensures;
      };
      stored = pre.stored_by;
      coverage = get_or c.args.work.now c.args.top 0;
      word = read.word;
      listed = c.entries_of-entries.ensures;
      below = c.push_l4-pushed.ensures;
      bare = λ b lt. get_or-replicate 31 b 0 0 lt;
      marked = c.head_slots.result;
      begin = c.head_slots.ensures;
      either = refl;
    }) read.ahead c.next_bit-next.ensures

pub overflow_add-n : goal.overflow_add-n
overflow_add-n t c =
    let started : let a = c.args in let l = c.loop-next in Begun a.size c.entries_of-entries.result (replicate 31 0) a.depth (a.key * 2) (maximal_slot a.size a.table.now a.depth (a.key * 2) a.above c.gather_run-g.new.first c.gather_run-g.new.end c.push_l4-pushed.result) l.next (l.n + c.emit_slot.result) a.out.now (relaid c.past_sized-here.result c.emit_slot.new.out l.out) = begun c.loop-next.invariant.done c.loop-next-test.true (c.past_sized-here.ensures.upper_bound, c.past_sized-here.ensures.value) c.slot_key-slot.ensures.value c.emit_slot.ensures c.out-1.given.1 in
    let few = begun_few started in
    let most = found-most c.loop-next.invariant.found in
    omega (arith, c.well_formed)

pub aggregate_set-child-requires : goal.aggregate_set-child-requires
aggregate_set-child-requires t c =
    let place : c.has_bit.result ≡ true → let a = c.args in c.slot_key-slot.result * 2 ≡ place_at (slot_size a.depth) (a.key * 2) 5 c.loop-next.next = λ e. let s = c.loop-next.invariant.found.opened in let child = slot-node s _ c.loop-next-test.true (sym c.has_bit.ensures ∙ e) in c.slot_key-slot.ensures.result_value (omega (arith, child.at.deep)) in
    let w = c.loop-next.invariant in
    let s = w.found.opened in
    let lt = c.loop-next-test.true in
    let e = sym c.has_bit.ensures ∙ c.if-has_bit.true in
    let bits = c.decreases in
    let child = slot-node s _ lt e in
    (omega (arith, bits, child.within_reach), rw (place c.if-has_bit.true) (child, child_stored s w.ahead lt e w.found.stored))

pub overflow_add-n-then-has_bit : goal.overflow_add-n-then-has_bit
overflow_add-n-then-has_bit t c =
    let absorbed : c.if-above.aggregate_set ≡ (c.args.above || bit c.push_l4-pushed.result c.loop-next.next) = elim c.if-above.branch [
      | then-above w ↦ rw (w.aggregate_set-is, w.if-above.true) refl
      | else-above w ↦ w.aggregate_set-is ∙ rw w.if-above.false w.has_bit-else-above.ensures
    ] in
    let started : let a = c.args in let l = c.loop-next in Begun a.size c.entries_of-entries.result (replicate 31 0) a.depth (a.key * 2) (maximal_slot a.size a.table.now a.depth (a.key * 2) a.above c.gather_run-g.new.first c.gather_run-g.new.end c.push_l4-pushed.result) l.next (l.n + c.emit_slot.result) a.out.now (relaid c.past_sized-here.result c.emit_slot.new.out l.out) = begun c.loop-next.invariant.done c.loop-next-test.true (c.past_sized-here.ensures.upper_bound, c.past_sized-here.ensures.value) c.slot_key-slot.ensures.value c.emit_slot.ensures c.out-1.given.1 in
    let place : c.has_bit.result ≡ true → let a = c.args in c.slot_key-slot.result * 2 ≡ place_at (slot_size a.depth) (a.key * 2) 5 c.loop-next.next = λ e. let s = c.loop-next.invariant.found.opened in let child = slot-node s _ c.loop-next-test.true (sym c.has_bit.ensures ∙ e) in c.slot_key-slot.ensures.result_value (omega (arith, child.at.deep)) in
    let l = c.loop-next in
    let own = wrote_count (slot_wrote l.invariant.found l.next (place c.if-has_bit.true) absorbed c.aggregate_set-child.ensures.wrote) in
    let few = begun_few started in
    let most = found-most l.invariant.found in
    omega (arith, c.well_formed)

pub loop-next-preserved-then-has_bit : goal.loop-next-preserved-then-has_bit
loop-next-preserved-then-has_bit t c =
    let absorbed : c.if-above.aggregate_set ≡ (c.args.above || bit c.push_l4-pushed.result c.loop-next.next) = elim c.if-above.branch [
      | then-above w ↦ rw (w.aggregate_set-is, w.if-above.true) refl
      | else-above w ↦ w.aggregate_set-is ∙ rw w.if-above.false w.has_bit-else-above.ensures
    ] in
    let started : let a = c.args in let l = c.loop-next in Begun a.size c.entries_of-entries.result (replicate 31 0) a.depth (a.key * 2) (maximal_slot a.size a.table.now a.depth (a.key * 2) a.above c.gather_run-g.new.first c.gather_run-g.new.end c.push_l4-pushed.result) l.next (l.n + c.emit_slot.result) a.out.now (relaid c.past_sized-here.result c.emit_slot.new.out l.out) = begun c.loop-next.invariant.done c.loop-next-test.true (c.past_sized-here.ensures.upper_bound, c.past_sized-here.ensures.value) c.slot_key-slot.ensures.value c.emit_slot.ensures c.out-1.given.1 in
    let place : c.has_bit.result ≡ true → let a = c.args in c.slot_key-slot.result * 2 ≡ place_at (slot_size a.depth) (a.key * 2) 5 c.loop-next.next = λ e. let s = c.loop-next.invariant.found.opened in let child = slot-node s _ c.loop-next-test.true (sym c.has_bit.ensures ∙ e) in c.slot_key-slot.ensures.result_value (omega (arith, child.at.deep)) in
    let e = sym c.has_bit.ensures ∙ c.if-has_bit.true in
    let call = c.aggregate_set-child in
    walk_child c.loop-next.invariant c.next_bit-next-in-loop-next.ensures started e (place c.if-has_bit.true)
    absorbed call.ensures.by_index (c.past_sized-here-then-has_bit.ensures.upper_bound, c.past_sized-here-then-has_bit.ensures.value) call.ensures.wrote c.out-then-has_bit-1.given.1

pub loop-next-preserved : goal.loop-next-preserved
loop-next-preserved t c =
    let started : let a = c.args in let l = c.loop-next in Begun a.size c.entries_of-entries.result (replicate 31 0) a.depth (a.key * 2) (maximal_slot a.size a.table.now a.depth (a.key * 2) a.above c.gather_run-g.new.first c.gather_run-g.new.end c.push_l4-pushed.result) l.next (l.n + c.emit_slot.result) a.out.now (relaid c.past_sized-here.result c.emit_slot.new.out l.out) = begun c.loop-next.invariant.done c.loop-next-test.true (c.past_sized-here.ensures.upper_bound, c.past_sized-here.ensures.value) c.slot_key-slot.ensures.value c.emit_slot.ensures c.out-1.given.1 in
    walk_none c.loop-next.invariant c.next_bit-next-in-loop-next.ensures started (sym c.has_bit.ensures ∙ c.if-has_bit.false)

pub returns : goal.returns
returns t c =
    let w = c.loop-next.invariant in
    let all : c.loop-next.next ≡ 32 = omega (arith, w.done.within, c.loop-next-test.false) in record { by_index = ahead_end w.ahead all; wrote = walk_end w c.loop-next-test.false }
