-- `consistent::aggregate_consistent_map` meets its contract: one cycle of calls, by falling bits below the node. The loop's invariant: the
-- node is found, the word has the slots to visit, and the node's slots before c are written. Assumes nothing.
use Prim.Native.Nat.{◌+◌, ◌*◌, ◌<◌}
use mathlib.Core.Path.{◌≡◌, refl}
use lib.ListN.{get_or, get_or-replicate}
use native.Mathlib.Omega.{arith}
use Rattle.positions.specs.Runs.{place_at}
use Rattle.nodes.specs.Node.{slot_size}
use Rattle.nodes.proofs.OutputLaws.{wrote_count}
use Rattle.nodes.proofs.OutputWalk.{relaid, Begun, walked_none, begun, begun_few, walked_alone, walked_child, walked_all}
use Rattle.gather.proofs.GatherLaws.{absent, ends_in, child_node}
use Rattle.gather.proofs.BusySlots.{busy_slots, walked_next}
use Rattle.consistent.proofs.MapLaws.{map_slot, map_no_child, slot_le, map-slots, map-most, map_child}
use Rattle.consistent.proofs.+aggregate_consistent_map.Goals as goal

pub gather_run-g-requires : goal.gather_run-g-requires
gather_run-g-requires t c = record { node = c.requires.node; first_len = (refl, refl); by_index = λ b lt. (get_or-replicate 63 b 0 0 lt, get_or-replicate 63 b 0 0 lt) }

pub covering_hops-hops-requires : goal.covering_hops-hops-requires
covering_hops-hops-requires t c =
    let g = c.gather_run-g.ensures.gathered in
    let n = c.requires.node in record { by_index = ends_in n g; by_index_2 = absent g; size = n.sized }

pub entries_of-entries-requires : goal.entries_of-entries-requires
entries_of-entries-requires t c = absent c.gather_run-g.ensures.gathered

pub loop-c-init : goal.loop-c-init
loop-c-init t c =
    let run = c.gather_run-g in
    let hops = c.covering_hops-hops in
    let busy = busy_slots run.ensures.gathered _ run.ensures.occupied _ _ c.head_slots.ensures _ (map_no_child run.ensures.gathered hops.result) in (
      record {
        node = c.requires.node;
        known = c.requires.inherited_le_no_hop;
        present = run.result.present;
        gathered = run.ensures.gathered;
        covering = hops.ensures;
        bits = c.entries_of-entries.ensures;
      },
      (busy, walked_next busy c.next_bit-c.ensures (walked_none c.requires.node.sized c.args.out.now)),
    )

pub overflow_add-n : goal.overflow_add-n
overflow_add-n t c =
    let entered : let a = c.args in let run = c.gather_run-g.new in let hops = c.covering_hops-hops.result in let lp = c.loop-c in let heads = c.emit_slot-n in Begun a.size c.entries_of-entries.result hops a.depth (a.key * 2) (map_slot a.size a.table.now run.first run.end hops a.depth (a.key * 2)) lp.c (lp.n + heads.result) a.out.now (relaid c.past_sized-here.result heads.new.out lp.out) = let heads = c.emit_slot-n in let lt = c.loop-c-test.true in let key = c.slot_key-slot.ensures.value in begun c.loop-c.invariant.1.1 lt (c.past_sized-here.ensures.upper_bound, c.past_sized-here.ensures.value) key heads.ensures c.out-1.given.1 in
    let few = begun_few entered in
    let most = map-most c.loop-c.invariant.0 in
    omega (arith, c.well_formed)

pub aggregate_consistent_map-n-requires : goal.aggregate_consistent_map-n-requires
aggregate_consistent_map-n-requires t c =
    let place : let a = c.args in let run = c.gather_run-g.new in let lp = c.loop-c in get_or run.first (31 + lp.c) 0 < get_or run.end (31 + lp.c) 0 → c.slot_key-slot.result * 2 ≡ place_at (slot_size a.depth) (a.key * 2) 5 lp.c = λ has. let lp = c.loop-c in let child = child_node lp.invariant.0.node lp.invariant.0.gathered lp.c c.loop-c-test.true has in c.slot_key-slot.ensures.result_value (omega (arith, child.at.deep)) in
    let lp = c.loop-c in
    let f = lp.invariant.0 in
    let lt = c.loop-c-test.true in
    let child = child_node f.node f.gathered lp.c lt c.if-from-to.true in
    let bits = c.decreases in
    (omega (arith, child.within_reach, bits), (rw (place c.if-from-to.true) child, slot_le f lp.c lt))

pub overflow_add-n-then-from-to : goal.overflow_add-n-then-from-to
overflow_add-n-then-from-to t c =
    let entered : let a = c.args in let run = c.gather_run-g.new in let hops = c.covering_hops-hops.result in let lp = c.loop-c in let heads = c.emit_slot-n in Begun a.size c.entries_of-entries.result hops a.depth (a.key * 2) (map_slot a.size a.table.now run.first run.end hops a.depth (a.key * 2)) lp.c (lp.n + heads.result) a.out.now (relaid c.past_sized-here.result heads.new.out lp.out) = let heads = c.emit_slot-n in let lt = c.loop-c-test.true in let key = c.slot_key-slot.ensures.value in begun c.loop-c.invariant.1.1 lt (c.past_sized-here.ensures.upper_bound, c.past_sized-here.ensures.value) key heads.ensures c.out-1.given.1 in
    let place : let a = c.args in let run = c.gather_run-g.new in let lp = c.loop-c in get_or run.first (31 + lp.c) 0 < get_or run.end (31 + lp.c) 0 → c.slot_key-slot.result * 2 ≡ place_at (slot_size a.depth) (a.key * 2) 5 lp.c = λ has. let lp = c.loop-c in let child = child_node lp.invariant.0.node lp.invariant.0.gathered lp.c c.loop-c-test.true has in c.slot_key-slot.ensures.result_value (omega (arith, child.at.deep)) in
    let lp = c.loop-c in
    let f = lp.invariant.0 in
    let key = place c.if-from-to.true in
    let own = wrote_count (rw (map_child f lp.c _ key) at c.aggregate_consistent_map-n.ensures) in
    let few = begun_few entered in
    let most = map-most f in
    omega (arith, c.well_formed)

pub loop-c-preserved-then-from-to : goal.loop-c-preserved-then-from-to
loop-c-preserved-then-from-to t c =
    let entered : let a = c.args in let run = c.gather_run-g.new in let hops = c.covering_hops-hops.result in let lp = c.loop-c in let heads = c.emit_slot-n in Begun a.size c.entries_of-entries.result hops a.depth (a.key * 2) (map_slot a.size a.table.now run.first run.end hops a.depth (a.key * 2)) lp.c (lp.n + heads.result) a.out.now (relaid c.past_sized-here.result heads.new.out lp.out) = let heads = c.emit_slot-n in let lt = c.loop-c-test.true in let key = c.slot_key-slot.ensures.value in begun c.loop-c.invariant.1.1 lt (c.past_sized-here.ensures.upper_bound, c.past_sized-here.ensures.value) key heads.ensures c.out-1.given.1 in
    let place : let a = c.args in let run = c.gather_run-g.new in let lp = c.loop-c in get_or run.first (31 + lp.c) 0 < get_or run.end (31 + lp.c) 0 → c.slot_key-slot.result * 2 ≡ place_at (slot_size a.depth) (a.key * 2) 5 lp.c = λ has. let lp = c.loop-c in let child = child_node lp.invariant.0.node lp.invariant.0.gathered lp.c c.loop-c-test.true has in c.slot_key-slot.ensures.result_value (omega (arith, child.at.deep)) in
    let lp = c.loop-c in
    let f = lp.invariant.0 in
    let call = c.aggregate_consistent_map-n in
    let key = place c.if-from-to.true in
    let own = rw (map_child f lp.c _ key) at call.ensures in
    let slot = walked_child entered (c.past_sized-here-then-from-to.ensures.upper_bound, c.past_sized-here-then-from-to.ensures.value) own
    c.out-then-from-to-1.given.1 in
    (f, (lp.invariant.1.0, walked_next lp.invariant.1.0 c.next_bit-c-in-loop-c.ensures slot))

pub loop-c-preserved : goal.loop-c-preserved
loop-c-preserved t c =
    let entered : let a = c.args in let run = c.gather_run-g.new in let hops = c.covering_hops-hops.result in let lp = c.loop-c in let heads = c.emit_slot-n in Begun a.size c.entries_of-entries.result hops a.depth (a.key * 2) (map_slot a.size a.table.now run.first run.end hops a.depth (a.key * 2)) lp.c (lp.n + heads.result) a.out.now (relaid c.past_sized-here.result heads.new.out lp.out) = let heads = c.emit_slot-n in let lt = c.loop-c-test.true in let key = c.slot_key-slot.ensures.value in begun c.loop-c.invariant.1.1 lt (c.past_sized-here.ensures.upper_bound, c.past_sized-here.ensures.value) key heads.ensures c.out-1.given.1 in
    let lp = c.loop-c in
    let f = lp.invariant.0 in
    let lt = c.loop-c-test.true in
    let hops = c.covering_hops-hops.result in
    let slot = walked_alone entered (map_no_child f.gathered hops lp.c lt c.if-from-to.false) in
    (f, (lp.invariant.1.0, walked_next lp.invariant.1.0 c.next_bit-c-in-loop-c.ensures slot))

pub returns : goal.returns
returns t c =
    let f = c.loop-c.invariant.0 in
    rw (map-slots f) (walked_all c.loop-c.invariant.1.1 c.loop-c-test.false)
