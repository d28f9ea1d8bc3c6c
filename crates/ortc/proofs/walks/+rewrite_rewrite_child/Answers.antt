-- `ortc::walks::rewrite` and `rewrite_child` meet their contracts: one cycle of calls, by falling bits below the node. The loop's invariant: the node
-- is opened, and its slots before c are walked. Assumes nothing.
use Prim.Native.Nat.{◌+◌, ◌-◌, ◌*◌, ◌≤◌, ◌<◌}
use mathlib.Core.Path.{◌≡◌, refl, sym}
use lib.ListN.{get_or, get_or-replicate}
use native.Mathlib.Omega.{arith}
use borrow.Author.Rules.{rules}
use borrow.Fn.PlainCycle.{is}
use Rattle.theory.specs.Ranks.{lowest}
use Rattle.theory.proofs.Ranks.{lowest_chooses}
use Rattle.positions.specs.Runs.{place_at}
use Rattle.nodes.specs.Node.{slot_size}
use Rattle.gather.proofs.GatherLaws.{ends_in, absent, child_node}
use Rattle.nodes.proofs.OutputLaws.{wrote_count}
use Rattle.nodes.proofs.OutputWalk.{relaid, Begun, begun, begun_few, walked_child}
use Rattle.ortc.proofs.RewriteLaws.{sets-stored, slot_rewrite, opened_most, opened, walking_start, walking_on, child_stored, ahead_child, walking_end, leaf_rewrite}
use Rattle.ortc.proofs.walks.+rewrite_rewrite_child.Goals as goal

pub rewrite-gather_run-g-requires : goal.rewrite-gather_run-g-requires
rewrite-gather_run-g-requires t c = record { node = c.requires.node; first_len = (refl, refl); by_index = λ b lt. (get_or-replicate 63 b 0 0 lt, get_or-replicate 63 b 0 0 lt) }

pub rewrite-covering_hops-covering-requires : goal.rewrite-covering_hops-covering-requires
rewrite-covering_hops-covering-requires t c =
    let found = c.gather_run-g.ensures.gathered in
    let n = c.requires.node in record { by_index = ends_in n found; by_index_2 = absent found; size = n.sized }

pub rewrite-assign_nodes-node-requires : goal.rewrite-assign_nodes-node-requires
rewrite-assign_nodes-node-requires t c =
    let pre = c.requires in
    let s = sets-stored pre.node pre.stored in record { by_index = (s.0, s.2); above_le_no_hop = pre.inherited_le_no_hop.1.1 }

pub rewrite-loop-c-init : goal.rewrite-loop-c-init
rewrite-loop-c-init t c =
    let pre = c.requires in
    let low = pre.inherited_le_no_hop in
    let s = sets-stored pre.node pre.stored in
    let found = c.gather_run-g in
    let does = c.assign_nodes-node.ensures in
    let begins = c.head_slots in
    let leaves = c.leaf_slots in
    let o =
    opened _ (lowest_chooses _) pre.node found.ensures.gathered _ _ _ low.0 low.1.0 low.1.1 found.result.occupied begins.result leaves.result pre.stored c.covering_hops-covering.ensures (does.by_index_3 _ _ _ s.0 s.1 s.2) does.by_index_4
    found.ensures.occupied begins.ensures leaves.ensures in
    (o, walking_on o c.next_bit-c.ensures (walking_start o _ _ does.by_index_2))

pub rewrite-slot_key-slot-requires : goal.rewrite-slot_key-slot-requires
rewrite-slot_key-slot-requires t c =
    let n = c.loop-c.invariant.0.node in
    (c.loop-c-test.true, n.at)

pub rewrite-emit_slot-n-requires : goal.rewrite-emit_slot-n-requires
rewrite-emit_slot-n-requires t c =
    let n = c.loop-c.invariant.0.node in
    let lt = c.loop-c-test.true in
    (lt, (n.at.deep, n.sized))

pub rewrite-overflow_add-n : goal.rewrite-overflow_add-n
rewrite-overflow_add-n t c =
    let started : let a = c.args in let found = c.gather_run-g.new in let covering = c.covering_hops-covering.result in let node = c.assign_nodes-node.result in let l = c.loop-c in Begun a.size node.entries node.hops a.depth (a.key * 2) (slot_rewrite (lowest a.ranks.now) a.size a.table.now found.first found.end covering node.hops a.depth (a.key * 2) a.fill) l.c (l.n + c.emit_slot-n.result) a.out.now (relaid c.past_sized-here.result c.emit_slot-n.new.out l.out) = begun c.loop-c.invariant.1.walked c.loop-c-test.true (c.past_sized-here.ensures.upper_bound, c.past_sized-here.ensures.value) c.slot_key-slot.ensures.value c.emit_slot-n.ensures c.out-1.given.1 in
    let few = begun_few started in
    let most = opened_most c.loop-c.invariant.0 (lowest_chooses c.args.ranks.now) in
    omega (arith, c.well_formed)

pub rewrite-overflow_add-depth : goal.rewrite-overflow_add-depth
rewrite-overflow_add-depth t c = let deep = c.loop-c.invariant.0.node.at.deep in search rules

pub rewrite-rewrite_child-child-requires : goal.rewrite-rewrite_child-child-requires
rewrite-rewrite_child-child-requires t c =
    let place : let a = c.args in let found = c.gather_run-g.new in let l = c.loop-c in get_or found.first (31 + l.c) 0 < get_or found.end (31 + l.c) 0 → c.slot_key-slot.result * 2 ≡ place_at (slot_size a.depth) (a.key * 2) 5 l.c = λ has. let l = c.loop-c in let child = child_node l.invariant.0.node l.invariant.0.gathered l.c c.loop-c-test.true has in c.slot_key-slot.ensures.result_value (omega (arith, child.at.deep)) in
    let l = c.loop-c in
    let o = l.invariant.0 in
    let lt = c.loop-c-test.true in (
      omega (arith, c.decreases, o.node.within_reach),
      (
        λ has. rw (place has) (child_node o.node o.gathered l.c lt has),
        (
          omega (arith, o.node.at.deep),
          (
            (o.covers_low l.c lt, (c.requires.inherited_le_no_hop.1.0, o.hops-low l.c lt)),
            (
              λ has. rw (place has) (child_stored o l.c lt l.invariant.1.ahead has),
              o.node.sized,
            ),
          ),
        ),
      ),
    )

pub rewrite-overflow_add-n-in-loop-c : goal.rewrite-overflow_add-n-in-loop-c
rewrite-overflow_add-n-in-loop-c t c =
    let started : let a = c.args in let found = c.gather_run-g.new in let covering = c.covering_hops-covering.result in let node = c.assign_nodes-node.result in let l = c.loop-c in Begun a.size node.entries node.hops a.depth (a.key * 2) (slot_rewrite (lowest a.ranks.now) a.size a.table.now found.first found.end covering node.hops a.depth (a.key * 2) a.fill) l.c (l.n + c.emit_slot-n.result) a.out.now (relaid c.past_sized-here.result c.emit_slot-n.new.out l.out) = begun c.loop-c.invariant.1.walked c.loop-c-test.true (c.past_sized-here.ensures.upper_bound, c.past_sized-here.ensures.value) c.slot_key-slot.ensures.value c.emit_slot-n.ensures c.out-1.given.1 in
    let place : let a = c.args in let found = c.gather_run-g.new in let l = c.loop-c in get_or found.first (31 + l.c) 0 < get_or found.end (31 + l.c) 0 → c.slot_key-slot.result * 2 ≡ place_at (slot_size a.depth) (a.key * 2) 5 l.c = λ has. let l = c.loop-c in let child = child_node l.invariant.0.node l.invariant.0.gathered l.c c.loop-c-test.true has in c.slot_key-slot.ensures.result_value (omega (arith, child.at.deep)) in
    let few = begun_few started in
    let own = wrote_count (c.rewrite_child-child.ensures.by_index _ (sym c.slot_key-slot.ensures.value) (λ has. sym (place has))) in
    let most = opened_most c.loop-c.invariant.0 (lowest_chooses c.args.ranks.now) in
    omega (arith, c.well_formed)

pub rewrite-loop-c-smaller : goal.rewrite-loop-c-smaller
rewrite-loop-c-smaller t c = omega (arith, c.next_bit-c-in-loop-c.ensures.low)

pub rewrite-loop-c-preserved : goal.rewrite-loop-c-preserved
rewrite-loop-c-preserved t c =
    let started : let a = c.args in let found = c.gather_run-g.new in let covering = c.covering_hops-covering.result in let node = c.assign_nodes-node.result in let l = c.loop-c in Begun a.size node.entries node.hops a.depth (a.key * 2) (slot_rewrite (lowest a.ranks.now) a.size a.table.now found.first found.end covering node.hops a.depth (a.key * 2) a.fill) l.c (l.n + c.emit_slot-n.result) a.out.now (relaid c.past_sized-here.result c.emit_slot-n.new.out l.out) = begun c.loop-c.invariant.1.walked c.loop-c-test.true (c.past_sized-here.ensures.upper_bound, c.past_sized-here.ensures.value) c.slot_key-slot.ensures.value c.emit_slot-n.ensures c.out-1.given.1 in
    let place : let a = c.args in let found = c.gather_run-g.new in let l = c.loop-c in get_or found.first (31 + l.c) 0 < get_or found.end (31 + l.c) 0 → c.slot_key-slot.result * 2 ≡ place_at (slot_size a.depth) (a.key * 2) 5 l.c = λ has. let l = c.loop-c in let child = child_node l.invariant.0.node l.invariant.0.gathered l.c c.loop-c-test.true has in c.slot_key-slot.ensures.result_value (omega (arith, child.at.deep)) in
    let l = c.loop-c in
    let lt = c.loop-c-test.true in
    let o = l.invariant.0 in
    let does = c.rewrite_child-child.ensures in (
      o,
      walking_on o c.next_bit-c-in-loop-c.ensures
          (record {
            walked = walked_child started (c.past_sized-here-in-loop-c.ensures.upper_bound, c.past_sized-here-in-loop-c.ensures.value) (does.by_index _ (sym c.slot_key-slot.ensures.value) (λ has. sym (place has))) c.out-in-loop-c-1.given.1;
            ahead = ahead_child o l.c lt l.invariant.1.ahead does.top_value (λ has. rw (place has) at (does.top_value_2 has));
          }),
    )

pub rewrite-shape_of-out : goal.rewrite-shape_of-out
rewrite-shape_of-out t c = c.loop-c.invariant.1.walked.sized

pub rewrite-returns : goal.rewrite-returns
rewrite-returns t c =
    let e = walking_end c.loop-c.invariant.0 c.loop-c.invariant.1 c.loop-c-test.false in
    record { by_index = e.0; wrote = e.1 }

pub rewrite_child-rewrite-requires : goal.rewrite_child-rewrite-requires
rewrite_child-rewrite-requires t c =
    let pre = c.requires in
    let has = c.if-lo-hi.true in (omega (arith, c.decreases), (pre.node has, (pre.covering_le_no_hop, pre.stored has)))

pub rewrite_child-returns-then-lo-hi : goal.rewrite_child-returns-then-lo-hi
rewrite_child-returns-then-lo-hi t c =
    let r = c.rewrite.ensures in record { top_value = λ le. absurd (omega (arith, c.if-lo-hi.true)); top_value_2 = λ has. r.by_index; by_index = λ a half is. rw (is c.if-lo-hi.true) r.wrote }

pub rewrite_child-emit-count-requires : goal.rewrite_child-emit-count-requires
rewrite_child-emit-count-requires t c =
    let pre = c.requires in
    (omega (arith, pre.depth_le_wide), pre.size)

pub rewrite_child-returns : goal.rewrite_child-returns
rewrite_child-returns t c =
    let p = c.args in
    let low = c.requires.covering_le_no_hop in
    let v = c.leaf_value in
    let none : p.hi ≤ p.lo = omega arith in record { top_value = λ le. refl; top_value_2 = λ has. absurd (omega arith); by_index = λ a half is. rw (leaf_rewrite (lowest p.ranks.now) (lowest_chooses p.ranks.now) p.size p.table.now p.lo p.hi p.depth a p.covering p.fill v.result p.above none c.requires.depth_le_wide (v.ensures.upper_bound low.0 low.1.0) low.1.1 v.ensures.result_value) (c.emit-count.ensures a half) }
