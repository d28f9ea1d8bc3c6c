-- `ortc::walks::collect_sets` meets its contract: it calls itself only on a node five bits deeper. The loop's invariant: the slots from k on are
-- collected, those before have their leaves, and slot k - 1 has a record. Assumes nothing.
use Prim.Native.Nat.{◌+◌, ◌-◌, ◌/◌}
use mathlib.Core.Path.{◌≡◌, refl, ◌∙◌}
use native.Mathlib.Omega.{arith}
use lib.ListN.{get_or-replicate}
use Rattle.nodes.proofs.RoomLaws.{pushed-length}
use Rattle.gather.proofs.GatherLaws.{absent, slot_occupied, ends_in, covering_le, child_node}
use Rattle.ortc.proofs.CollectLaws.{collecting_start, collecting_within, collecting_seek, collecting_room, collecting_child, collecting_end}
use Rattle.ortc.proofs.walks.+collect_sets.Goals as goal

pub gather_run-g-requires : goal.gather_run-g-requires
gather_run-g-requires t c = record { node = c.requires.node; first_len = (refl, refl); by_index = λ b lt. (get_or-replicate 63 b 0 0 lt, get_or-replicate 63 b 0 0 lt) }

pub covering_hops-covering-requires : goal.covering_hops-covering-requires
covering_hops-covering-requires t c =
    let g = c.gather_run-g.ensures.gathered in
    let n = c.requires.node in record { by_index = ends_in n g; by_index_2 = absent g; size = n.sized }

pub loop-k-init : goal.loop-k-init
loop-k-init t c =
    let n = c.requires.node in
    let room = c.requires.hi_bound in
    let gathered = c.gather_run-g.ensures in
    let covers = c.covering_hops-covering.ensures in
    let leaves = c.leaf_sets-slots.ensures in
    let last = c.last_bit-k.ensures in (
      last.high,
      (
        last.is_set,
        collecting_seek n gathered.gathered c.args.inherited c.args.fill _ covers _ _ _ _ _ room.1 gathered.occupied last (omega arith)
            (collecting_start _ _ _ _ _ _ n room.0 leaves.result_len leaves.by_index),
      ),
    )

pub slot_key-requires : goal.slot_key-requires
slot_key-requires t c =
    let n = c.requires.node in
    (omega arith, n.at)

pub collect_sets-child-requires : goal.collect_sets-child-requires
collect_sets-child-requires t c =
    let n = c.requires.node in
    let bounds = c.requires.inherited_le_no_hop in
    let within = c.requires.hi_bound.1 in
    let gathered = c.gather_run-g.ensures in
    let g = gathered.gathered in
    let covers = c.covering_hops-covering.ensures in
    let lp = c.loop-k in
    let j = lp.k - 1 in
    let e : lp.k ≡ j + 1 = omega arith in
    let some = slot_occupied g _ gathered.occupied j (omega arith) (lp.invariant.1.0 (omega arith)) in
    let child = child_node n g j (omega arith) some in
    let here = c.slot_key.ensures.result_value (omega (arith, child.at.deep)) in
    let low = covering_le n g c.args.inherited 4 (j / 2) bounds.0 (omega arith) (omega arith) in (
      omega arith,
      (
        rw here child,
        (
          (omega (arith, covers 4 (j / 2) (omega arith) (omega arith), low, bounds.0), bounds.1),
          (
            collecting_room n g c.args.inherited c.args.fill _ covers lp.invariant.1.1 within j e lp.invariant.0 some _ here,
            (collecting_within lp.invariant.1.1 within).1.1,
          ),
        ),
      ),
    )

pub loop-k-preserved : goal.loop-k-preserved
loop-k-preserved t c =
    let n = c.requires.node in
    let within = c.requires.hi_bound.1 in
    let gathered = c.gather_run-g.ensures in
    let g = gathered.gathered in
    let covers = c.covering_hops-covering.ensures in
    let child = c.collect_sets-child.ensures in
    let lp = c.loop-k in
    let j = lp.k - 1 in
    let e : lp.k ≡ j + 1 = omega arith in
    let some = slot_occupied g _ gathered.occupied j (omega arith) (lp.invariant.1.0 (omega arith)) in
    let here = c.slot_key.ensures.result_value (omega (arith, (child_node n g j (omega arith) some).at.deep)) in
    let last = c.last_bit-k-in-loop-k.ensures in (
      omega (arith, last.high),
      (
        last.is_set,
        collecting_seek n g c.args.inherited c.args.fill _ covers _ _ _ _ _ within gathered.occupied last (omega arith)
            (collecting_child n g c.args.inherited c.args.fill _ covers lp.invariant.1.1 within j e lp.invariant.0 some _ here _ child.shows_set child.laid),
      ),
    )

pub push_sets-last-requires : goal.push_sets-last-requires
push_sets-last-requires t c =
    (collecting_within c.loop-k.invariant.1.1 c.requires.hi_bound.1).1

pub shape_of-work : goal.shape_of-work
shape_of-work t c =
    let h = collecting_within c.loop-k.invariant.1.1 c.requires.hi_bound.1 in
    pushed-length c.push_sets-last.ensures.pushed h.1.1 ∙ h.0

pub returns : goal.returns
returns t c =
    let lp = c.loop-k in
    let none : lp.k ≡ 0 = omega arith in
    let done = rw none at lp.invariant.1.1 in
    let all = c.fold_sets.ensures.by_index _ _ _ done.count (λ i lt. done.shown i (omega arith) lt) in
    let e = collecting_end c.requires.node done c.requires.hi_bound.1 all c.push_sets-last.ensures.pushed in
    record { shows_set = e.0; laid = e.1 }
