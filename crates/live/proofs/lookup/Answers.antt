-- `lookup` replies with the longest match in a live map, and refuses any other room. Assumes nothing.
use mathlib.Core.Bool.{true}
use mathlib.Core.Path.{◌≡◌}
use native.Mathlib.Omega.{arith}
use Rattle.liveroom.specs.Rooms.{shown, live, Words}
use Rattle.liveroom.proofs.Holding.{held-live, held_dead}
use Rattle.liveroom.proofs.Sound.{Live, live_is}
use Rattle.live.proofs.Calling.{table_from, in_range}
use Rattle.live.proofs.Replies.{looks_dead, looks-past}
use Rattle.live.proofs.lookup.Goals as goal

pub returns-then-nodes_held-eq0 : goal.returns-then-nodes_held-eq0
returns-then-nodes_held-eq0 c =
    let a = c.args in
    rw c.at.ensures (looks_dead a.room.now a.address (held_dead a.room.now _ c.nodes_held.ensures c.if-nodes_held-eq0.true))

pub bounds-room-1 : goal.bounds-room-1
bounds-room-1 c =
    let is_live_room : live c.args.room.now ≡ true = (held-live c.args.room.now _ c.nodes_held.ensures c.if-nodes_held-eq0.false).0 in
    let alive : Live c.args.room.now = live_is c.args.room.now is_live_room in
    let l = alive in omega (arith, l.holds)

pub overflow_cast-room : goal.overflow_cast-room
overflow_cast-room c = omega (arith, c.type_inv.room 1)

pub longest_in-requires : goal.longest_in-requires
longest_in-requires c =
    let is_live_room : live c.args.room.now ≡ true = (held-live c.args.room.now _ c.nodes_held.ensures c.if-nodes_held-eq0.false).0 in
    let alive : Live c.args.room.now = live_is c.args.room.now is_live_room in
    let l = alive in
    let room = c.args.room.now in
    let words : Words room = λ k. (c.shared_slice_known-1.given k).fits in
    (l.holds, (table_from room words l, in_range room words l))

pub returns : goal.returns
unfolding shown
returns c =
    let is_live_room : live c.args.room.now ≡ true = (held-live c.args.room.now _ c.nodes_held.ensures c.if-nodes_held-eq0.false).0 in
    let a = c.args in
    looks-past a.room.now a.address _ is_live_room c.longest_in.ensures
