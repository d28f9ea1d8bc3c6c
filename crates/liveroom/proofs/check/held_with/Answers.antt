-- `check::held_with` counts what the route brings beside its neighbours, and what the next record then brings. Assumes nothing.
use Prim.Native.Nat.{◌<◌}
use native.Mathlib.Omega.{arith}
use Rattle.liveroom.proofs.Holding.{with_end, gone-small, with_next, record_short, prior_short, held_small}
use Rattle.liveroom.proofs.check.held_with.Goals as goal

pub brought_at-requires : goal.brought_at-requires
brought_at-requires c =
    let a = c.args in
    let pre = c.requires in
    (omega arith, (omega arith, prior_short a.room.now a.n a.at pre.table.0 (omega arith)))

pub overflow_add-with : goal.overflow_add-with
overflow_add-with c =
    let a = c.args in
    let pre = c.requires in
    omega (arith, c.brought_at.ensures.1, held_small a.room.now a.n pre.table.0 (omega arith), pre.table.1)

pub returns-then-at-n : goal.returns-then-at-n
returns-then-at-n c =
    let a = c.args in
    let pre = c.requires in
    with_end a.room.now a.n a.at (omega arith) a.addr a.len a.held _ pre.table.0 pre.table_2 pre.table.1 c.brought_at.ensures.0 (omega arith)

pub brought-requires : goal.brought-requires
brought-requires c =
    let below : c.args.at < c.args.n = let pre = c.requires in omega (arith, c.if-at-n.false) in
    let a = c.args in
    let pre = c.requires in
    let lt : a.at < a.n = below in
    (omega (arith, c.len_in-next_len.ensures, record_short a.room.now a.n a.at pre.table.0 lt), omega arith)

pub overflow_add-result : goal.overflow_add-result
overflow_add-result c =
    let a = c.args in
    let pre = c.requires in
    omega (arith, c.brought.ensures.1, c.brought_at.ensures.1, held_small a.room.now a.n pre.table.0 (omega arith), pre.table.1)

pub brought_at-requires-2 : goal.brought_at-requires-2
brought_at-requires-2 c =
    let below : c.args.at < c.args.n = let pre = c.requires in omega (arith, c.if-at-n.false) in
    let a = c.args in
    let pre = c.requires in
    let lt : a.at < a.n = below in (
      omega arith,
      (
        omega (arith, c.len_in-next_len.ensures, record_short a.room.now a.n a.at pre.table.0 lt),
        prior_short a.room.now a.n a.at pre.table.0 (omega arith),
      ),
    )

pub overflow_sub-result : goal.overflow_sub-result
overflow_sub-result c =
    let below : c.args.at < c.args.n = let pre = c.requires in omega (arith, c.if-at-n.false) in
    let a = c.args in
    let pre = c.requires in
    gone-small a.room.now a.n a.at (omega arith) a.addr a.len a.held _ pre.table.0 pre.table_2 pre.table.1
    c.brought_at.ensures.0 below _ _ _ _ c.addr_in-next_addr.ensures c.len_in-next_len.ensures c.brought.ensures.0
    c.brought_at-2.ensures.0

pub returns : goal.returns
returns c =
    let below : c.args.at < c.args.n = let pre = c.requires in omega (arith, c.if-at-n.false) in
    let a = c.args in
    let pre = c.requires in
    with_next a.room.now a.n a.at (omega arith) a.addr a.len a.held _ pre.table.0 pre.table_2 pre.table.1
    c.brought_at.ensures.0 below _ _ _ _ c.addr_in-next_addr.ensures c.len_in-next_len.ensures c.brought.ensures.0
    c.brought_at-2.ensures.0
