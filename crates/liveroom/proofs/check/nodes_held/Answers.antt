-- `check::nodes_held` tries the mark, the number of records and their room, then makes the pass. Assumes nothing.
use native.Mathlib.Omega.{arith}
use Rattle.liveroom.proofs.Holding.{held_none, too_short, pass_over, pass_held}
use Rattle.liveroom.proofs.check.nodes_held.Goals as goal

pub returns-then-size-lt160 : goal.returns-then-size-lt160
returns-then-size-lt160 c = held_none c.args.room.now (too_short c.args.room.now c.if-size-lt160.true)

pub returns-then-room-ne-MARK : goal.returns-then-room-ne-MARK
returns-then-room-ne-MARK c = held_none c.args.room.now (λ l. c.if-room-ne-MARK.true l.marked)

pub returns-then-room-gt1024 : goal.returns-then-room-gt1024
returns-then-room-gt1024 c = held_none c.args.room.now (λ l. omega (arith, c.if-room-gt1024.true, l.few))

pub returns-then-size-n : goal.returns-then-size-n
returns-then-size-n c = held_none c.args.room.now (λ l. omega (arith, c.if-size-n.true, l.holds))

pub returns-then-size-count : goal.returns-then-size-count
returns-then-size-count c =
    let room = c.args.room.now in
    held_none room (pass_over room _ c.pass-count.ensures c.if-size-count.true)

pub returns : goal.returns
returns c =
    let room = c.args.room.now in
    pass_held room _ c.if-room-ne-MARK.false c.if-room-gt1024.false c.if-size-n.false c.pass-count.ensures c.if-size-count.false
