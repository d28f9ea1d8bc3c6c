-- `make_empty` writes the mark and the number of records. Assumes nothing.
use native.Mathlib.Omega.{arith}
use lib.ListN.{length-set}
use Rattle.live.proofs.Replies.{makes-short, makes_done}
use Rattle.live.proofs.make_empty.Goals as goal

pub returns-then-room-lt160 : goal.returns-then-room-lt160
returns-then-room-lt160 c = rw c.at.ensures (makes-short c.args.room.now c.if-room-lt160.true)

pub bounds-room-1 : goal.bounds-room-1
bounds-room-1 c = simp length-set (omega arith)

pub shape_of-room : goal.shape_of-room
shape_of-room c = simp length-set

pub returns : goal.returns
returns c = makes_done c.args.room.now c.if-room-lt160.false
