-- `flip` flips the bit, or nothing past the room. Assumes nothing.
use Rattle.live_cases.proofs.Carried.{flip_in, flip_out}
use Rattle.live_cases.proofs.flip.Goals as goal

pub returns-then-i-room : goal.returns-then-i-room
returns-then-i-room c =
    flip_in c.args.room.now c.args.place c.args.bit c.if-i-room.true

pub returns-else-i-room : goal.returns-else-i-room
returns-else-i-room c = flip_out c.args.room.now c.args.place c.args.bit c.if-i-room.false
