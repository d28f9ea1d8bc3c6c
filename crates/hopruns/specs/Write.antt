-- What a push of a position's run asks and what it leaves: a bit more in the writer's mask, and the run laid with its length below the writer's top.
use Rattle.std.specs.Prelude.{ℕ, ◌+◌, ◌*◌, ◌^◌, ◌≤◌, ◌<◌, ◌≡◌, cond, List, length}
use Rattle.std.proofs.Math.Seq.{slice}
use Rattle.nodes.specs.Room.{Pushed}
use Rattle.hopruns.specs.declared.room.NodeWriter.{NodeWriter}
use Rattle.hopruns.specs.Runs.{Run, combined}
use Rattle.hopruns.specs.Packed.{is_some, stored_run}

-- What a push asks of the room o: the mask has room for a bit more, two runs stand above the writer's words, and there is room below these for the run
-- of `size` hops that combines the two, and for its length.
pub record MayPush (w : NodeWriter) (o : List ℕ) (a e b f size : ℕ) : Type 0 where
  pub bit : w.mask * 2 + 1 < 2 ^ 32
  pub left : Run o a e
  pub right : Run o b f
  pub under_left : w.top ≤ a
  pub under_right : w.top ≤ b
  pub sized : size ≡ length (combined (slice a e o) (slice b f o))
  pub room : 0 < size → size < w.top

-- What a push of a run leaves of the writer w and the room o: the writer w' and the room o'.
pub record DidPush (w : NodeWriter) (run : List ℕ) (w' : NodeWriter) (o o' : List ℕ) : Type 0 where
  pub marked : w'.mask ≡ w.mask * 2 + cond (is_some run) 1 0
  pub laid : Pushed (stored_run run) w.top w'.top o o'
