-- What a push of a candidate set asks and what it leaves: a bit more in the writer's mask, and the set's two words laid below its top if it is stored.
use Rattle.std.specs.Prelude.{ℕ, ◌+◌, ◌*◌, ◌/◌, ◌%◌, ◌^◌, ◌≤◌, ◌<◌, Bool, true, cond, ◌≡◌, List, [], ◌∷◌}
use Rattle.nodes.specs.Room.{Pushed}
use Rattle.writer.specs.declared.NodeWriter.{NodeWriter}

-- The low and the high half of a 64-bit word.
abbrev pub low : ℕ → ℕ
low x = x % 4294967296

abbrev pub high : ℕ → ℕ
high x = x / 4294967296

-- The words of a position's set: none if it is not stored.
abbrev pub stored_words : Bool → ℕ → List ℕ
stored_words stored x = cond stored (low x ∷ high x ∷ []) []

-- What a push asks: the mask has room for a bit more, and there are two words below the top for a set that is stored.
pub record MayPush (w : NodeWriter) (size : ℕ) (stored : Bool) : Type 0 where
  pub bit : w.mask * 2 + 1 < 2 ^ 32
  pub two : stored ≡ true → 2 ≤ w.top
  pub within : stored ≡ true → w.top ≤ size

-- What a push leaves of the writer w and the room o: the writer w' and the room o'.
pub record DidPush (w : NodeWriter) (stored : Bool) (x : ℕ) (w' : NodeWriter) (o o' : List ℕ) : Type 0 where
  pub marked : w'.mask ≡ w.mask * 2 + cond stored 1 0
  pub laid : Pushed (stored_words stored x) w.top w'.top o o'
