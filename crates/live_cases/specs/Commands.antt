-- Commands on a live map: what each answers and leaves in the room, and the lines of one after another.
use Rattle.std.specs.Prelude.{ℕ, zero, suc, ◌+◌, ◌*◌, ◌%◌, ◌^◌, Bool, true, false, cond, List, [], ◌++◌, eqb, leb, ltb, length, get_or, set, not, Ok, Err}
use Rattle.std.specs.Int.Bits.{bit_xor}
use Rattle.refusals.specs.Rules.{Reply}
use Rattle.records.specs.Wire.{join}
use Rattle.liveroom.specs.Rooms.{shown}
use Rattle.live.specs.Tables.{putting, taking}
use Rattle.live.specs.Calls.{Taken, left_by, make_reply, put_reply, take_reply, look_reply}
use Rattle.live_cases.specs.declared.Command.{Command}
use Rattle.live_cases.specs.Lines.{kept_line, look_line, flipped_line, unknown_line}

-- A command of its first byte, which says what is to be done, with 128 more under the strict choice, and of its hop, length or bit, and address or word.
abbrev pub command_of : ℕ → ℕ → ℕ → ℕ → Command
command_of first hop len address =
    record { order = first % 128; form = record { strict = leb 128 first; long = false }; hop = hop; len = len; address = address }

-- Command i: each has 8 bytes. Bytes 1 and 2 are the hop, byte 3 the length or the bit, bytes 4 to 7 the address or the word.
unfoldable pub command_at : List ℕ → ℕ → Command
command_at cs i =
    command_of (get_or cs (8 * i) 0) (get_or cs (8 * i + 1) 0 * 256 + get_or cs (8 * i + 2) 0) (get_or cs (8 * i + 3) 0)
    (join (get_or cs (8 * i + 4) 0) (get_or cs (8 * i + 5) 0) (get_or cs (8 * i + 6) 0) (get_or cs (8 * i + 7) 0))

-- ---- One command.

-- A room with a bit of a word flipped; past the room, nothing.
unfoldable pub flipped : List ℕ → ℕ → ℕ → List ℕ
flipped room i bit = cond (ltb i (length room)) (set room i (bit_xor (get_or room i 0) (2 ^ (bit % 32)))) room

-- 0 make, 1 put, 2 take: the reply, and the room then.
unfoldable pub change_reply : Command → List ℕ → Reply Bool
change_reply c room =
    cond (eqb c.order 0) (make_reply room)
    (cond (eqb c.order 1) (put_reply room c.form c.address c.len c.hop)
    (take_reply room c.form c.address c.len))

unfoldable pub change_left : Command → List ℕ → List ℕ
change_left c room =
    cond (eqb c.order 0) (left_by (make_reply room) [] room)
    (cond (eqb c.order 1) (left_by (put_reply room c.form c.address c.len c.hop) (putting (shown room) c.address c.len c.hop) room)
    (left_by (take_reply room c.form c.address c.len) (taking (shown room) c.address c.len) room))

-- Does the call leave the room as it was, by its answer?
abbrev pub stays : Taken → Bool
stays (Ok changed) = not changed
stays (Err refusal) = true

-- Any command: 3 lookup, 4 flip a bit, above 4 nothing. Its line, and the room then.
unfoldable pub line_of : Command → List ℕ → List ℕ
line_of c room =
    cond (ltb 4 c.order) unknown_line
    (cond (eqb c.order 4) flipped_line
    (cond (eqb c.order 3) (look_line (look_reply room c.address))
    (kept_line (change_reply c room))))

unfoldable pub left_of : Command → List ℕ → List ℕ
left_of c room =
    cond (ltb 4 c.order) room
    (cond (eqb c.order 4) (flipped room c.address c.len)
    (cond (eqb c.order 3) room
    (change_left c room)))

-- ---- The first n commands, on a room.

-- The room after them.
unfoldable pub left_after : List ℕ → ℕ → List ℕ → List ℕ
left_after cs zero room = room
left_after cs (suc n) room = left_of (command_at cs n) (left_after cs n room)

-- Their lines.
unfoldable pub lines_of : List ℕ → ℕ → List ℕ → List ℕ
lines_of cs zero room = []
lines_of cs (suc n) room = lines_of cs n room ++ line_of (command_at cs n) (left_after cs n room)
