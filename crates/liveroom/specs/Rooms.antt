-- A live map in a room of 32-bit words. Word 0 is the mark, word 1 the number of records; then come two words for each record, in table order:
-- its address, and its length times 65,536 with its hop. The words behind them are of no account.
use Rattle.std.specs.Prelude.{ℕ, zero, suc, ◌+◌, ◌*◌, ◌/◌, ◌%◌, ◌^◌, ◌<◌, Bool, true, ◌&&◌, List, [], ◌∷◌, ◌++◌, leb, eqb, length, get_or, drop}
use Rattle.theory.specs.Routes.{Route}
use Rattle.words.specs.Prefix.{host_clear}
use Rattle.table.specs.SizedRules.{before}
use Rattle.nodecount.specs.Nodes.{nodes}

-- The words of a room are below 2 ^ 32, as those of every `&[u32]` are.
abbrev pub Words : List ℕ → Type 0
Words room = (k : ℕ) → get_or room k 0 < 2 ^ 32

-- The mark: "live" in four octets.
abbrev pub mark : ℕ
mark = 1818850917

-- ---- What a room shows.

-- The route of record i.
unfoldable pub route_in : List ℕ → ℕ → Route
route_in room i =
    record { addr = get_or room (2 + 2 * i) 0; len = get_or room (3 + 2 * i) 0 / 65536; hop = get_or room (3 + 2 * i) 0 % 65536 }

-- The routes of k records from record i on.
unfoldable pub shown_from : List ℕ → ℕ → ℕ → List Route
shown_from room i zero = []
shown_from room i (suc k) = route_in room i ∷ shown_from room (suc i) k

-- The number of records, and their routes.
abbrev pub count_in : List ℕ → ℕ
count_in room = get_or room 1 0

unfoldable pub shown : List ℕ → List Route
shown room = shown_from room 0 (count_in room)

-- ---- How routes are stored.

-- Two words for each route.
unfoldable pub pairs : List Route → List ℕ
pairs [] = []
pairs (r ∷ t) = r.addr ∷ (r.len * 65536 + r.hop) ∷ pairs t

-- The words of a map.
unfoldable pub words_of : List Route → List ℕ
words_of t = mark ∷ length t ∷ pairs t

-- A room once the map of the routes t is stored in it: the words behind stay.
unfoldable pub stored : List Route → List ℕ → List ℕ
stored t room = words_of t ++ drop (length (words_of t)) room

-- ---- Which rooms hold a live map.

-- A route as a map may have it: rules 5, 6 and 7.
abbrev pub sound : Route → Bool
sound r = leb r.len 32 && (host_clear 32 r.addr r.len && leb r.hop 63)

-- Routes that are sound and in order, behind the route p.
abbrev pub after : Route → List Route → Bool
after p [] = true
after p (r ∷ t) = (before p r && sound r) && after r t

-- Routes that are sound and in order.
abbrev pub lawful : List Route → Bool
lawful [] = true
lawful (r ∷ t) = sound r && after r t

-- The nodes that fit into a room.
abbrev pub fit : List ℕ → ℕ
fit room = length room / 160

-- The room holds a live map: it has the mark, at most 1,024 records, which stand in the room, are sound and in order, and whose nodes fit.
unfoldable pub live : List ℕ → Bool
live room =
    eqb (get_or room 0 0) mark
    && (leb (count_in room) 1024
    && (leb (2 + 2 * count_in room) (length room) && (lawful (shown room) && leb (nodes 32 (shown room)) (fit room))))
