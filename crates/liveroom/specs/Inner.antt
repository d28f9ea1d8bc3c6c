-- What the inner functions ask and say.
use Rattle.std.specs.Prelude.{ℕ, zero, suc, ◌+◌, ◌-◌, ◌*◌, ◌/◌, ◌^◌, ◌≤◌, ◌<◌, ◌≡◌, Bool, true, false, cond, ◌&&◌, List, ◌∷◌, ◌++◌, ltb, length, get_or, take, drop}
use Rattle.theory.specs.Routes.{Route}
use Rattle.table.specs.SizedRules.{before}
use Rattle.nodecount.specs.Nodes.{nodes, bare}
use Rattle.steps.specs.Steps.{same}
use Rattle.liveroom.specs.Rooms.{route_in, shown_from, shown, live, lawful}

-- The first n records stand in the room.
abbrev pub Holds : List ℕ → ℕ → Type 0
Holds room n = 2 + 2 * n ≤ length room

-- The nodes of the map that a room holds; 0 where it holds none.
abbrev pub held_nodes : List ℕ → ℕ
held_nodes room = cond (live room) (nodes 32 (shown room)) 0

-- The nodes of n records; 0 where they are not sound and in order.
abbrev pub passed_nodes : List ℕ → ℕ → ℕ
passed_nodes room n = cond (lawful (shown_from room 0 n)) (nodes 32 (shown_from room 0 n)) 0

-- Of n records the first that does not stand before a prefix is record at; n where each does.
pub record Placed (room : List ℕ) (n addr len at : ℕ) : Type 0 where
  pub low : at ≤ n
  pub over : (k : ℕ) → k < at → before (route_in room k) (bare addr len) ≡ true
  pub stops : at < n → before (route_in room at) (bare addr len) ≡ false

-- Two addresses of 32 bits share no more than their first r bits: they are one, or differ in their first r + 1.
pub record Shared (a b r : ℕ) : Type 0 where
  pub most : r ≤ 32
  pub apart : (a ≡ b → ⊥) → (r < 32) × (a / 2 ^ (32 - (r + 1)) ≡ b / 2 ^ (32 - (r + 1)) → ⊥)

-- Has record at, of n, the prefix?
abbrev pub is_at : List ℕ → ℕ → ℕ → ℕ → ℕ → Bool
is_at room n at addr len = ltb at n && same (route_in room at).addr (route_in room at).len addr len

-- The routes of n records with one at place at, before record at.
abbrev pub with_at : List ℕ → ℕ → ℕ → Route → List Route
with_at room n at r = shown_from room 0 at ++ (r ∷ shown_from room at (n - at))

-- The prefix of the record before place at; before the first, one with no node but the root.
abbrev pub prior_at : List ℕ → ℕ → Route
prior_at room zero = bare 0 0
prior_at room (suc i) = bare (route_in room i).addr (route_in room i).len

-- A record's length and hop are in range.
abbrev pub InRange : List ℕ → ℕ → Type 0
InRange room n = (i : ℕ) → i < n → ((route_in room i).len ≤ 32) × ((route_in room i).hop ≤ 63)

-- A record written at place i.
abbrev pub written : List ℕ → ℕ → Route → List ℕ
written room i r = take (2 + 2 * i) room ++ (r.addr ∷ (r.len * 65536 + r.hop) ∷ drop (4 + 2 * i) room)

-- A room of n records with one made at place at, and with the one at place at taken away.
abbrev pub inserted : List ℕ → ℕ → ℕ → Route → List ℕ
inserted room n at r =
    get_or room 0 0
    ∷ (n + 1)
    ∷ take (2 * at) (drop 2 room)
    ++ (r.addr ∷ (r.len * 65536 + r.hop) ∷ (take (2 * (n - at)) (drop (2 + 2 * at) room) ++ drop (4 + 2 * n) room))

abbrev pub removed : List ℕ → ℕ → ℕ → List ℕ
removed room n at =
    get_or room 0 0
    ∷ (n - 1)
    ∷ take (2 * at) (drop 2 room)
    ++ (take (2 * (n - at) - 2) (drop (4 + 2 * at) room) ++ drop (2 * n) room)
