-- What the replies mean, as facts: which rooms hold the map of which routes, and the conditions for a refusal, each by its number; the index is 0. No
-- contract cites these; theorems of proofs/ say that the replies are these facts.
use Rattle.std.specs.Prelude.{ℕ, ◌-◌, ◌%◌, ◌^◌, ◌≤◌, ◌<◌, ◌≡◌, true, false, List, length}
use Rattle.theory.specs.Routes.{Route}
use Rattle.records.specs.declared.Form.{Form}
use Rattle.table.specs.Conditions.{Lawful}
use Rattle.nodecount.specs.Nodes.{nodes}
use Rattle.liveroom.specs.Rooms.{stored, shown, fit}
use Rattle.live.specs.Tables.{putting}

-- The room holds the map of the routes t: they are such as an accepted map's table has, their nodes fit, and the room is as if they had been stored in it.
pub record HoldsMap (room : List ℕ) (t : List Route) : Type 0 where
  pub lawful : Lawful false t
  pub fits : nodes 32 t ≤ fit room
  pub is : room ≡ stored t room

-- The room holds a live map.
abbrev pub Holding : List ℕ → Type 0
Holding room = (t : List Route) × HoldsMap room t

-- ---- The conditions for a refusal.

-- Of making an empty map. 10: the room has fewer than 160 words.
pub data MakeCondition (room : List ℕ) : ℕ → ℕ → Type 0 where
  short_room : length room < 160 → MakeCondition room 10 0

-- Of a lookup. 18: the room holds no live map.
pub data LookCondition (room : List ℕ) : ℕ → ℕ → Type 0 where
  no_map : (Holding room → ⊥) → LookCondition room 18 0

-- Of a take. 18, as before. 5: the length is above 32. 6: under the strict choice, host bits are set.
pub data TakeCondition (room : List ℕ) (form : Form) (a l : ℕ) : ℕ → ℕ → Type 0 where
  of_room : {n i : ℕ} → LookCondition room n i → TakeCondition room form a l n i
  too_long : 32 < l → TakeCondition room form a l 5 0
  host_bits : form.strict ≡ true → (a % 2 ^ (32 - l) ≡ 0 → ⊥) → TakeCondition room form a l 6 0

-- Of a put. 18, 5 and 6, as before. 7: the hop is above 63. 17: there would be more than 1,024 records. 10: there would be more nodes than fit.
pub data PutCondition (room : List ℕ) (form : Form) (a l h : ℕ) : ℕ → ℕ → Type 0 where
  of_prefix : {n i : ℕ} → TakeCondition room form a l n i → PutCondition room form a l h n i
  bad_hop : 63 < h → PutCondition room form a l h 7 0
  too_many : 1024 < length (putting (shown room) a l h) → PutCondition room form a l h 17 0
  too_wide : fit room < nodes 32 (putting (shown room) a l h) → PutCondition room form a l h 10 0
