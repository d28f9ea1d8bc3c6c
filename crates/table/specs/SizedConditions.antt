-- What the rules 3 to 8 mean over the size of a record, as facts: the conditions for a table's refusal, each by its number and, for 5 to 8, its record's
-- index (else 0), and what an accepted table keeps. `strict` says that a record with host bits is refused. No contract cites these; theorems of proofs/
-- say that the replies are these facts.
use Prim.{Unit}
use Rattle.std.specs.Prelude.{ℕ, zero, suc, ◌+◌, ◌-◌, ◌%◌, ◌^◌, ◌≤◌, ◌<◌, ◌≡◌, Bool, true, List, length}
use Rattle.theory.specs.Routes.{Route, All, Before, Table}
use Rattle.records.specs.Sized.{octets_in, width_in, byte_in, raw_in, route_in, records_in, RestZero}
use Rattle.table.specs.SizedRules.{top_hop}

-- ---- Of record i.

-- 5: the length is at most the width.
abbrev pub LengthKeptIn : ℕ → List ℕ → ℕ → Type 0
LengthKeptIn size t i = (route_in size t i).len ≤ width_in size

-- No host bits are set.
abbrev pub HostClearIn : ℕ → List ℕ → ℕ → Type 0
HostClearIn size t i = (raw_in size t i).addr % 2 ^ (width_in size - (raw_in size t i).len) ≡ 0

-- 6: none are, where the choice is strict.
abbrev pub HostKeptIn : ℕ → Bool → List ℕ → ℕ → Type 0
HostKeptIn size strict t i = strict ≡ true → HostClearIn size t i

-- 7: the byte after the length is a hop, and those behind it are zero.
abbrev pub TailKeptIn : ℕ → Bool → List ℕ → ℕ → Type 0
TailKeptIn size is_set t i = (byte_in size t i (octets_in size + 1) ≤ top_hop is_set) × RestZero size t i

-- 8: it stands strictly after the record before it, both without host bits.
abbrev pub OrderKeptIn : ℕ → List ℕ → ℕ → Type 0
OrderKeptIn size t zero = Unit
OrderKeptIn size t (suc i) = Before (route_in size t i) (route_in size t (suc i))

-- It keeps the four.
pub record KeptIn (size : ℕ) (strict is_set : Bool) (t : List ℕ) (i : ℕ) : Type 0 where
  pub length_kept : LengthKeptIn size t i
  pub host_kept : HostKeptIn size strict t i
  pub tail_kept : TailKeptIn size is_set t i
  pub order_kept : OrderKeptIn size t i

-- 5: its length is above the width. 6: it has host bits set, and the choice is strict. 7: a byte from the hop on is against the rule. 8: it is not strictly
-- after the one before.
pub data RecordConditionIn (size : ℕ) (strict is_set : Bool) (t : List ℕ) (i : ℕ) : ℕ → Type 0 where
  too_long : (LengthKeptIn size t i → ⊥) → RecordConditionIn size strict is_set t i 5
  host_bits : (HostKeptIn size strict t i → ⊥) → RecordConditionIn size strict is_set t i 6
  bad_tail : (TailKeptIn size is_set t i → ⊥) → RecordConditionIn size strict is_set t i 7
  not_after : (OrderKeptIn size t i → ⊥) → RecordConditionIn size strict is_set t i 8

-- ---- Of a table.

-- 3: its length is not a multiple of the size. 4: it has more than 1,024 records. 5 to 8: one of its records'.
pub data TableConditionIn (size : ℕ) (strict is_set : Bool) (t : List ℕ) : ℕ → ℕ → Type 0 where
  not_whole : (length t % size ≡ 0 → ⊥) → TableConditionIn size strict is_set t 3 0
  too_many : 1024 < records_in size t → TableConditionIn size strict is_set t 4 0
  of_record : {n i : ℕ} → i < records_in size t → RecordConditionIn size strict is_set t i n → TableConditionIn size strict is_set t n i

-- It keeps the rules 3 to 8: none of these conditions holds.
pub record AcceptedIn (size : ℕ) (strict is_set : Bool) (t : List ℕ) : Type 0 where
  pub whole : length t % size ≡ 0
  pub few : records_in size t ≤ 1024
  pub each : (i : ℕ) → i < records_in size t → KeptIn size strict is_set t i

-- What the routes of an accepted table keep: they are a table of the width, their hops are in range, and they are at most 1,024.
pub record LawfulIn (size : ℕ) (is_set : Bool) (rs : List Route) : Type 0 where
  pub table : Table (width_in size) rs
  pub hops : All (λ r. r.hop ≤ top_hop is_set) rs
  pub few : length rs ≤ 1024
