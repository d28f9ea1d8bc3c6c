-- The rules 3 to 8 over the size of a record, 8 bytes or 16, as tests, by document 01's numbers: addresses have 4 * size bits, and the bytes behind the
-- hop are zero. `strict` says that a record with host bits is refused.
use Rattle.std.specs.Prelude.{ℕ, zero, suc, ◌+◌, ◌-◌, ◌*◌, ◌%◌, Bool, true, cond, not, ◌||◌, ◌&&◌, List, [], ◌∷◌, ◌++◌, leb, ltb, eqb, length}
use Rattle.theory.specs.Routes.{Route}
use Rattle.words.specs.Prefix.{host_clear}
use Rattle.refusals.specs.Rules.{Rule, rule}
use Rattle.records.specs.Sized.{octets_in, width_in, byte_in, clear, raw_in, route_in, records_in}

-- The largest hop: 0 in a set, 63 in a map.
abbrev pub top_hop : Bool → ℕ
top_hop is_set = cond is_set 0 63

-- No host bits are set, where the choice is strict.
abbrev pub host_kept_in : ℕ → Bool → List ℕ → ℕ → Bool
host_kept_in size strict t i = not strict || host_clear (width_in size) (raw_in size t i).addr (raw_in size t i).len

-- The byte after the length is a hop, and those behind it are zero.
abbrev pub tail_kept_in : ℕ → Bool → List ℕ → ℕ → Bool
tail_kept_in size is_set t i = leb (byte_in size t i (octets_in size + 1)) (top_hop is_set) && clear t (size * i + (octets_in size + 2)) (octets_in size - 2)

-- One route stands strictly before another: by address, then by length.
abbrev pub before : Route → Route → Bool
before r s = ltb r.addr s.addr || (eqb r.addr s.addr && ltb r.len s.len)

-- Record i stands strictly after the one before it, if there is one.
abbrev pub in_order_in : ℕ → List ℕ → ℕ → Bool
in_order_in size t zero = true
in_order_in size t (suc i) = before (route_in size t i) (route_in size t (suc i))

-- Rules 5 to 8 for record i. Number 8 is judged on addresses without host bits.
unfoldable pub record_rules_in : ℕ → Bool → Bool → List ℕ → ℕ → List Rule
record_rules_in size strict is_set t i =
    rule 5 i (leb (route_in size t i).len (width_in size))
    ∷ rule 6 i (host_kept_in size strict t i)
    ∷ rule 7 i (tail_kept_in size is_set t i)
    ∷ rule 8 i (in_order_in size t i)
    ∷ []

-- The same for k records from record i on, record by record.
unfoldable pub rules_from_in : ℕ → Bool → Bool → List ℕ → ℕ → ℕ → List Rule
rules_from_in size strict is_set t i zero = []
rules_from_in size strict is_set t i (suc k) = record_rules_in size strict is_set t i ++ rules_from_in size strict is_set t (suc i) k

-- Rules 3 to 8 for a table, of a set or of a map.
unfoldable pub table_rules_in : ℕ → Bool → Bool → List ℕ → List Rule
table_rules_in size strict is_set t =
    rule 3 0 (eqb (length t % size) 0)
    ∷ rule 4 0 (leb (records_in size t) 1024)
    ∷ rules_from_in size strict is_set t 0 (records_in size t)
