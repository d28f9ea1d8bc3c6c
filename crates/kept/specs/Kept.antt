-- What a case of the program replay says in its first bytes (docs/CASES.md), and where the text of its answer is kept in the buffer.
use Rattle.std.specs.Prelude.{ℕ, ◌+◌, ◌*◌, ◌%◌, ◌<◌, ◌≡◌, Bool, cond, List, leb, ltb, eqb, not, ◌&&◌, get_or, Result, MatchResult}
use Rattle.records.specs.Wire.{join}
use Rattle.records.specs.Sized.{number}
use Rattle.records.specs.declared.Form.{Form}
use Rattle.kept.specs.declared.call.Call.{Call}
use Rattle.kept.specs.declared.call.Call.TheVariants as call
use Rattle.kept.specs.declared.ending.Fault.{Fault}
use Rattle.kept.specs.declared.ending.Fault.TheVariants.{NoSuchCall}

-- ---- A case: its first 16 bytes, the query of 8 bytes where addresses have 64 bits, the ranks that it lends, and the table.

-- Byte k.
abbrev pub byte : List ℕ → ℕ → ℕ
byte head k = get_or head k 0

-- The call, whether addresses have 64 bits, whether ranks are lent, and how the table is read: byte 0 is the number of the call, 32 more where addresses
-- have 64 bits, 64 more where ranks are lent, and 128 more under the strict choice.
abbrev pub call_by : ℕ → ℕ
call_by first = first % 32

-- The number of a call.
abbrev pub call_number : Call → ℕ
call_number call.Rewrite = 0
call_number call.Covers = 1
call_number call.Lookup = 2
call_number call.AddressesHeld = 3
call_number call.Unrouted = 4
call_number call.Plain = 5
call_number call.Load = 6
call_number call.CheckPlan = 7
call_number call.Plan = 8
call_number call.SpecialUse = 9
call_number call.Live = 10

-- The number is this call's, or none's.
abbrev pub Calls : ℕ → Result Call Fault → Type 0
Calls number r = MatchResult r (λ call. call_number call ≡ number) (λ fault. (fault ≡ NoSuchCall) × (10 < number))

-- The call that the first byte of a case names.
abbrev pub CalledBy : ℕ → Result Call Fault → Type 0
CalledBy first r = Calls (call_by first) r

-- Does the call take addresses of 64 bits?
abbrev pub takes_long : ℕ → Bool
takes_long call = ltb call 6 && not (eqb call 3)

-- Have the addresses of a case 64 bits?
abbrev pub is_long : ℕ → Bool
is_long first = leb 32 (first % 64)

abbrev pub lends_ranks : ℕ → Bool
lends_ranks first = leb 64 (first % 128)

abbrev pub form_by : ℕ → Form
form_by first = record { strict = leb 128 first; long = is_long first }

-- The query's address: the eight bytes of the query, or four of the first bytes.
unfoldable pub address_of : List ℕ → List ℕ → ℕ
address_of head query = cond (is_long (byte head 0)) (number query 0 8) (join (byte head 4) (byte head 5) (byte head 6) (byte head 7))

-- The words of work room that are lent.
abbrev pub words_of : List ℕ → ℕ
words_of head = join (byte head 8) (byte head 9) (byte head 10) (byte head 11)

-- The bytes of output that are lent.
abbrev pub room_of : List ℕ → ℕ
room_of head = byte head 12 * 256 + byte head 13

-- ---- Where it is kept.

-- Behind the text that is kept up to `at`, or from the buffer's start once there is so much that it was written out.
unfoldable pub begin_of : ℕ → ℕ
begin_of at = cond (leb at 65503) at 0
