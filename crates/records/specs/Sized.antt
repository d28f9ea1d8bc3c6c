-- The table on the wire over the size of a record, in bytes: 8 for addresses of 32 bits, 16 for addresses of 64. The address stands in the first
-- half of a record, first octet first, then the length, the hop, and zeros.
use Rattle.std.specs.Prelude.{ℕ, zero, suc, ◌+◌, ◌-◌, ◌*◌, ◌/◌, ◌%◌, ◌≤◌, ◌<◌, ◌≡◌, Bool, true, ◌&&◌, List, [], ◌∷◌, ◌++◌, ◌⊎◌, eqb, length, get_or, take, drop, replicate}
use Rattle.theory.specs.Routes.{Route}
use Rattle.theory.specs.Results.{masked}

-- A record has 8 bytes or 16.
abbrev pub IsSize : ℕ → Type 0
IsSize size = (size ≡ 8) ⊎ (size ≡ 16)

-- The octets of an address.
abbrev pub octets_in : ℕ → ℕ
octets_in size = size / 2

-- The bits of an address.
abbrev pub width_in : ℕ → ℕ
width_in size = 4 * size

-- ---- From bytes to routes.

-- Byte k of record i.
abbrev pub byte_in : ℕ → List ℕ → ℕ → ℕ → ℕ
byte_in size t i k = get_or t (size * i + k) 0

-- n octets from byte k on as a number, the first the most significant.
unfoldable pub number : List ℕ → ℕ → ℕ → ℕ
number t k zero = 0
number t k (suc n) = number t k n * 256 + get_or t (k + n) 0

-- Are the n bytes from byte k on zero?
unfoldable pub clear : List ℕ → ℕ → ℕ → Bool
clear t k zero = true
clear t k (suc n) = eqb (get_or t k 0) 0 && clear t (suc k) n

-- Record i as its bytes have it.
unfoldable pub raw_in : ℕ → List ℕ → ℕ → Route
raw_in size t i =
    record { addr = number t (size * i) (octets_in size); len = byte_in size t i (octets_in size); hop = byte_in size t i (octets_in size + 1) }

-- The route of record i: the same without host bits.
unfoldable pub route_in : ℕ → List ℕ → ℕ → Route
route_in size t i = masked (width_in size) (raw_in size t i)

-- The routes of k records from record i on.
unfoldable pub routes_from_in : ℕ → List ℕ → ℕ → ℕ → List Route
routes_from_in size t i zero = []
routes_from_in size t i (suc k) = route_in size t i ∷ routes_from_in size t (suc i) k

-- The number of whole records.
abbrev pub records_in : ℕ → List ℕ → ℕ
records_in size t = length t / size

-- The routes of a table.
unfoldable pub routes_in : ℕ → List ℕ → List Route
routes_in size t = routes_from_in size t 0 (records_in size t)

-- Each element is a byte.
abbrev pub Bytes : List ℕ → Type 0
Bytes t = (k : ℕ) → get_or t k 0 < 256

-- The bytes of record i behind its hop are zero.
abbrev pub RestZero : ℕ → List ℕ → ℕ → Type 0
RestZero size t i = (k : ℕ) → octets_in size + 2 ≤ k → k < size → byte_in size t i k ≡ 0

-- ---- From routes to bytes.

-- A route from its parts.
abbrev pub route : ℕ → ℕ → ℕ → Route
route addr len hop = record { addr = addr; len = len; hop = hop }

-- The last n octets of a number, the first the most significant.
unfoldable pub octets_of : ℕ → ℕ → List ℕ
octets_of zero a = []
octets_of (suc n) a = octets_of n (a / 256) ++ (a % 256 ∷ [])

-- The bytes of a route's record.
unfoldable pub record_in : ℕ → Route → List ℕ
record_in size r = octets_of (octets_in size) r.addr ++ (r.len ∷ r.hop ∷ replicate (octets_in size - 2) 0)

-- The records of routes, one after another.
unfoldable pub bytes_in : ℕ → List Route → List ℕ
bytes_in size [] = []
bytes_in size (r ∷ rs) = record_in size r ++ bytes_in size rs

-- A table's bytes with the host bits masked.
abbrev pub masked_in : ℕ → List ℕ → List ℕ
masked_in size t = bytes_in size (routes_in size t)

-- A list with bytes laid over it from place k on.
unfoldable pub laid : ℕ → List ℕ → List ℕ → List ℕ
laid k bytes o = take k o ++ (bytes ++ drop (k + length bytes) o)
