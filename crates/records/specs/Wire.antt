-- The table on the wire at records of 8 bytes, which addresses of 32 bits have: each definition is that of Sized at this size.
use Rattle.std.specs.Prelude.{ℕ, ◌+◌, ◌*◌, List}
use Rattle.theory.specs.Routes.{Route}
use Rattle.records.specs.Sized.{byte_in, raw_in, route_in, routes_from_in, records_in, routes_in, record_in, bytes_in, masked_in}

-- ---- From bytes to routes.

-- Byte k of record i.
abbrev pub byte_at : List ℕ → ℕ → ℕ → ℕ
byte_at t i k = byte_in 8 t i k

-- Four octets as a number, the first the most significant.
abbrev pub join : ℕ → ℕ → ℕ → ℕ → ℕ
join a b c d = ((a * 256 + b) * 256 + c) * 256 + d

-- Record i as its bytes have it: address in bytes 0 to 3, length in byte 4, hop in byte 5.
abbrev pub raw_at : List ℕ → ℕ → Route
raw_at t i = raw_in 8 t i

-- The route of record i: the same without host bits.
abbrev pub route_at : List ℕ → ℕ → Route
route_at t i = route_in 8 t i

-- The routes of k records from record i on.
abbrev pub routes_from : List ℕ → ℕ → ℕ → List Route
routes_from t i k = routes_from_in 8 t i k

-- The number of whole records.
abbrev pub records : List ℕ → ℕ
records t = records_in 8 t

-- The routes of a table.
abbrev pub routes : List ℕ → List Route
routes t = routes_in 8 t

-- ---- From routes to bytes.

-- The 8 bytes of a route's record.
abbrev pub record_of : Route → List ℕ
record_of r = record_in 8 r

-- The records of routes, one after another.
abbrev pub bytes_of : List Route → List ℕ
bytes_of rs = bytes_in 8 rs

-- A table's bytes with the host bits masked.
abbrev pub masked_bytes : List ℕ → List ℕ
masked_bytes t = masked_in 8 t
