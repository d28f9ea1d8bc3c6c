-- From routes to bytes and back at records of 8 bytes: the theorems of SizedWritten and SizedLaid at this size. Assumes nothing.
use mathlib.Core.Path.{◌≡◌, ap₂}
use mathlib.Core.List.{List, [], ◌∷◌, ◌++◌}
use Prim.Native.Nat.{ℕ, ◌+◌, ◌-◌, ◌*◌, ◌/◌, ◌%◌, ◌≤◌, ◌<◌}
use native.Mathlib.Omega.{arith}
use lib.ListN.{length, take, drop}
use Rattle.theory.specs.Routes.{Route, Valid, All}
use Rattle.records.specs.Wire.{routes_from, records, routes, record_of, bytes_of}
use Rattle.records.specs.Sized.{Bytes, laid, octets_of, record_in}
use Rattle.records.proofs.SizedWritten as sized
use Rattle.records.proofs.SizedLaid.{in_bytes_append, in_length_records, in_records_lent}
use Rattle.records.proofs.Reading.{eight}

-- The bytes of a route's record, one by one.
pub record_bytes : (r : Route)
    → record_of r
    ≡ r.addr / 16777216 % 256 ∷ r.addr / 65536 % 256 ∷ r.addr / 256 % 256 ∷ r.addr % 256 ∷ r.len ∷ r.hop ∷ 0 ∷ 0 ∷ []
unfolding record_in octets_of
record_bytes r =
    let a = r.addr in
    let first : a / 256 / 256 / 256 ≡ a / 16777216 = omega arith in
    let second : a / 256 / 256 ≡ a / 65536 = omega arith in
    ap₂ (λ (x y : ℕ). x % 256 ∷ y % 256 ∷ a / 256 % 256 ∷ a % 256 ∷ r.len ∷ r.hop ∷ 0 ∷ 0 ∷ []) first second

pub length-bytes : (rs : List Route) → length (bytes_of rs) ≡ 8 * length rs
length-bytes = sized.in_length_bytes 8 eight

pub records-bytes : (rs : List Route) → records (bytes_of rs) ≡ length rs
records-bytes = sized.in_records_bytes 8 eight

pub routes_front : (rs : List Route) → All (Valid 32) rs → (t : List ℕ) (k : ℕ) → routes_from (bytes_of rs ++ t) 0 (length rs + k) ≡ rs ++ routes_from t 0 k
routes_front = sized.in_routes_front 8 eight

pub routes-bytes : (rs : List Route) → All (Valid 32) rs → routes (bytes_of rs) ≡ rs
routes-bytes = sized.in_routes_bytes 8 eight

pub bytes_small : (rs : List Route) → All (Valid 32) rs → All (λ r. r.hop < 256) rs → Bytes (bytes_of rs)
bytes_small = sized.in_bytes_small 8 eight

pub bytes-append : (rs qs : List Route) → bytes_of (rs ++ qs) ≡ bytes_of rs ++ bytes_of qs
bytes-append = in_bytes_append 8

pub length-records : (rs : List Route) (o : List ℕ) → 8 * length rs ≤ length o → length (laid 0 (bytes_of rs) o) ≡ length o
length-records = in_length_records 8 eight

pub records_lent : (rs qs : List Route) (o : List ℕ) → 8 * (length rs + length qs) ≤ length o
    → let p = laid 0 (bytes_of rs) o in
    take (8 * length rs) p ++ (laid 0 (bytes_of qs) (take (length p - 8 * length rs) (drop (8 * length rs) p)) ++ drop (length p - 8 * length rs) (drop (8 * length rs) p))
    ≡ laid 0 (bytes_of (rs ++ qs)) o
records_lent = in_records_lent 8 eight
