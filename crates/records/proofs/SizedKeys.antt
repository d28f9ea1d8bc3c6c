-- Keys of records and their bytes, over the size of a record: what the functions' proofs cite. Assumes nothing.
use mathlib.Core.Path.{◌≡◌, refl, sym, ap, ◌∙◌}
use mathlib.Core.List.{List, [], ◌∷◌, ◌++◌}
use mathlib.Core.Logic.{inl, inr}
use Prim.Native.Nat.{ℕ, ◌+◌, ◌*◌, ◌/◌, ◌%◌, ◌≤◌}
use native.Mathlib.Nat.{mul-one}
use native.Mathlib.Omega.{arith}
use lib.ListN.{length}
use Rattle.theory.specs.Routes.{Route}
use Rattle.words.specs.Keys.{key_of}
use Rattle.records.specs.Sized.{IsSize, number, raw_in, route_in, octets_of, record_in, laid}
use Rattle.records.proofs.Laid.{laid_then}

-- A size that is not 8 is 16.
pub size-long : (size : ℕ) → IsSize size → (size ≡ 8 → ⊥) → size ≡ 16
size-long size (inl e) n = absurd (n e)
size-long size (inr e) n = e

-- In records of 8 bytes the key is the address with 32 zeros, in records of 16 the eight octets.
pub raw_key_8 : (t : List ℕ) (i : ℕ) → (raw_in 8 t i).addr * 4294967296 ≡ key_of 32 (raw_in 8 t i).addr
raw_key_8 t i = refl

pub key_8 : (t : List ℕ) (i : ℕ) → (route_in 8 t i).addr * 4294967296 ≡ key_of 32 (route_in 8 t i).addr
key_8 t i = refl

pub raw_key_16 : (t : List ℕ) (i : ℕ) → number t (16 * i) 8 ≡ key_of 64 (raw_in 16 t i).addr
unfolding raw_in
raw_key_16 t i = sym (mul-one (number t (16 * i) 8))

-- The bytes of a route's record of 16 bytes, one by one: the octets of the address, then the rest.
abbrev pub first_eight : ℕ → List ℕ
first_eight a =
    a / 72057594037927936 % 256
    ∷ a / 281474976710656 % 256
    ∷ a / 1099511627776 % 256
    ∷ a / 4294967296 % 256
    ∷ a / 16777216 % 256
    ∷ a / 65536 % 256
    ∷ a / 256 % 256
    ∷ a % 256
    ∷ []

abbrev pub last_eight : ℕ → ℕ → List ℕ
last_eight len hop = len ∷ hop ∷ 0 ∷ 0 ∷ 0 ∷ 0 ∷ 0 ∷ 0 ∷ []

pub record_at_16 : (r : Route) → record_in 16 r ≡ first_eight r.addr ++ last_eight r.len r.hop
unfolding record_in octets_of
record_at_16 r =
    let a = r.addr in
    let e2 : a / 256 / 256 ≡ a / 65536 = omega arith in
    let e3 : a / 65536 / 256 ≡ a / 16777216 = omega arith in
    let e4 : a / 16777216 / 256 ≡ a / 4294967296 = omega arith in
    let e5 : a / 4294967296 / 256 ≡ a / 1099511627776 = omega arith in
    let e6 : a / 1099511627776 / 256 ≡ a / 281474976710656 = omega arith in
    let e7 : a / 281474976710656 / 256 ≡ a / 72057594037927936 = omega arith in
    rw (e2, e3, e4, e5, e6, e7)

-- Eight bytes laid behind eight are such a record.
pub laid-long : (k : ℕ) (r : Route) (o : List ℕ) → k + 16 ≤ length o
    → laid (k + 8) (last_eight r.len r.hop) (laid k (first_eight r.addr) o) ≡ laid k (record_in 16 r) o
laid-long k r o fits =
    laid_then k (first_eight r.addr) (last_eight r.len r.hop) o (omega arith)
    ∙ ap (λ (l : List ℕ). laid k l o) (sym (record_at_16 r))
