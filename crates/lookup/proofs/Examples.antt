-- Worked tables, from bytes to replies. Assumes nothing.
use mathlib.Core.Path.{◌≡◌, refl, ap}
use mathlib.Core.Bool.{true, false}
use mathlib.Core.List.{List, [], ◌∷◌}
use Prim.Native.Nat.{ℕ, ◌+◌, ◌*◌, ◌^◌}
use Rattle.theory.specs.Routes.{miss, hit}
use Rattle.table.specs.Checking.{check_reply}
use Rattle.lookup.specs.Calls.{lookup_reply, held_reply}
use Rattle.refusals.specs.Rules.{gives, refuses, judge}
use Rattle.records.specs.Forms.{masking, by_default, strictly}
use Rattle.records.proofs.Octets.{all_bytes}
use Rattle.records.specs.Sized.{clear, number, raw_in, route_in, routes_from_in, routes_in}
use Rattle.table.specs.SizedRules.{record_rules_in, rules_from_in, table_rules_in}
use Rattle.theory.proofs.Pass.{count_from}
use Rattle.lookup.proofs.Pass.{pass_counts}

-- 10.0.0.0/8 by hop 1, and 10.1.0.0/16 inside it by hop 2.
abbrev nested : List ℕ
nested = 10 ∷ 0 ∷ 0 ∷ 0 ∷ 8 ∷ 1 ∷ 0 ∷ 0 ∷ 10 ∷ 1 ∷ 0 ∷ 0 ∷ 16 ∷ 2 ∷ 0 ∷ 0 ∷ []

-- An address as its octets are written.
abbrev ip : ℕ → ℕ → ℕ → ℕ → ℕ
ip a b c d = ((a * 256 + b) * 256 + c) * 256 + d

-- The addresses of the inner prefix are those of the outer: 2 ^ 24 in all.
pub nested_held : held_reply by_default nested ≡ gives 16777216
unfolding judge table_rules_in rules_from_in record_rules_in raw_in route_in routes_from_in routes_in count_from clear number
nested_held = ap gives (pass_counts nested (all_bytes nested refl) by_default 2 refl)

-- Inside both the longer match wins.
pub nested_inside : lookup_reply by_default nested (ip 10 1 2 3) ≡ gives (hit 16 2)
unfolding judge table_rules_in rules_from_in record_rules_in raw_in route_in routes_from_in routes_in clear number
nested_inside = refl

-- The shorter serves the rest.
pub nested_rest : lookup_reply by_default nested (ip 10 2 2 3) ≡ gives (hit 8 1)
unfolding judge table_rules_in rules_from_in record_rules_in raw_in route_in routes_from_in routes_in clear number
nested_rest = refl

-- Outside both there is no route.
pub nested_outside : lookup_reply by_default nested (ip 11 1 2 3) ≡ gives miss
unfolding judge table_rules_in rules_from_in record_rules_in raw_in route_in routes_from_in routes_in clear number
nested_outside = refl

-- Only the lower 32 bits of an address count.
pub nested_lower : lookup_reply by_default nested (7 * 2 ^ 32 + ip 10 1 2 3) ≡ gives (hit 16 2)
unfolding judge table_rules_in rules_from_in record_rules_in raw_in route_in routes_from_in routes_in clear number
nested_lower = refl

-- As a set it is refused by its first hop.
pub nested_set : check_reply by_default true nested ≡ refuses 7 0
unfolding judge table_rules_in rules_from_in record_rules_in raw_in route_in clear number
nested_set = refl

-- ---- Records of 16 bytes.

-- 2001:db8::/32 by hop 1, and 2001:db8:0:7::/64 inside it by hop 2.
abbrev long : List ℕ
long =
    32 ∷ 1 ∷ 13 ∷ 184 ∷ 0 ∷ 0 ∷ 0 ∷ 0 ∷ 32 ∷ 1 ∷ 0 ∷ 0 ∷ 0 ∷ 0 ∷ 0 ∷ 0
    ∷ 32 ∷ 1 ∷ 13 ∷ 184 ∷ 0 ∷ 0 ∷ 0 ∷ 7 ∷ 64 ∷ 2 ∷ 0 ∷ 0 ∷ 0 ∷ 0 ∷ 0 ∷ 0
    ∷ []

-- The first 64 bits of an address, as its groups are written.
abbrev ip6 : ℕ → ℕ → ℕ → ℕ → ℕ
ip6 a b c d = ((a * 65536 + b) * 65536 + c) * 65536 + d

-- Inside both the longer match wins, the shorter serves the rest, and outside both there is no route.
pub long_read : (lookup_reply (masking true) long (ip6 8193 3512 0 7) ≡ gives (hit 64 2))
    × (lookup_reply (masking true) long (ip6 8193 3512 1 7) ≡ gives (hit 32 1))
    × (lookup_reply (masking true) long (ip6 8193 3513 0 7) ≡ gives miss)
unfolding judge table_rules_in rules_from_in record_rules_in raw_in route_in routes_from_in routes_in clear number
long_read = (refl, refl, refl)

-- Read as records of 8 bytes it is refused: the second is the prefix of the first, 0.0.0.0/0.
pub long_misread : lookup_reply by_default long (ip 32 1 13 184) ≡ refuses 8 1
unfolding judge table_rules_in rules_from_in record_rules_in raw_in route_in clear number
long_misread = refl

-- ---- Host bits.

-- 10.0.0.0/8 with its octets reversed, which has host bits. The strict choice refuses it;
abbrev reversed : List ℕ
reversed = 0 ∷ 0 ∷ 0 ∷ 10 ∷ 8 ∷ 1 ∷ 0 ∷ 0 ∷ []

pub reversed_octets : check_reply strictly false reversed ≡ refuses 6 0
unfolding judge table_rules_in rules_from_in record_rules_in raw_in route_in clear number
reversed_octets = refl

-- by default it is 0.0.0.0/8.
pub reversed_read : (lookup_reply by_default reversed (ip 0 1 2 3) ≡ gives (hit 8 1)) × (lookup_reply by_default reversed (ip 10 1 2 3) ≡ gives miss)
unfolding judge table_rules_in rules_from_in record_rules_in raw_in route_in routes_from_in routes_in clear number
reversed_read = (refl, refl)

-- 10.9.2.3/8 by hop 1, and 10.1.0.0/16 inside it by hop 2: in order, though as they stand the first address is the larger.
abbrev loose : List ℕ
loose = 10 ∷ 9 ∷ 2 ∷ 3 ∷ 8 ∷ 1 ∷ 0 ∷ 0 ∷ 10 ∷ 1 ∷ 0 ∷ 0 ∷ 16 ∷ 2 ∷ 0 ∷ 0 ∷ []

pub loose_read : (lookup_reply by_default loose (ip 10 1 2 3) ≡ gives (hit 16 2)) × (lookup_reply by_default loose (ip 10 2 2 3) ≡ gives (hit 8 1))
unfolding judge table_rules_in rules_from_in record_rules_in raw_in route_in routes_from_in routes_in clear number
loose_read = (refl, refl)

-- 10.1.2.3/8 and 10.9.2.3/8 are one prefix: the second is not strictly after the first.
pub one_prefix : check_reply by_default false (10 ∷ 1 ∷ 2 ∷ 3 ∷ 8 ∷ 1 ∷ 0 ∷ 0 ∷ 10 ∷ 9 ∷ 2 ∷ 3 ∷ 8 ∷ 2 ∷ 0 ∷ 0 ∷ []) ≡ refuses 8 1
unfolding judge table_rules_in rules_from_in record_rules_in raw_in route_in clear number
one_prefix = refl

-- ---- The order of refusals.

-- The first bad record is named, with its lowest number: record 1 has a bad hop and stands before record 0, record 2 is too long.
pub first_and_lowest : check_reply by_default false (10 ∷ 0 ∷ 0 ∷ 0 ∷ 8 ∷ 1 ∷ 0 ∷ 0 ∷ 9 ∷ 0 ∷ 0 ∷ 0 ∷ 8 ∷ 64 ∷ 0 ∷ 0 ∷ 11 ∷ 0 ∷ 0 ∷ 0 ∷ 33 ∷ 0 ∷ 0 ∷ 0 ∷ []) ≡ refuses 7 1
unfolding judge table_rules_in rules_from_in record_rules_in raw_in route_in clear number
first_and_lowest = refl

-- A record twice is not in strict order.
pub twice : check_reply by_default true (0 ∷ 0 ∷ 0 ∷ 0 ∷ 0 ∷ 0 ∷ 0 ∷ 0 ∷ 0 ∷ 0 ∷ 0 ∷ 0 ∷ 0 ∷ 0 ∷ 0 ∷ 0 ∷ []) ≡ refuses 8 1
unfolding judge table_rules_in rules_from_in record_rules_in raw_in route_in clear number
twice = refl
