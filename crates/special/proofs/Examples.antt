-- Worked replies, from bytes: where the editions differ, a record wider than a range, the first of several, and the order of the refusals. Assumes nothing.
use mathlib.Core.Path.{◌≡◌, refl}
use mathlib.Core.List.{List, [], ◌∷◌}
use Prim.Native.Nat.{ℕ}
use Rattle.refusals.specs.Rules.{gives, refuses, judge}
use Rattle.records.specs.Forms.{by_default, strictly}
use Rattle.records.specs.Sized.{clear, number, raw_in, route_in, routes_from_in, routes_in}
use Rattle.table.specs.SizedRules.{record_rules_in, rules_from_in, table_rules_in}
use Rattle.special.specs.Calls.{special_rules, special_reply}
use Rattle.special.specs.Editions.{rfc5735, rfc6890}
use Rattle.special.specs.Ranges.{nowhere, at, first_from}

-- 0.0.0.0/0, then 100.64.0.0/10, then 224.0.0.0/8.
abbrev three : List ℕ
three = 0 ∷ 0 ∷ 0 ∷ 0 ∷ 0 ∷ 1 ∷ 0 ∷ 0 ∷ 100 ∷ 64 ∷ 0 ∷ 0 ∷ 10 ∷ 2 ∷ 0 ∷ 0 ∷ 224 ∷ 0 ∷ 0 ∷ 0 ∷ 8 ∷ 3 ∷ 0 ∷ 0 ∷ []

-- RFC 6890 lists the shared range;
pub shared_listed : special_reply by_default three 6890 ≡ gives (at 1)
unfolding judge special_rules table_rules_in rules_from_in record_rules_in raw_in route_in routes_from_in routes_in first_from rfc5735 rfc6890 clear number
shared_listed = refl

-- RFC 5735 does not, but lists multicast.
pub multicast_listed : special_reply by_default three 5735 ≡ gives (at 2)
unfolding judge special_rules table_rules_in rules_from_in record_rules_in raw_in route_in routes_from_in routes_in first_from rfc5735 rfc6890 clear number
multicast_listed = refl

-- 10.0.0.0/7 has all of 10.0.0.0/8 and more: it is not named.
pub wider_passed : special_reply by_default (10 ∷ 0 ∷ 0 ∷ 0 ∷ 7 ∷ 1 ∷ 0 ∷ 0 ∷ []) 5735 ≡ gives nowhere
unfolding judge special_rules table_rules_in rules_from_in record_rules_in raw_in route_in routes_from_in routes_in first_from rfc5735 rfc6890 clear number
wider_passed = refl

-- Host bits are masked, or refused under the strict choice.
pub host_masked : special_reply by_default (10 ∷ 1 ∷ 2 ∷ 3 ∷ 8 ∷ 1 ∷ 0 ∷ 0 ∷ []) 5735 ≡ gives (at 0)
unfolding judge special_rules table_rules_in rules_from_in record_rules_in raw_in route_in routes_from_in routes_in first_from rfc5735 rfc6890 clear number
host_masked = refl

pub host_refused : special_reply strictly (10 ∷ 1 ∷ 2 ∷ 3 ∷ 8 ∷ 1 ∷ 0 ∷ 0 ∷ []) 5735 ≡ refuses 6 0
unfolding judge special_rules table_rules_in rules_from_in record_rules_in raw_in route_in routes_from_in routes_in first_from rfc5735 rfc6890 clear number
host_refused = refl

-- An unknown edition is refused before the table is looked at.
pub edition_first : special_reply by_default (10 ∷ []) 1918 ≡ refuses 14 0
unfolding judge special_rules table_rules_in rules_from_in record_rules_in raw_in route_in routes_from_in routes_in first_from rfc5735 rfc6890 clear number
edition_first = refl
