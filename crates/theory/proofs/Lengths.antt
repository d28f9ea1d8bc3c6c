-- How long each mode's result is: at most as long as its table, and in fill at most one longer. A result that is shortest is no longer than the table itself
-- or, in fill, than the table with a route of length 0 to the default.
use Prim.Native.Nat.{ℕ, suc, ◌+◌, ◌-◌, ◌^◌, ◌≤◌, ◌<◌}
use mathlib.Core.Path.{◌≡◌, refl}
use mathlib.Core.Bool.{true}
use mathlib.Core.List.{List, ◌∷◌}
use native.Mathlib.Omega.{arith}
use lib.ListN.{length}
use borrow.Author.Tests.{le-ltb}
use Rattle.theory.specs.Results.{nearest, is_other, Chooses, Mode, aggregate_set, aggregate_consistent_map, aggregate_map_drop, aggregate_map_fill, result}
use Rattle.theory.specs.Routes.{Route, matches, Match, miss, hit, longer, lookup, none, under, or_default, Valid, cons, Table}
use Rattle.theory.specs.Shortest.{of_set, of_drop, of_fill, Serves}
use Rattle.theory.proofs.Blocks.{pow_pos, aligned-zero}
use Rattle.theory.proofs.Parts.{length_parts}
use Rattle.theory.proofs.Routed.{matches_in}
use Rattle.theory.proofs.Shortest.{result_shortest}

-- How many records a mode's result has at most, of a table of n records: as many, and in fill one more, for the default.
abbrev pub most_of : Mode → ℕ → ℕ
most_of aggregate_set n = n
most_of aggregate_consistent_map n = n
most_of aggregate_map_drop n = n
most_of (aggregate_map_fill d) n = suc n

-- In no mode more than one more.
pub most_of_lem : (mode : Mode) (n : ℕ) → most_of mode n ≤ n + 1
most_of_lem aggregate_set n = omega arith
most_of_lem aggregate_consistent_map n = omega arith
most_of_lem aggregate_map_drop n = omega arith
most_of_lem (aggregate_map_fill d) n = omega arith

-- The route of length 0 to the default.
abbrev to_default : ℕ → Route
to_default d = record { addr = 0; len = 0; hop = d }

default_valid : (w d : ℕ) → Valid w (to_default d)
default_valid w d = record { short = omega arith; clean = aligned-zero (w - 0); small = pow_pos w }

default_matches : (w d x : ℕ) → x < 2 ^ w → matches w (to_default d) x ≡ true
default_matches w d x lt = let e : w - 0 ≡ w = omega arith in (matches_in w (default_valid w d) x).1 (rw e (omega arith))

-- In front of a table it answers the addresses that have no other route.
default_last : (d : ℕ) (m : Match) → under none (longer (hit 0 d) m) ≡ or_default d (under none m)
default_last d miss = refl
default_last d (hit k h) = rw (le-ltb k 0 (omega arith))

module _ (choose : List ℕ → ℕ) (law : Chooses choose) (w : ℕ) where
  -- The result of each mode.
  pub result-length : (mode : Mode) {t : List Route} → Table w t → length (result choose w mode t) ≤ most_of mode (length t)
  unfolding result
  result-length aggregate_set {t} table = unfold result in result_shortest choose law w of_set t t (record { valid = table.valid; keeps = λ x lt. refl })
  result-length aggregate_consistent_map {t} table = omega (arith, length_parts (λ r. is_other r.hop (nearest w t r)) t)
  result-length aggregate_map_drop {t} table = result_shortest choose law w of_drop t t (record { valid = table.valid; keeps = λ x lt. refl })
  result-length (aggregate_map_fill d) {t} table = result_shortest choose law w (of_fill d) t (to_default d ∷ t) serves
    where
      serves : Serves w (aggregate_map_fill d) t (to_default d ∷ t)
      serves =
          record {
            valid = cons (default_valid w d) table.valid;
            keeps = λ x lt. rw (default_matches w d x lt) (default_last d (lookup w t x));
          }
