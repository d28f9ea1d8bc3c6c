-- How many addresses a table holds, each counted once, and what becomes of that number in each mode. Over the width w.
use Rattle.std.specs.Prelude.{ℕ, zero, suc, ◌+◌, ◌-◌, ◌^◌, Bool, cond, List, [], ◌∷◌}
use Rattle.theory.specs.Routes.{Route, held}
use Rattle.theory.specs.Results.{Mode, aggregate_set, aggregate_consistent_map, aggregate_map_drop, aggregate_map_fill}

-- How many addresses of the position (n, a) pass the test: 0 or 1 at an address, above it the sum of the halves.
unfoldable pub how_many : (ℕ → Bool) → ℕ → ℕ → ℕ
how_many p zero a = cond (p a) 1 0
how_many p (suc n) a = how_many p n a + how_many p n (a + 2 ^ n)

-- How many addresses the table holds.
abbrev pub reach : ℕ → List Route → ℕ
reach w t = how_many (held w t) w 0

-- How many the result of a mode holds, where its table holds n: as many, and in fill all.
abbrev pub reach_after : ℕ → Mode → ℕ → ℕ
reach_after w aggregate_set n = n
reach_after w aggregate_consistent_map n = n
reach_after w aggregate_map_drop n = n
reach_after w (aggregate_map_fill d) n = 2 ^ w

-- The sizes of a list's prefixes, added up.
unfoldable pub sizes : ℕ → List Route → ℕ
sizes w [] = 0
sizes w (r ∷ t) = 2 ^ (w - r.len) + sizes w t
