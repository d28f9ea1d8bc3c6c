-- The nodes of a table, by which the work needed is measured: the root and, for each record of length L, one at depths 5, 10, up to
-- 5 * floor(L/5), two records sharing a node where their address bits up to that depth agree. Over the width w of an address.
use Rattle.std.specs.Prelude.{ℕ, zero, suc, ◌+◌, ◌-◌, ◌*◌, ◌/◌, ◌^◌, Bool, false, cond, ◌||◌, ◌&&◌, List, [], ◌∷◌, leb, eqb}
use Rattle.theory.specs.Routes.{Route}

-- How many nodes a record has below the root: its deepest is at depth 5 * levels.
abbrev pub levels : Route → ℕ
levels r = r.len / 5

-- Has s a node at depth 5 * m, and does the address x lie in it: do their address bits up to that depth agree?
abbrev pub node_at : ℕ → ℕ → ℕ → Route → Bool
node_at w m x s = leb m (levels s) && eqb (s.addr / 2 ^ (w - 5 * m)) (x / 2 ^ (w - 5 * m))

-- Has some record of a list such a node?
abbrev pub seen : ℕ → ℕ → ℕ → List Route → Bool
seen w m x [] = false
seen w m x (s ∷ t) = node_at w m x s || seen w m x t

-- At how many of the depths 5, 10, up to 5 * m the address x lies in no node of the earlier records.
unfoldable pub fresh : ℕ → List Route → ℕ → ℕ → ℕ
fresh w earlier x zero = 0
fresh w earlier x (suc m) = fresh w earlier x m + cond (seen w (suc m) x earlier) 0 1

-- The nodes below the root that the records of a list bring, in turn, beside those of the earlier records.
unfoldable pub brought : ℕ → List Route → List Route → ℕ
brought w earlier [] = 0
brought w earlier (r ∷ t) = fresh w earlier r.addr (levels r) + brought w (r ∷ earlier) t

-- The nodes of a list of routes.
unfoldable pub nodes : ℕ → List Route → ℕ
nodes w t = 1 + brought w [] t

-- A record by its address and length alone: nodes do not depend on the hop.
abbrev pub bare : ℕ → ℕ → Route
bare a l = record { addr = a; len = l; hop = 0 }

-- The nodes that a record r brings beside those of one record p.
abbrev pub new_nodes : ℕ → Route → Route → ℕ
new_nodes w p r = fresh w (p ∷ []) r.addr (levels r)
