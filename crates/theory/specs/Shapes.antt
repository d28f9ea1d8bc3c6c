-- Shapes that the laws speak of, and the contracts of the engine: a route inside a position, an answer that says a hop, a set in order.
use Rattle.std.specs.Prelude.{ℕ, ◌+◌, ◌-◌, ◌^◌, ◌≤◌, ◌<◌, Bool, true, false, List, [], ◌∷◌}
use Rattle.theory.specs.Routes.{Route, Answer, none, via, Aligned}

-- A route that is well formed, and whose addresses all lie in the position (n, a).
pub record Within (w n a : ℕ) (r : Route) : Type 0 where
  pub low : a ≤ r.addr
  pub high : r.addr + 2 ^ (w - r.len) ≤ a + 2 ^ n
  pub deep : w - n ≤ r.len
  pub short : r.len ≤ w
  pub aligned : Aligned (w - r.len) r.addr

-- Is a hop said?
abbrev pub routed : Answer → Bool
routed none = false
routed (via h) = true

-- Every hop of s is above h.
abbrev pub Above : ℕ → List ℕ → Type 0
Above h [] = Unit {0}
Above h (k ∷ s) = (h < k) × Above h s

-- A set in ascending order, with no hop twice.
abbrev pub Sorted : List ℕ → Type 0
Sorted [] = Unit {0}
Sorted (h ∷ s) = Above h s × Sorted s

-- A set that is not empty.
abbrev pub Some : List ℕ → Type 0
Some [] = ⊥
Some (h ∷ s) = Unit {0}
