-- The modes as walks: what each puts out at the position (n, a), given the state s from above, and the state that it hands down.
use Rattle.std.specs.Prelude.{ℕ, ◌-◌, Bool, false, cond, ◌||◌, List, [], ◌∷◌, eqb}
use Rattle.theory.specs.Results.{throughout, prefix, sets, assigned, here}
use Rattle.theory.specs.Routes.{Route, Answer, none, via}
use Rattle.positions.specs.Runs.{own, or_else}

-- ---- Modes 4 and 5, of the answers f. The state is the hop assigned above.

-- The position's entry, by its candidates.
abbrev pub ortc_out : (List ℕ → ℕ) → ℕ → (ℕ → Answer) → ℕ → ℕ → Answer → List Route
ortc_out choose w f n a s = here choose w (sets f n a) n a s

-- The hop assigned to it.
abbrev pub ortc_next : (List ℕ → ℕ) → (ℕ → Answer) → ℕ → ℕ → Answer → Answer
ortc_next choose f n a s = assigned choose (sets f n a) s

-- ---- Mode 1, of the addresses p. The state: is a position above covered?

-- The position's prefix, if it is covered and none above it is.
abbrev pub maximal_out : ℕ → (ℕ → Bool) → ℕ → ℕ → Bool → List Route
maximal_out w p n a s = cond s [] (cond (throughout p n a) (prefix w n a ∷ []) [])

-- Covered above, or here.
abbrev pub maximal_next : (ℕ → Bool) → ℕ → ℕ → Bool → Bool
maximal_next p n a s = s || throughout p n a

-- ---- Mode 3, of the table t. The state is the hop of the nearest route above.

-- Is it this hop?
abbrev pub is_same : ℕ → Answer → Bool
is_same h none = false
is_same h (via i) = eqb i h

-- The entry of a position by its own hop, if it has one, unless the state is the same.
abbrev pub entry_unless : ℕ → ℕ → ℕ → Answer → Answer → List Route
entry_unless w n a none s = []
entry_unless w n a (via h) s = cond (is_same h s) [] (record { addr = a; len = w - n; hop = h } ∷ [])

-- The position's entry.
abbrev pub consistent_map_out : ℕ → List Route → ℕ → ℕ → Answer → List Route
consistent_map_out w t n a s = entry_unless w n a (own w n a t) s

-- The position's own hop, or else the state.
abbrev pub consistent_map_next : ℕ → List Route → ℕ → ℕ → Answer → Answer
consistent_map_next w t n a s = or_else (own w n a t) s
