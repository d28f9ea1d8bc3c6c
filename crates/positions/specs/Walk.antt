-- A walk down the positions in table order, handing a state from each position to its halves; and the same by a node's slots.
use Rattle.std.specs.Prelude.{ℕ, zero, suc, ◌+◌, ◌-◌, ◌/◌, ◌%◌, ◌^◌, cond, List, [], ◌++◌, eqb}
use Rattle.theory.specs.Routes.{Route}
use Rattle.positions.specs.Runs.{size_of, place_of}

module _ {S : Type 0} (out : ℕ → ℕ → S → List Route) (next : ℕ → ℕ → S → S) where
  -- A position's entries, then those of its left half, then those of its right half.
  unfoldable pub walk : ℕ → ℕ → S → List Route
  walk zero a s = out zero a s
  walk (suc n) a s = out (suc n) a s ++ (walk n a (next (suc n) a s) ++ walk n (a + 2 ^ n) (next (suc n) a s))

  -- The state handed to position j of level l of a node (m + k, a) of k levels, and of the node (m + 5, a).
  unfoldable pub state_of : ℕ → ℕ → ℕ → S → ℕ → ℕ → S
  state_of k m a s zero j = s
  state_of k m a s (suc l) j = next (size_of k m l) (place_of k m a l (j / 2)) (state_of k m a s l (j / 2))

  abbrev pub state_at : ℕ → ℕ → S → ℕ → ℕ → S
  state_at m a s l j = state_of 5 m a s l j

-- A walk from (n, a) with s comes to a position with a state.
pub data Reached {S : Type 0} (next : ℕ → ℕ → S → S) (n a : ℕ) (s : S) : ℕ → ℕ → S → Type 0 where
  start : Reached next n a s n a s
  left : {k b : ℕ} {u : S} → Reached next n a s (suc k) b u → Reached next n a s k b (next (suc k) b u)
  right : {k b : ℕ} {u : S} → Reached next n a s (suc k) b u → Reached next n a s k (b + 2 ^ k) (next (suc k) b u)

-- ---- A node of k levels and 2 ^ k slots, its level k.

-- Of the entries by level and index, those of the position of level l that begins at slot c, if one does.
abbrev pub starts_of : ℕ → (ℕ → ℕ → List Route) → ℕ → ℕ → List Route
starts_of k entry l c = cond (eqb (c % 2 ^ (k - l)) 0) (entry l (c / 2 ^ (k - l))) []

-- The entries of the positions of the first levels that begin at slot c, by rising length.
unfoldable pub heads_of : ℕ → (ℕ → ℕ → List Route) → ℕ → ℕ → List Route
heads_of k entry zero c = []
heads_of k entry (suc l) c = heads_of k entry l c ++ starts_of k entry l c

-- The entries of a node by its first slots: at each the positions that begin there, then the slot's own.
unfoldable pub slots_of : ℕ → (ℕ → ℕ → List Route) → (ℕ → List Route) → ℕ → List Route
slots_of k entry slot zero = []
slots_of k entry slot (suc c) = slots_of k entry slot c ++ (heads_of k entry k c ++ slot c)

-- ---- The same for a node of 5 levels and 32 slots.

abbrev pub starts_at : (ℕ → ℕ → List Route) → ℕ → ℕ → List Route
starts_at entry l c = starts_of 5 entry l c

abbrev pub heads : (ℕ → ℕ → List Route) → ℕ → ℕ → List Route
heads entry l c = heads_of 5 entry l c

abbrev pub slots : (ℕ → ℕ → List Route) → (ℕ → List Route) → ℕ → List Route
slots entry slot c = slots_of 5 entry slot c
