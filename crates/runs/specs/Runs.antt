-- The records lo..hi of a table as the run of a position, and where its parts begin: the position's own record, the run of its left half, the run of its
-- right half. Over the size of a record and the width w of an address.
use Rattle.std.specs.Prelude.{ℕ, ◌+◌, ◌-◌, ◌^◌, ◌≤◌, ◌<◌, ◌≡◌, List}
use Rattle.theory.specs.Routes.{Route}
use Rattle.positions.specs.Runs.{Run}
use Rattle.records.specs.Sized.{records_in, route_in, routes_from_in}

-- The records lo..hi as routes.
abbrev pub run : ℕ → List ℕ → ℕ → ℕ → List Route
run size t lo hi = routes_from_in size t lo (hi - lo)

-- The records lo..hi are the run of the position (n, a): they stand in the table, and are a table whose routes lie in the position.
pub record RunAt (size w : ℕ) (t : List ℕ) (lo hi n a : ℕ) : Type 0 where
  pub low : lo ≤ hi
  pub high : hi ≤ records_in size t
  pub small : a + 2 ^ n ≤ 2 ^ w
  pub lies : Run w n a (run size t lo hi)

-- A number past the own record of a position of length len whose run is lo..hi: that record is the first, if it is of this length, else there is none.
pub data PastOwn (size : ℕ) (t : List ℕ) (lo hi len : ℕ) : ℕ → Type 0 where
  with_own : lo < hi → (route_in size t lo).len ≡ len → PastOwn size t lo hi len (lo + 1)
  without : (lo < hi → (route_in size t lo).len ≡ len → ⊥) → PastOwn size t lo hi len lo

-- r splits the records lo..hi at the address mid: those before r stand below it, those from r on do not.
pub record SplitAt (size : ℕ) (t : List ℕ) (lo hi mid r : ℕ) : Type 0 where
  pub low : lo ≤ r
  pub high : r ≤ hi
  pub below : (k : ℕ) → lo ≤ k → k < r → (route_in size t k).addr < mid
  pub above : (k : ℕ) → r ≤ k → k < hi → mid ≤ (route_in size t k).addr
