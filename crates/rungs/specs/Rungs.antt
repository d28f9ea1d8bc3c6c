-- The rungs of an address as the code has them: a number for each length from 0 to 32, no_hop where a table has nothing.
use Rattle.std.specs.Prelude.{ℕ, zero, suc, ◌-◌, ◌≤◌, ◌<◌, ◌≡◌, cond, List, [], ◌∷◌, ◌⊎◌, eqb, get_or}
use Rattle.theory.specs.Results.{start_of}
use Rattle.theory.specs.Routes.{Answer, none, via}
use Rattle.positions.specs.Runs.{no_hop}
use Rattle.records.specs.Wire.{route_at}
use Rattle.rungs.specs.declared.Rungs.{Rungs}

-- The number of an answer: its hop, or no_hop.
abbrev pub number_of : Answer → ℕ
number_of none = no_hop
number_of (via h) = h

-- The numbers at k lengths from l on.
unfoldable pub row : (ℕ → Answer) → ℕ → ℕ → List ℕ
row f l zero = []
row f l (suc k) = number_of (f l) ∷ row f (suc l) k

-- The greatest length up to k with a hop; 0 where there is none.
unfoldable pub top_from : List ℕ → ℕ → ℕ
top_from hops zero = zero
top_from hops (suc k) = cond (eqb (get_or hops (suc k) 0) no_hop) (top_from hops k) (suc k)

-- The hops with their greatest length.
abbrev pub with_top : List ℕ → Rungs
with_top hops = record { hops = hops; top = top_from hops 32 }

-- The rungs whose answers are these.
abbrev pub rungs_of : (ℕ → Answer) → Rungs
rungs_of f = with_top (row f 0 33)

-- Of the first k records, those from r on stand behind the prefix of address m and length d.
pub record Behind (t : List ℕ) (k m d r : ℕ) : Type 0 where
  pub high : r ≤ k
  pub past : (i : ℕ) → r ≤ i → i < k → (m < (route_at t i).addr) ⊎ ((m ≡ (route_at t i).addr) × (d < (route_at t i).len))

-- None of the records r..k is a prefix of x.
pub record Skipped (t : List ℕ) (k x r : ℕ) : Type 0 where
  pub high : r ≤ k
  pub other : (i : ℕ) → r ≤ i → i < k → (l : ℕ) → l ≤ 32 → (route_at t i).addr ≡ start_of (32 - l) x → (route_at t i).len ≡ l → ⊥
