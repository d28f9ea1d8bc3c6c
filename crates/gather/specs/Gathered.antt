-- What one pass over a node's run finds: the records at each of its positions, and those inside each of its slots.
use Rattle.std.specs.Prelude.{ℕ, zero, suc, ◌+◌, ◌-◌, ◌/◌, ◌^◌, ◌≤◌, ◌<◌, ◌≡◌, Bool, true, false, cond, List, [], ◌∷◌, eqb, ltb, get_or}
use Rattle.theory.specs.Routes.{Route}
use Rattle.theory.specs.Results.{part}
use Rattle.records.specs.Sized.{route_in}
use Rattle.words.specs.Bits.{bit}
use Rattle.words.specs.Positions.{position}
use Rattle.positions.specs.Runs.{is_at, is_in, size_at, place_at}
use Rattle.nodes.specs.Node.{wide, run, slot_size}

-- Does the route belong to place j of level l of the node: does it stand at that position, or, at level 5, lie in that slot?
abbrev pub filed : ℕ → ℕ → ℕ → ℕ → Route → Bool
filed m key l j r = cond (ltb l 5) (is_at wide (size_at m l) (place_at m key l j) r) (is_in wide (size_at m l) (place_at m key l j) r)

-- The level of a length in a node at this depth: 0 to 4 for its positions, 5 for its slots.
abbrev pub level_of : ℕ → ℕ → ℕ
level_of len depth = cond (ltb len (depth + 5)) (len - depth) 5

-- Is there a route?
abbrev pub some : List Route → Bool
some [] = false
some (r ∷ t) = true

-- The records from `first` to `end` at place b of the two lists.
abbrev pub run_at : ℕ → List ℕ → List ℕ → List ℕ → ℕ → List Route
run_at size t first end b = run size t (get_or first b 0) (get_or end b 0)

-- What is found of the records lo..hi of a node.
pub record Gathered (size : ℕ) (t : List ℕ) (lo hi depth key : ℕ) (first end : List ℕ) (present : ℕ) : Type 0 where
  pub places : (l j : ℕ) → l ≤ 5 → j < 2 ^ l
      → run_at size t first end (position l j) ≡ part (filed (slot_size depth) key l j) (run size t lo hi)
  pub order : (b : ℕ) → b < 63 → get_or first b 0 ≤ get_or end b 0
  pub bounds : (b : ℕ) → b < 63 → get_or end b 0 ≤ hi
  pub members : (l j : ℕ) → l ≤ 4 → j < 2 ^ l
      → bit present (position l j) ≡ some (part (filed (slot_size depth) key l j) (run size t lo hi))
  pub no_more : bit present 31 ≡ false

-- The bits of a word say which slots of the node have a record in them.
abbrev pub Occupied : ℕ → List ℕ → ℕ → ℕ → ℕ → ℕ → ℕ → Type 0
Occupied size t lo hi depth key occupied =
    (c : ℕ) → c < 32 → bit occupied c ≡ some (part (filed (slot_size depth) key 5 c) (run size t lo hi))

-- Where the records of a place begin, once record i is one of them.
abbrev pub first_of : ℕ → ℕ → ℕ → ℕ
first_of first end i = cond (ltb first end) first i

-- The hop of the first of the records first..end, or the one above where there is none.
abbrev pub value_of : ℕ → List ℕ → ℕ → ℕ → ℕ → ℕ
value_of size t first end over = cond (ltb first end) (route_in size t first).hop over

-- What covers position b from above, by the hops of the positions before it.
abbrev pub over_at : List ℕ → ℕ → ℕ → ℕ
over_at hops b above = cond (eqb b 0) above (get_or hops ((b - 1) / 2) 0)

-- The hop that covers position j of level l, by the records of each place and the hop that covers the node.
unfoldable pub covering_at : ℕ → List ℕ → List ℕ → List ℕ → ℕ → ℕ → ℕ → ℕ
covering_at size t first end inherited zero j = value_of size t (get_or first (position zero j) 0) (get_or end (position zero j) 0) inherited
covering_at size t first end inherited (suc l) j =
    value_of size t (get_or first (position (suc l) j) 0) (get_or end (position (suc l) j) 0) (covering_at size t first end inherited l (j / 2))
