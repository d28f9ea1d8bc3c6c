-- What the two walks of a node are about: the answers of its addresses, the sets of its positions, and what these are assigned.
use Rattle.std.specs.Prelude.{ℕ, zero, suc, ◌+◌, ◌*◌, ◌/◌, ◌%◌, ◌^◌, ◌≤◌, ◌<◌, ◌≡◌, Bool, true, false, cond, not, ◌&&◌, List, [], ◌∷◌, eqb, ltb, length, get_or}
use Rattle.theory.specs.Routes.{Route, Answer, lookup, under}
use Rattle.theory.specs.Results.{Cand, sets, assigned}
use Rattle.words.specs.Bits.{bit}
use Rattle.words.specs.Positions.{position}
use Rattle.positions.specs.Runs.{no_hop, hop_of, or_else, size_at, place_at}
use Rattle.hops.specs.Sets.{ShowsSet}
use Rattle.nodes.specs.Node.{wide}
use Rattle.assign.specs.Packed.{packed}

-- What an address of a node is answered: by the node's routes t, or by g, which covers it from above, or else by d, which fills.
abbrev pub answer_in : List Route → Answer → Answer → ℕ → Answer
answer_in t g d x = or_else (under g (lookup wide t x)) d

-- The words xs show the candidates of the positions and slots of the node (m + 5, a).
pub record ShowsNode (f : ℕ → Answer) (m a : ℕ) (xs : List ℕ) : Type 0 where
  pub count : length xs ≡ 63
  pub places : (l j : ℕ) → l ≤ 5 → j < 2 ^ l → ShowsSet (get_or xs (position l j) 0) (sets f (size_at m l) (place_at m a l j))

-- The own words of a node in the room of modes 4 and 5: its sets, packed.
abbrev pub set_words : (ℕ → Answer) → ℕ → ℕ → List Route → List ℕ → Type 0
set_words f m a t ws = (xs : List ℕ) × ShowsNode f m a xs × (ws ≡ packed xs)

-- What position j of level l is assigned by a choice among a set's hops, where g is assigned above the node.
unfoldable pub assigned_at : (List ℕ → ℕ) → (ℕ → Answer) → ℕ → ℕ → Answer → ℕ → ℕ → Answer
assigned_at choose f m a g zero j = assigned choose (sets f (size_at m zero) (place_at m a zero j)) g
assigned_at choose f m a g (suc l) j = assigned choose (sets f (size_at m (suc l)) (place_at m a (suc l) j)) (assigned_at choose f m a g l (j / 2))

-- Is it an entry under the hop above: is it a hop, and not that one?
abbrev pub is_entry : ℕ → ℕ → Bool
is_entry hop above = not (eqb hop above) && ltb hop no_hop

-- One record, if it is an entry under the hop above.
abbrev pub entry_over : ℕ → ℕ → ℕ → ℕ → List Route
entry_over addr len hop above = cond (is_entry hop above) (record { addr = addr; len = len; hop = hop } ∷ []) []

-- The bits of a word mark the slots that, with no record in them, have an entry: v, which answers there, is one under the hop that the
-- position above the slot is assigned.
abbrev pub LeafSlots : List ℕ → List ℕ → ℕ → ℕ → Type 0
LeafSlots covering hops fill marked =
    (c v : ℕ) → c < 32 → hop_of v ≡ or_else (hop_of (get_or covering (15 + c / 2) 0)) (hop_of fill)
    → bit marked c ≡ is_entry v (get_or hops (15 + c / 2) 0)

-- A position was assigned `hop` under `over`, by the words of the room from top on, the lowest bit of the mask saying whether its set is there.
pub record Stepped (choose : List ℕ → ℕ) (o : List ℕ) (mask top over hop mask' top' : ℕ) : Type 0 where
  pub masks : mask' ≡ mask / 2
  pub tops : top' ≡ top + cond (eqb (mask % 2) 1) 2 0
  pub kept : eqb (mask % 2) 1 ≡ false → hop ≡ over
  pub taken : eqb (mask % 2) 1 ≡ true → (S : Cand) → ShowsSet (get_or o top 0 + get_or o (top + 1) 0 * 4294967296) S
      → hop_of hop ≡ assigned choose S (hop_of over)
  pub low : over ≤ no_hop → hop ≤ no_hop
