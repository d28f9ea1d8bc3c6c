-- The work room: words laid from its end downward, a block of words for each node. From its start a node's block reads: the node's own
-- words, then the blocks of its slots that have a record, in order. A walk may pass over slots: then these have no block.
use Rattle.std.specs.Prelude.{ℕ, zero, suc, ◌+◌, ◌-◌, ◌*◌, ◌/◌, ◌≤◌, ◌≡◌, List, [], ◌∷◌, ◌++◌, length, take, drop}
use Rattle.theory.specs.Routes.{Route}
use Rattle.nodecount.specs.Walk.{slot_nodes, nodes_in}
use Rattle.positions.specs.Runs.{inside, place_at}
use Rattle.nodes.specs.Node.{wide}

-- o' is o with ws laid from r to top.
pub record Pushed (ws : List ℕ) (top r : ℕ) (o o' : List ℕ) : Type 0 where
  pub ends : r + length ws ≡ top
  pub laid : o' ≡ take r o ++ (ws ++ drop top o)

-- The words of o from top on begin with ws.
abbrev pub Begins : List ℕ → ℕ → List ℕ → Type 0
Begins ws top o = (rest : List ℕ) × (drop top o ≡ ws ++ rest)

-- Is ws the block of a slot at a that the routes t lie in: nothing where there is none?
abbrev pub SlotBlock : (ℕ → List Route → List ℕ → Type 0) → ℕ → List Route → List ℕ → Type 0
SlotBlock block a [] ws = ws ≡ []
SlotBlock block a (r ∷ t) ws = block a (r ∷ t) ws

-- Are ws the blocks of the last c slots of the node (m + 5, a)?
unfoldable pub SlotBlocks : (ℕ → List Route → List ℕ → Type 0) → ℕ → ℕ → List Route → ℕ → List ℕ → Type 0
SlotBlocks block m a t zero ws = ws ≡ []
SlotBlocks block m a t (suc c) ws =
    (u : List ℕ)
    × (v : List ℕ)
    × (ws ≡ u ++ v)
    × SlotBlock block (place_at m a 5 (31 - c)) (inside wide m (place_at m a 5 (31 - c)) t) u
    × SlotBlocks block m a t c v

-- Is ws the block of the node (5 * k, a) that the routes t lie in? `own m a t u` says that u are the own words of the node (m + 5, a), and
-- `deeper m a t` are its routes in the slots that are walked.
unfoldable pub BlockBy : (ℕ → ℕ → List Route → List Route) → (ℕ → ℕ → List Route → List ℕ → Type 0) → ℕ → ℕ → List Route → List ℕ → Type 0
BlockBy deeper own zero a t ws = ⊥
BlockBy deeper own (suc k) a t ws =
    (u : List ℕ)
    × (v : List ℕ)
    × (ws ≡ u ++ v)
    × own (5 * k) a t u
    × SlotBlocks (BlockBy deeper own k) (5 * k) a (deeper (5 * k) a t) 32 v

-- All slots are walked.
abbrev pub everywhere : ℕ → ℕ → List Route → List Route
everywhere m a t = t

-- The same where all slots are walked.
abbrev pub Block : (ℕ → ℕ → List Route → List ℕ → Type 0) → ℕ → ℕ → List Route → List ℕ → Type 0
Block own = BlockBy everywhere own

-- How many nodes deep the node at this depth still goes, itself included.
abbrev pub nodes_deep : ℕ → ℕ
nodes_deep depth = 13 - depth / 5

-- The nodes from the node (5 * k, a) down that the routes t have, itself included.
abbrev pub nodes_below : ℕ → ℕ → List Route → ℕ
nodes_below k a t = nodes_in wide k (5 * k) a t

-- A block of the node (5 * k, a) was laid from r to top.
pub record LaidBy (deeper : ℕ → ℕ → List Route → List Route) (own : ℕ → ℕ → List Route → List ℕ → Type 0) (k a : ℕ) (t : List Route) (top r : ℕ)
    (o o' : List ℕ) : Type 0 where
  pub words : List ℕ
  pub block : BlockBy deeper own k a t words
  pub pushed : Pushed words top r o o'

abbrev pub Laid : (ℕ → ℕ → List Route → List ℕ → Type 0) → ℕ → ℕ → List Route → ℕ → ℕ → List ℕ → List ℕ → Type 0
Laid own k a t top r o o' = LaidBy everywhere own k a t top r o o'

-- A block of the node (5 * k, a) begins at top.
pub record StoredBy (deeper : ℕ → ℕ → List Route → List Route) (own : ℕ → ℕ → List Route → List ℕ → Type 0) (k a : ℕ) (t : List Route) (top : ℕ)
    (o : List ℕ) : Type 0 where
  pub words : List ℕ
  pub block : BlockBy deeper own k a t words
  pub begins : Begins words top o

abbrev pub Stored : (ℕ → ℕ → List Route → List ℕ → Type 0) → ℕ → ℕ → List Route → ℕ → List ℕ → Type 0
Stored own k a t top o = StoredBy everywhere own k a t top o

-- ---- The loops over a node's slots.

-- From the last slot to the first: the blocks of the slots from c on are laid from `at` to top, and below `at` there is room for those before
-- them and for the node's own words, where a node has `most` words.
pub record SlotsLaid (most : ℕ) (block : ℕ → List Route → List ℕ → Type 0) (nodes : ℕ → List Route → ℕ) (m a : ℕ) (t : List Route)
    (c top at : ℕ) (o o' : List ℕ) : Type 0 where
  pub words : List ℕ
  pub pushed : Pushed words top at o o'
  pub blocks : SlotBlocks block m a t (32 - c) words
  pub room : most * (1 + slot_nodes wide nodes m a t c) ≤ at

-- From the first slot to the last: the blocks of the slots from c on stand from `at` to `end`.
pub record SlotsAhead (block : ℕ → List Route → List ℕ → Type 0) (m a : ℕ) (t : List Route) (c at end : ℕ) (o : List ℕ) : Type 0 where
  pub words : List ℕ
  pub begins : Begins words at o
  pub blocks : SlotBlocks block m a t (32 - c) words
  pub ends : at + length words ≡ end
