-- How long a node's block is, by the nodes in it, and the room that a walk from the last slot to the first has left for each slot and for the
-- node's own words. Over the most own words that a node has.
use Prim.Native.Nat.{ℕ, zero, suc, ◌+◌, ◌-◌, ◌*◌, ◌≤◌, ◌<◌}
use mathlib.Core.Path.{◌≡◌, refl, ap, ◌∙◌}
use mathlib.Core.List.{List, [], ◌∷◌}
use mathlib.Core.Logic.{◌⊎◌, inl, inr}
use native.Mathlib.Nat.{mul-add, mul-le-mul_left}
use native.Mathlib.Numerals.{add-one}
use native.Mathlib.Omega.{arith}
use lib.ListN.{length, length-append}
use Rattle.theory.specs.Routes.{Route}
use Rattle.positions.specs.Runs.{inside, place_at}
use Rattle.nodes.specs.Node.{wide, slot_size}
use Rattle.nodecount.specs.Walk.{or_none, sum_to, nodes_at, slot_nodes, nodes_in}
use Rattle.nodes.specs.Room.{SlotBlock, SlotBlocks, BlockBy, Block, everywhere, nodes_deep, nodes_below}
use Rattle.nodes.proofs.RoomBlocks.{deep_step}

-- ---- The nodes below a node, slot by slot.

-- The number stands where there is a route.
pub some_number : (t : List Route) (n : ℕ) → 0 < length t → or_none t n ≡ n
some_number [] n h = absurd (omega arith)
some_number (r ∷ t) n h = refl

-- One more slot.
pub slot-nodes-next : (nodes : ℕ → List Route → ℕ) (m a : ℕ) (t : List Route) (c : ℕ)
    → slot_nodes wide nodes m a t (c + 1) ≡ slot_nodes wide nodes m a t c + nodes_at wide nodes m a t c
unfolding sum_to
slot-nodes-next nodes m a t c = rw add-one

-- The same of a number for each node.
times_next : (most : ℕ) (nodes : ℕ → List Route → ℕ) (m a : ℕ) (t : List Route) (c : ℕ)
    → most * slot_nodes wide nodes m a t (c + 1) ≡ most * slot_nodes wide nodes m a t c + most * nodes_at wide nodes m a t c
times_next most nodes m a t c =
    ap (λ (n : ℕ). most * n) (slot-nodes-next nodes m a t c) ∙ mul-add most (slot_nodes wide nodes m a t c) (nodes_at wide nodes m a t c)

-- A node and those of its slots.
pub nodes-below-next : (k a : ℕ) (t : List Route) → nodes_below (suc k) a t ≡ 1 + slot_nodes wide (nodes_below k) (5 * k) a t 32
unfolding nodes_in
nodes-below-next k a t = let size : 5 * suc k - 5 ≡ 5 * k = omega arith in rw size

-- The same of a node at this depth.
pub nodes-below-deep : (depth level a : ℕ) (t : List Route) → depth ≡ level * 5 → depth ≤ 60
    → nodes_below (nodes_deep depth) a t ≡ 1 + slot_nodes wide (nodes_below (nodes_deep (depth + 5))) (slot_size depth) a t 32
nodes-below-deep depth level a t e le =
    let d = deep_step depth level e le in
    rw (d.0, ← d.1) (nodes-below-next (nodes_deep (depth + 5)) a t)

-- ---- The nodes of the slots that are walked.

-- Of each slot the routes s have all of those of t, or none.
abbrev pub Selects : ℕ → ℕ → List Route → List Route → Type 0
Selects m a t s =
    (c : ℕ) → (inside wide m (place_at m a 5 c) s ≡ []) ⊎ (inside wide m (place_at m a 5 c) s ≡ inside wide m (place_at m a 5 c) t)

-- So they have no more nodes there.
pub slot-nodes_le : (nodes : ℕ → List Route → ℕ) (m a : ℕ) (t s : List Route) → Selects m a t s → (c : ℕ)
    → slot_nodes wide nodes m a s c ≤ slot_nodes wide nodes m a t c
unfolding sum_to
slot-nodes_le nodes m a t s some zero = omega arith
slot-nodes_le nodes m a t s some (suc c) = omega (arith, slot-nodes_le nodes m a t s some c, at (some c))
  where
    at : (inside wide m (place_at m a 5 c) s ≡ []) ⊎ (inside wide m (place_at m a 5 c) s ≡ inside wide m (place_at m a 5 c) t)
        → nodes_at wide nodes m a s c ≤ nodes_at wide nodes m a t c
    at (inl e) = rw e (omega arith)
    at (inr e) = rw e (omega arith)

-- ---- Lengths.

-- The block of every node is at most so long by its nodes.
abbrev pub Sized : ℕ → (ℕ → List Route → List ℕ → Type 0) → (ℕ → List Route → ℕ) → Type 0
Sized most block nodes = (a : ℕ) (t : List Route) (u : List ℕ) → block a t u → length u ≤ most * nodes a t

module _ (most : ℕ) (block : ℕ → List Route → List ℕ → Type 0) (nodes : ℕ → List Route → ℕ) (sized : Sized most block nodes) where
  -- So is that of a slot.
  pub slot-length : (a : ℕ) (t : List Route) (u : List ℕ) → SlotBlock block a t u → length u ≤ most * or_none t (nodes a t)
  slot-length a [] u e = rw e (omega arith)
  slot-length a (r ∷ t) u b = sized a (r ∷ t) u b

  module _ (m a : ℕ) (t : List Route) where
    -- And those of the last d slots.
    last_length : (d : ℕ) (v : List ℕ) → d ≤ 32 → SlotBlocks block m a t d v
        → length v + most * slot_nodes wide nodes m a t (32 - d) ≤ most * slot_nodes wide nodes m a t 32
    unfolding SlotBlocks
    last_length zero v le e = rw e (omega arith)
    last_length (suc d) ws le (u, v, e, s, b) =
        let c : 32 - d ≡ (31 - d) + 1 = omega arith in
        let f : 32 - suc d ≡ 31 - d = omega arith in
        let ih : length v + most * slot_nodes wide nodes m a t ((31 - d) + 1) ≤ most * slot_nodes wide nodes m a t 32 =
        rw c at (last_length d v (omega arith) b) in
        let n : length ws ≡ length u + length v = ap length e ∙ length-append u v in
        rw f (omega (arith, times_next most nodes m a t (31 - d), slot-length (place_at m a 5 (31 - d)) (inside wide m (place_at m a 5 (31 - d)) t) u s))

    -- The slots from c on leave the room for those before them.
    pub slots_length : (c : ℕ) (v : List ℕ) → c ≤ 32 → SlotBlocks block m a t (32 - c) v
        → length v + most * slot_nodes wide nodes m a t c ≤ most * slot_nodes wide nodes m a t 32
    slots_length c v le b =
        let e : 32 - (32 - c) ≡ c = omega arith in
        rw e at (last_length (32 - c) v (omega arith) b)

module _ (most : ℕ) (deeper : ℕ → ℕ → List Route → List Route) (selects : (m a : ℕ) (t : List Route) → Selects m a t (deeper m a t))
    (own : ℕ → ℕ → List Route → List ℕ → Type 0) (sized : (m a : ℕ) (t : List Route) (u : List ℕ) → own m a t u → length u ≤ most) where
  -- A node's block is at most so long, if no node has more own words.
  pub block_by_length : (k : ℕ) → Sized most (BlockBy deeper own k) (nodes_below k)
  unfolding BlockBy
  block_by_length zero a t ws b = absurd b
  block_by_length (suc k) a t ws (u, v, e, o, b) =
      let n : length ws ≡ length u + length v = ap length e ∙ length-append u v in
      let walked : slot_nodes wide (nodes_below k) (5 * k) a (deeper (5 * k) a t) 32 ≤ slot_nodes wide (nodes_below k) (5 * k) a t 32 =
      slot-nodes_le (nodes_below k) (5 * k) a t (deeper (5 * k) a t) (selects (5 * k) a t) 32 in
      let all = mul-le-mul_left most walked in
      rw nodes-below-next
      (omega (arith, sized (5 * k) a t u o, slots_length most (BlockBy deeper own k) (nodes_below k) (block_by_length k) (5 * k) a (deeper (5 * k) a t) 0 v (omega arith) b))

-- The same where all slots are walked.
pub block-length : (most : ℕ) (own : ℕ → ℕ → List Route → List ℕ → Type 0)
    → ((m a : ℕ) (t : List Route) (u : List ℕ) → own m a t u → length u ≤ most) → (k : ℕ) → Sized most (Block own k) (nodes_below k)
block-length most own = block_by_length most everywhere (λ m a t c. inr refl) own

-- ---- The room left. Before slot c is met from the back, there is room for the slots up to it and for the node itself.
module _ (most : ℕ) (nodes : ℕ → List Route → ℕ) (m a : ℕ) (t : List Route) where
  -- There is room for the block of slot c, which is none where the slot has no route.
  pub room-slot : (c at : ℕ) → most * (1 + slot_nodes wide nodes m a t (c + 1)) ≤ at → most * nodes_at wide nodes m a t c ≤ at
  room-slot c at h = omega (arith, times_next most nodes m a t c)

  pub room_child : (c at : ℕ) → most * (1 + slot_nodes wide nodes m a t (c + 1)) ≤ at → 0 < length (inside wide m (place_at m a 5 c) t)
      → most * nodes (place_at m a 5 c) (inside wide m (place_at m a 5 c) t) ≤ at
  room_child c at h s =
      let e = some_number (inside wide m (place_at m a 5 c) t) (nodes (place_at m a 5 c) (inside wide m (place_at m a 5 c) t)) s in
      rw e at (room-slot c at h)

  -- After it there is room for the slots before it.
  pub room_step : (c at at' : ℕ) → most * (1 + slot_nodes wide nodes m a t (c + 1)) ≤ at → at ≤ at' + most * nodes_at wide nodes m a t c
      → most * (1 + slot_nodes wide nodes m a t c) ≤ at'
  room_step c at at' h s = omega (arith, times_next most nodes m a t c)

  -- There is always room for the node's own words.
  pub room-own : (c at : ℕ) → most * (1 + slot_nodes wide nodes m a t c) ≤ at → most ≤ at
  room-own c at h = omega arith
