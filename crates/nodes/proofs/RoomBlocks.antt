-- A node's block in the work room, by the blocks of its slots: one slot after another, from the last to the first and from the first on.
use Prim.Native.Nat.{ℕ, zero, suc, ◌+◌, ◌-◌, ◌*◌, ◌≤◌, ◌<◌}
use mathlib.Core.Path.{◌≡◌, refl, sym, ap, subst, ◌∙◌}
use mathlib.Core.List.{List, [], ◌∷◌, ◌++◌}
use mathlib.Core.Logic.{◌↔◌}
use native.Mathlib.Omega.{arith}
use lib.ListN.{length}
use Rattle.theory.specs.Routes.{Route}
use Rattle.records.specs.Sized.{routes_from_in}
use Rattle.records.proofs.SizedReading.{in_length_from}
use Rattle.positions.specs.Runs.{inside, place_at}
use Rattle.positions.proofs.Runs.{Nested, nested_self, inside_nested}
use Rattle.positions.proofs.RunsNode.{size-slot, place_nested}
use Rattle.positions.proofs.Wide.{length-widen}
use Rattle.nodes.specs.Node.{wide, spare, run, slot_size}
use Rattle.nodes.specs.Room.{SlotBlock, SlotBlocks, BlockBy, Block, everywhere, nodes_deep}

-- A slot lies in its node.
slot_nested : (m a c : ℕ) → c < 32 → Nested m (place_at m a 5 c) (m + 5) a
slot_nested m a c lt = subst (λ (k : ℕ). Nested k (place_at m a 5 c) (m + 5) a) (size-slot m) (place_nested m a 5 c (omega arith) lt)

-- ---- The block of a slot.

-- A run has a route for each of its records.
pub run_length : (size : ℕ) (t : List ℕ) (lo hi : ℕ) → length (run size t lo hi) ≡ hi - lo
run_length size t lo hi = length-widen (spare size) (routes_from_in size t lo (hi - lo)) ∙ in_length_from size t lo (hi - lo)

module _ (block : ℕ → List Route → List ℕ → Type 0) (a : ℕ) where
  -- A slot without a route has no words.
  pub slot_none : {t : List Route} → t ≡ [] → SlotBlock block a t []
  slot_none e = rw e refl

  pub slot-empty : {t : List Route} {u : List ℕ} → t ≡ [] → SlotBlock block a t u → u ≡ []
  slot-empty e b = rw e at b

  -- That of one with a route is the block of the node there.
  pub slot-some : (t : List Route) (u : List ℕ) → 0 < length t → SlotBlock block a t u ↔ block a t u
  slot-some [] u h = absurd (omega arith)
  slot-some (r ∷ t) u h = (λ b. b, λ b. b)

-- ---- The blocks of a node's slots. Slot c is one of the last 32 - c.

module _ (block : ℕ → List Route → List ℕ → Type 0) (m a : ℕ) (t : List Route) where
  -- Is u the block of slot c?
  abbrev pub BlockAt : ℕ → List ℕ → Type 0
  BlockAt c u = SlotBlock block (place_at m a 5 c) (inside wide m (place_at m a 5 c) t) u

  -- No slots, no words.
  pub slots-start : SlotBlocks block m a t 0 []
  unfolding SlotBlocks
  slots-start = refl

  pub slots_end : {ws : List ℕ} (c : ℕ) → c ≡ 32 → SlotBlocks block m a t (32 - c) ws → ws ≡ []
  unfolding SlotBlocks
  slots_end c e b = rw e at b

  -- One more slot before those that are there.
  pub slots_down : (c : ℕ) (u v : List ℕ) → c < 32 → SlotBlocks block m a t (32 - (c + 1)) v → BlockAt c u → SlotBlocks block m a t (32 - c) (u ++ v)
  unfolding SlotBlocks
  slots_down c u v lt b s =
      let e : 32 - c ≡ suc (32 - (c + 1)) = omega arith in
      let f : 31 - (32 - (c + 1)) ≡ c = omega arith in
      rw e (u, v, refl, rw f s, b)

  -- The first of those that are left, and the others.
  pub slots_up : (c : ℕ) {ws : List ℕ} → c < 32 → SlotBlocks block m a t (32 - c) ws
      → (u : List ℕ) × (v : List ℕ) × (ws ≡ u ++ v) × BlockAt c u × SlotBlocks block m a t (32 - (c + 1)) v
  unfolding SlotBlocks
  slots_up c {ws} lt b =
      let e : 32 - c ≡ suc (32 - (c + 1)) = omega arith in
      let f : 31 - (32 - (c + 1)) ≡ c = omega arith in
      rw f at (rw e at b)

-- ---- The block of a node.

-- Are ws the own words of the node (m + 5, a), then the blocks of its slots?
abbrev pub NodeBlock : (ℕ → ℕ → List Route → List ℕ → Type 0) → (ℕ → List Route → List ℕ → Type 0) → ℕ → ℕ → List Route → List ℕ → Type 0
NodeBlock own block m a t ws = (u : List ℕ) × (v : List ℕ) × (ws ≡ u ++ v) × own m a t u × SlotBlocks block m a t 32 v

-- From one depth to the next: one node less, and its slots of that size.
pub deep_step : (depth level : ℕ) → depth ≡ level * 5 → depth ≤ 60
    → (nodes_deep depth ≡ suc (nodes_deep (depth + 5))) × (5 * nodes_deep (depth + 5) ≡ slot_size depth)
deep_step depth level e le = omega arith

module _ (deeper : ℕ → ℕ → List Route → List Route) (own : ℕ → ℕ → List Route → List ℕ → Type 0) (a : ℕ) (t : List Route) (ws : List ℕ) where
  -- The block of a node by its parts: its own words, by its routes, and the blocks of its slots that are walked, by those of its routes.
  pub block_by_node : (k : ℕ) → BlockBy deeper own (suc k) a t ws ↔ NodeBlock (λ m b s. own m b t) (BlockBy deeper own k) (5 * k) a (deeper (5 * k) a t) ws
  unfolding BlockBy
  block_by_node k = (λ b. b, λ b. b)

  -- The same of a node at this depth.
  pub block_by_deep : (depth level : ℕ) → depth ≡ level * 5 → depth ≤ 60
      → BlockBy deeper own (nodes_deep depth) a t ws
      ↔ NodeBlock (λ m b s. own m b t) (BlockBy deeper own (nodes_deep (depth + 5))) (slot_size depth) a (deeper (slot_size depth) a t) ws
  block_by_deep depth level e le =
      let d = deep_step depth level e le in
      rw (d.0, ← d.1) (block_by_node (nodes_deep (depth + 5)))

-- The same where all slots are walked.
pub block-deep : (own : ℕ → ℕ → List Route → List ℕ → Type 0) (a : ℕ) (t : List Route) (ws : List ℕ) (depth level : ℕ) → depth ≡ level * 5 → depth ≤ 60
    → Block own (nodes_deep depth) a t ws ↔ NodeBlock own (Block own (nodes_deep (depth + 5))) (slot_size depth) a t ws
block-deep own = block_by_deep everywhere own

-- ---- Blocks by two rules for the own words.

module _ (block block' : ℕ → List Route → List ℕ → Type 0) where
  -- A slot's block is one by the other rule if its node's is.
  slot_map : (a : ℕ) (t : List Route) (u : List ℕ) → (block a t u → block' a t u) → SlotBlock block a t u → SlotBlock block' a t u
  slot_map a [] u h b = b
  slot_map a (r ∷ t) u h b = h b

  -- The same of the last c slots.
  slots_map : (m a : ℕ) (t : List Route)
      → ((c : ℕ) → c < 32 → (u : List ℕ) → BlockAt block m a t c u → BlockAt block' m a t c u)
      → (c : ℕ) (ws : List ℕ) → SlotBlocks block m a t c ws → SlotBlocks block' m a t c ws
  unfolding SlotBlocks
  slots_map m a t h zero ws b = b
  slots_map m a t h (suc c) ws (u, v, e, s, b) = (u, v, e, h (31 - c) (omega arith) u s, slots_map m a t h c v b)

module _ (own own' : ℕ → ℕ → List Route → List ℕ → Type 0) where
  -- Where P holds of a node the own words are those by the other rule, and P goes down to the slots.
  pub block-map : (P : ℕ → ℕ → List Route → Type 0)
      → ((k a : ℕ) (t : List Route) (u : List ℕ) → P (suc k) a t → own (5 * k) a t u → own' (5 * k) a t u)
      → ((k a : ℕ) (t : List Route) (c : ℕ) → c < 32 → P (suc k) a t
      → P k (place_at (5 * k) a 5 c) (inside wide (5 * k) (place_at (5 * k) a 5 c) t))
      → (k a : ℕ) (t : List Route) (ws : List ℕ) → P k a t → Block own k a t ws → Block own' k a t ws
  unfolding BlockBy
  block-map P same down zero a t ws p b = b
  block-map P same down (suc k) a t ws p (u, v, e, o, b) = (
    u,
    v,
    e,
    same k a t u p o,
    slots_map (Block own k) (Block own' k) (5 * k) a t (λ c lt w.
        let b = place_at (5 * k) a 5 c in
        let s = inside wide (5 * k) b t in
        slot_map (Block own k) (Block own' k) b s w (block-map P same down k b s w (down k a t c lt p)))
        32 v b,
  )

  -- The block of a node's run is one by another rule that agrees at every node in it.
  pub block-agree : (k a : ℕ) (t : List Route) (ws : List ℕ) → inside wide (5 * k) a t ≡ t
      → ((m b : ℕ) (s : List Route) (u : List ℕ) → Nested (m + 5) b (5 * k) a → s ≡ inside wide (m + 5) b t → own m b s u → own' m b s u)
      → Block own k a t ws → Block own' k a t ws
  block-agree k a t ws whole agree =
      block-map (λ j b s. Nested (5 * j) b (5 * k) a × (s ≡ inside wide (5 * j) b t)) same down k a t ws (nested_self (5 * k) a, sym whole)
    where
      up : (j : ℕ) → 5 * suc j ≡ 5 * j + 5
      up j = omega arith

      same : (j b : ℕ) (s : List Route) (u : List ℕ) → Nested (5 * suc j) b (5 * k) a × (s ≡ inside wide (5 * suc j) b t)
          → own (5 * j) b s u → own' (5 * j) b s u
      same j b s u p = agree (5 * j) b s u (rw (up j) at p.0) (rw (up j) at p.1)

      down : (j b : ℕ) (s : List Route) (c : ℕ) → c < 32 → Nested (5 * suc j) b (5 * k) a × (s ≡ inside wide (5 * suc j) b t)
          → Nested (5 * j) (place_at (5 * j) b 5 c) (5 * k) a
          × (inside wide (5 * j) (place_at (5 * j) b 5 c) s ≡ inside wide (5 * j) (place_at (5 * j) b 5 c) t)
      down j b s c lt p =
          let i : Nested (5 * j) (place_at (5 * j) b 5 c) (5 * suc j) b =
          rw (up j) (slot_nested (5 * j) b c lt) in
          let o = p.0 in (
            record { smaller = omega arith; from = omega arith; upto = omega arith },
            ap (inside wide (5 * j) (place_at (5 * j) b 5 c)) p.1 ∙ inside_nested wide i t,
          )
