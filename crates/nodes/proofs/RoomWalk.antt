-- The loops over a node's slots, a step at a time: that which lays the blocks of the slots from the last to the first, then the node's own
-- words, and that which reads the own words, then the blocks from the first slot to the last.
use Prim.Native.Nat.{ℕ, ◌+◌, ◌-◌, ◌*◌, ◌≤◌, ◌<◌}
use mathlib.Core.Path.{◌≡◌, refl, ap, ◌∙◌}
use mathlib.Core.List.{List, [], ◌++◌}
use native.Mathlib.Omega.{arith}
use lib.ListN.{length, length-append}
use Rattle.theory.specs.Routes.{Route}
use Rattle.nodecount.specs.Walk.{slot_nodes}
use Rattle.positions.specs.Runs.{inside, place_at}
use Rattle.nodes.specs.Node.{wide, run, slot_size, Node}
use Rattle.nodes.specs.Room.{Pushed, Begins, SlotBlocks, BlockBy, nodes_deep, StoredBy, SlotsLaid, SlotsAhead}
use Rattle.nodes.proofs.RoomBlocks.{BlockAt, NodeBlock, slot_none, slot-empty, slots-start, slots_down, slots_up, slots_end, block_by_deep}
use Rattle.nodes.proofs.RoomLaws.{pushed_none, pushed_then, pushed-length, begins-left, begins-right}
use Rattle.nodes.proofs.RoomSizes.{Sized, slot-length, room_step}

-- ---- Laying.

module _ (most : ℕ) (block : ℕ → List Route → List ℕ → Type 0) (nodes : ℕ → List Route → ℕ) (m a : ℕ) (t : List Route) where
  -- Before the last slot.
  pub laid-start : (top : ℕ) (o : List ℕ) → most * (1 + slot_nodes wide nodes m a t 32) ≤ top → SlotsLaid most block nodes m a t 32 top top o o
  laid-start top o h = record { words = []; pushed = pushed_none top o; blocks = slots-start block m a t; room = h }

  module _ (sized : Sized most block nodes) {b c top at : ℕ} {o o₁ : List ℕ} (h : SlotsLaid most block nodes m a t b top at o o₁)
      (e : b ≡ c + 1) (lt : b ≤ 32) (le : top ≤ length o) where
    -- The block of slot c is laid.
    pub laid_next : {u : List ℕ} {r : ℕ} {o₂ : List ℕ} → BlockAt block m a t c u → Pushed u at r o₁ o₂ → SlotsLaid most block nodes m a t c top r o o₂
    laid_next {u} {r} s p =
        let n = slot-length most block nodes sized (place_at m a 5 c) (inside wide m (place_at m a 5 c) t) u s in
        let q = p.ends in
        record {
          words = u ++ h.words;
          pushed = pushed_then h.pushed p le;
          blocks = slots_down block m a t c u h.words (omega arith) (rw e at h.blocks) s;
          room = room_step most nodes m a t c at r (rw e at h.room) (omega arith);
        }

    -- Slot c has no route.
    pub laid_skip : inside wide m (place_at m a 5 c) t ≡ [] → SlotsLaid most block nodes m a t c top at o o₁
    laid_skip none = laid_next (slot_none block (place_at m a 5 c) none) (pushed_none at o₁)

  -- The room keeps its length.
  pub laid-length : {c top at : ℕ} {o o₁ : List ℕ} → SlotsLaid most block nodes m a t c top at o o₁ → top ≤ length o → length o₁ ≡ length o
  laid-length h le = pushed-length h.pushed le

  -- The node's own words are laid: its block stands there.
  pub laid-own : (own : ℕ → ℕ → List Route → List ℕ → Type 0) {top at r : ℕ} {u : List ℕ} {o o₁ o₂ : List ℕ}
      → SlotsLaid most block nodes m a t 0 top at o o₁ → top ≤ length o → own m a t u → Pushed u at r o₁ o₂
      → (ws : List ℕ) × NodeBlock own block m a t ws × Pushed ws top r o o₂
  laid-own own {u = u} h le w p = (u ++ h.words, (u, h.words, refl, w, h.blocks), pushed_then h.pushed p le)

-- ---- Reading.

-- Wherever a block of the node begins at top, the blocks of its slots from c on stand from `at` to the block's end.
pub record Ahead (deeper : ℕ → ℕ → List Route → List Route) (own : ℕ → ℕ → List Route → List ℕ → Type 0) (t : List Route) (depth key top : ℕ)
    (o : List ℕ) (c at : ℕ) : Type 0 where
  pub each : (ws : List ℕ) → BlockBy deeper own (nodes_deep depth) key t ws → Begins ws top o
      → SlotsAhead (BlockBy deeper own (nodes_deep (depth + 5))) (slot_size depth) key (deeper (slot_size depth) key t) c at (top + length ws) o

-- Words that stand from `at` to `end`, u and then the blocks of the slots from c on: u stands at `at`, and the blocks after it.
parts_ahead : (block : ℕ → List Route → List ℕ → Type 0) (m a : ℕ) (t : List Route) (u v : List ℕ) (c at : ℕ) {end : ℕ} {ws o : List ℕ} → ws ≡ u ++ v
    → Begins ws at o → at + length ws ≡ end → SlotBlocks block m a t (32 - c) v → Begins u at o × SlotsAhead block m a t c (at + length u) end o
parts_ahead block m a t u v c at {ws = ws} {o} e i z s =
    let d : Begins (u ++ v) at o = rw e at i in
    let l : length ws ≡ length u + length v = ap length e ∙ length-append u v in
    (begins-left u v at o d, record { words = v; begins = begins-right u v at o d; blocks = s; ends = omega arith })

-- The own words of a node stand where its block does, and the blocks of its slots after them.
own_first : (deeper : ℕ → ℕ → List Route → List Route) (own : ℕ → ℕ → List Route → List ℕ → Type 0) {size : ℕ} {t : List ℕ} {lo hi depth key : ℕ} (top : ℕ) (o : List ℕ)
    → Node size t lo hi depth key → (ws : List ℕ) → BlockBy deeper own (nodes_deep depth) key (run size t lo hi) ws → Begins ws top o
    → (u : List ℕ)
    × own (slot_size depth) key (run size t lo hi) u
    × Begins u top o
    × SlotsAhead (BlockBy deeper own (nodes_deep (depth + 5))) (slot_size depth) key (deeper (slot_size depth) key (run size t lo hi)) 0 (top + length u)
    (top + length ws) o
own_first deeper own {size} {t} {lo} {hi} {depth} {key} top o n ws b i =
    let p = (block_by_deep deeper own key (run size t lo hi) ws depth n.level n.fives n.at.deep).0 b in
    let q = parts_ahead (BlockBy deeper own (nodes_deep (depth + 5))) (slot_size depth) key (deeper (slot_size depth) key (run size t lo hi)) p.0 p.1 0 top p.2 i refl p.4 in
    (p.0, p.3, q.0, q.1)

module _ {deeper : ℕ → ℕ → List Route → List Route} {own : ℕ → ℕ → List Route → List ℕ → Type 0} {size : ℕ} {t : List ℕ} {lo hi depth key top : ℕ}
    {o : List ℕ}
    (n : Node size t lo hi depth key) where
  -- Of a node that is stored they are read there.
  pub own-stored : StoredBy deeper own (nodes_deep depth) key (run size t lo hi) top o
      → (u : List ℕ) × own (slot_size depth) key (run size t lo hi) u × Begins u top o
  own-stored s = let p = own_first deeper own top o n s.words s.block s.begins in (p.0, p.1, p.2)

  -- Where they end the blocks of the slots stand.
  pub ahead_start : {at : ℕ} → ((u : List ℕ) → own (slot_size depth) key (run size t lo hi) u → Begins u top o → at ≡ top + length u)
      → Ahead deeper own (run size t lo hi) depth key top o 0 at
  ahead_start ends = record { each = λ ws b i. let p = own_first deeper own top o n ws b i in rw (ends p.0 p.1 p.2) p.3 }

module _ {deeper : ℕ → ℕ → List Route → List Route} {own : ℕ → ℕ → List Route → List ℕ → Type 0} {t : List Route} {depth key top : ℕ} {o : List ℕ}
    {c at : ℕ} (h : Ahead deeper own t depth key top o c at) where
  -- The block of slot c stands at `at`, and after it those of the others.
  first_ahead : c < 32 → (ws : List ℕ) → BlockBy deeper own (nodes_deep depth) key t ws → Begins ws top o
      → (u : List ℕ)
      × BlockAt (BlockBy deeper own (nodes_deep (depth + 5))) (slot_size depth) key (deeper (slot_size depth) key t) c u
      × Begins u at o
      × SlotsAhead (BlockBy deeper own (nodes_deep (depth + 5))) (slot_size depth) key (deeper (slot_size depth) key t) (c + 1) (at + length u)
      (top + length ws) o
  first_ahead lt ws b i =
      let a = h.each ws b i in
      let block = BlockBy deeper own (nodes_deep (depth + 5)) in
      let routes = deeper (slot_size depth) key t in
      let p = slots_up block (slot_size depth) key routes c lt a.blocks in
      let q = parts_ahead block (slot_size depth) key routes p.0 p.1 (c + 1) at p.2 a.begins a.ends p.4 in
      (p.0, p.3, q.0, q.1)

  -- In a node that is stored it is read there.
  pub ahead_stored : c < 32 → StoredBy deeper own (nodes_deep depth) key t top o
      → (u : List ℕ)
      × BlockAt (BlockBy deeper own (nodes_deep (depth + 5))) (slot_size depth) key (deeper (slot_size depth) key t) c u
      × Begins u at o
  ahead_stored lt s = let p = first_ahead lt s.words s.block s.begins in (p.0, p.1, p.2)

  -- Where it ends those of the others stand.
  pub ahead_next : {r : ℕ} → c < 32
      → ((u : List ℕ) → BlockAt (BlockBy deeper own (nodes_deep (depth + 5))) (slot_size depth) key (deeper (slot_size depth) key t) c u
      → Begins u at o → r ≡ at + length u)
      → Ahead deeper own t depth key top o (c + 1) r
  ahead_next lt ends = record { each = λ ws b i. let p = first_ahead lt ws b i in rw (ends p.0 p.1 p.2) p.3 }

  -- A slot without a route has none.
  pub ahead_skip : c < 32 → inside wide (slot_size depth) (place_at (slot_size depth) key 5 c) (deeper (slot_size depth) key t) ≡ []
      → Ahead deeper own t depth key top o (c + 1) at
  ahead_skip lt none =
      ahead_next lt (λ u b i.
      let e : u ≡ [] = slot-empty (BlockBy deeper own (nodes_deep (depth + 5))) (place_at (slot_size depth) key 5 c) none b in
      rw e (omega arith))

  -- After the last slot the block has ended.
  pub ahead_end : c ≡ 32 → (ws : List ℕ) → BlockBy deeper own (nodes_deep depth) key t ws → Begins ws top o → at ≡ top + length ws
  ahead_end e ws b i =
      let a = h.each ws b i in
      let z : length a.words ≡ 0 =
      ap length (slots_end (BlockBy deeper own (nodes_deep (depth + 5))) (slot_size depth) key (deeper (slot_size depth) key t) c e a.blocks) in
      let l = a.ends in
      omega arith
