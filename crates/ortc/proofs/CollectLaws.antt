-- The first walk of a node: its sets and its blocks by those of its slots, from the last slot to the first.
use Prim.Native.Nat.{ℕ, ◌+◌, ◌-◌, ◌*◌, ◌/◌, ◌^◌, ◌≤◌, ◌<◌}
use mathlib.Core.Path.{◌≡◌, refl, sym, ap, subst, ◌∙◌}
use mathlib.Core.List.{List, []}
use mathlib.Core.Logic.{◌⊎◌, inl, inr}
use native.Mathlib.Nat.{eq-or-lt_of_le}
use native.Mathlib.Omega.{arith}
use lib.ListN.{length, get_or, set, length-set}
use lib.Seq.{get_or-set_same, get_or-set_other}
use Rattle.theory.specs.Routes.{Route, Answer}
use Rattle.theory.specs.Results.{sets}
use Rattle.theory.proofs.Agree.{sets-agree}
use Rattle.theory.proofs.Uniform.{sets_uniform}
use Rattle.words.specs.Bits.{LastBit}
use Rattle.words.specs.Positions.{position}
use Rattle.nodecount.specs.Walk.{slot_nodes}
use Rattle.positions.specs.Runs.{hop_of, or_else, place_at}
use Rattle.hops.specs.Sets.{ShowsSet}
use Rattle.nodes.specs.Node.{wide, run, slot_size, Node}
use Rattle.nodes.specs.Room.{Pushed, Block, nodes_deep, nodes_below, Laid, SlotsLaid}
use Rattle.nodes.proofs.RoomLaws.{pushed-length}
use Rattle.nodes.proofs.RoomBlocks.{block-deep}
use Rattle.nodes.proofs.RoomSizes.{Sized, nodes-below-deep, block-length, room_child}
use Rattle.nodes.proofs.RoomWalk.{laid-start, laid_next, laid_skip, laid-own}
use Rattle.gather.specs.Gathered.{run_at, Gathered, Occupied, covering_at}
use Rattle.gather.proofs.GatherLaws.{slot-records, no_child, slot_vacant}
use Rattle.gather.proofs.BusySlots.{last_steps}
use Rattle.assign.specs.Answers.{answer_in, ShowsNode, set_words}
use Rattle.assign.specs.Packed.{packed}
use Rattle.assign.proofs.PackedLaws.{packed-length}
use Rattle.assign.proofs.LeafLaws.{leaf_at}
use Rattle.ortc.proofs.SlotLaws.{slot_alike, slot-some-routes, slot-block}

-- ---- The words of a node.

-- The first set of a node is the node's.
pub node-set : {f : ℕ → Answer} {m a : ℕ} {xs : List ℕ} → ShowsNode f m a xs → ShowsSet (get_or xs 0 0) (sets f (m + 5) a)
node-set {f} {m} {a} {xs} s =
    let e : place_at m a 0 0 ≡ a = omega arith in
    rw e at (s.places 0 0 (omega arith) (omega arith))

-- A node has at most 63 words, so a block has at most 160 for each of its nodes.
pub sets-sized : (f : ℕ → Answer) (k : ℕ) → Sized 160 (Block (set_words f) k) (nodes_below k)
sets-sized f k =
    block-length 160 (set_words f)
    (λ m a t u w. subst (λ (v : List ℕ). length v ≤ 160) (sym w.2) (omega (arith, packed-length w.0))) k

-- ---- The loop over the slots of a node that have a record, from the last to the first.

-- The set of slot i is in its place.
abbrev pub Shown : (ℕ → Answer) → ℕ → ℕ → List ℕ → ℕ → Type 0
Shown f depth key slots i = ShowsSet (get_or slots (31 + i) 0) (sets f (slot_size depth) (place_at (slot_size depth) key 5 i))

-- The sets of the slots from c on are in their places, those before have their leaves, and the blocks of the slots from c on that have a
-- record are laid.
pub record Collecting (f : ℕ → Answer) (covering : List ℕ) (fill depth key : ℕ) (t : List Route) (c top at : ℕ) (slots o o' : List ℕ) : Type 0 where
  pub count : length slots ≡ 63
  pub ahead : (i : ℕ) → i < c → ShowsSet (get_or slots (31 + i) 0) (leaf_at covering fill i)
  pub shown : (i : ℕ) → c ≤ i → i < 32 → Shown f depth key slots i
  pub laid : SlotsLaid 160 (Block (set_words f) (nodes_deep (depth + 5))) (nodes_below (nodes_deep (depth + 5))) (slot_size depth) key t c top at o o'

-- Before the last slot.
pub collecting_start : {size : ℕ} {t : List ℕ} {lo hi depth key : ℕ} (f : ℕ → Answer) (covering : List ℕ) (fill top : ℕ) (slots o : List ℕ)
    → Node size t lo hi depth key
    → 160 * nodes_below (nodes_deep depth) key (run size t lo hi) ≤ top → length slots ≡ 63
    → ((i : ℕ) → i < 32 → ShowsSet (get_or slots (31 + i) 0) (leaf_at covering fill i))
    → Collecting f covering fill depth key (run size t lo hi) 32 top top slots o o
collecting_start {size} {t} {lo} {hi} {depth} {key} f covering fill top slots o n room e leaves =
    record {
      count = e;
      ahead = leaves;
      shown = λ i le lt. absurd (omega arith);
      laid = laid-start 160 _ _ (slot_size depth) key (run size t lo hi) top o
          (rw (nodes-below-deep depth n.level key (run size t lo hi) n.fives n.at.deep) at room);
    }

-- What is laid ends in the room, and there is room for the node's own words.
pub collecting_within : {f : ℕ → Answer} {covering : List ℕ} {fill depth key : ℕ} {t : List Route} {c top at : ℕ} {slots o o₁ : List ℕ}
    → Collecting f covering fill depth key t c top at slots o o₁ → top ≤ length o → (length o₁ ≡ length o) × ((63 ≤ at) × (at ≤ length o₁))
collecting_within h le =
    let e = pushed-length h.laid.pushed le in
    let ends = h.laid.pushed.ends in
    let room = h.laid.room in
    (e, (omega arith, omega arith))

-- What holds of slot c and of the slots after it holds from c on.
from_slot : (P : ℕ → Type 0) (c : ℕ) → P c → ((i : ℕ) → c + 1 ≤ i → i < 32 → P i) → (i : ℕ) → c ≤ i → i < 32 → P i
from_slot P c here after i le lt = go (eq-or-lt_of_le le)
  where
    go : (c ≡ i) ⊎ (c < i) → P i
    go (inl same) = subst P same here
    go (inr later) = after i (omega arith) lt

-- The slots of a node whose positions are covered by `covering`.
module _ {size : ℕ} {t : List ℕ} {lo hi depth key : ℕ} {first end : List ℕ} {present : ℕ} (n : Node size t lo hi depth key)
    (g : Gathered size t lo hi depth key first end present) (inherited fill : ℕ) (covering : List ℕ)
    (is : (l j : ℕ) → l ≤ 4 → j < 2 ^ l → get_or covering (position l j) 0 ≡ covering_at size t first end inherited l j) where
  -- What the node answers, and what slot c does.
  abbrev in_node : ℕ → Answer
  in_node = answer_in (run size t lo hi) (hop_of inherited) (hop_of fill)

  abbrev in_slot : ℕ → ℕ → Answer
  in_slot c = answer_in (run_at size t first end (31 + c)) (hop_of (get_or covering (15 + c / 2) 0)) (hop_of fill)

  -- The hop that covers the position above slot c.
  over-slot : (c : ℕ) → c < 32 → get_or covering (15 + c / 2) 0 ≡ covering_at size t first end inherited 4 (c / 2)
  over-slot c lt = is 4 (c / 2) (omega arith) (omega arith)

  -- Slot c has the same candidates in the node as by its own routes.
  slot-sets : (c : ℕ) → c < 32
      → sets in_node (slot_size depth) (place_at (slot_size depth) key 5 c) ≡ sets (in_slot c) (slot_size depth) (place_at (slot_size depth) key 5 c)
  slot-sets c lt =
      sets-agree in_node (in_slot c) (slot_size depth) (place_at (slot_size depth) key 5 c) (slot_alike n g inherited fill c lt (over-slot c lt))

  -- A slot without records has those of its leaf.
  vacant_sets : (c : ℕ) → c < 32 → get_or end (31 + c) 0 ≤ get_or first (31 + c) 0
      → sets in_node (slot_size depth) (place_at (slot_size depth) key 5 c) ≡ leaf_at covering fill c
  vacant_sets c lt none =
      let z : run_at size t first end (31 + c) ≡ [] = slot-records g c lt ∙ no_child g c lt none in
      slot-sets c lt
      ∙ sets_uniform (in_slot c) (or_else (hop_of (get_or covering (15 + c / 2) 0)) (hop_of fill)) (slot_size depth) (place_at (slot_size depth) key 5 c)
      (λ x i. ap (λ (rs : List Route). answer_in rs (hop_of (get_or covering (15 + c / 2) 0)) (hop_of fill) x) z)

  -- The walk has come to slot c.
  abbrev At : ℕ → ℕ → ℕ → List ℕ → List ℕ → List ℕ → Type 0
  At = Collecting in_node covering fill depth key (run size t lo hi)

  module _ (top at : ℕ) (slots o o₁ : List ℕ) (within : top ≤ length o) where
    -- A slot without records is done by its leaf,
    collecting_leaf : (c : ℕ) → c < 32 → get_or end (31 + c) 0 ≤ get_or first (31 + c) 0 → At (c + 1) top at slots o o₁ → At c top at slots o o₁
    collecting_leaf c lt none h =
        record {
          count = h.count;
          ahead = λ i before. h.ahead i (omega arith);
          shown = from_slot (Shown in_node depth key slots) c (rw (vacant_sets c lt none) (h.ahead c (omega arith))) h.shown;
          laid = laid_skip 160 _ _ (slot_size depth) key (run size t lo hi) (sets-sized in_node (nodes_deep (depth + 5))) h.laid refl (omega arith) within
              (no_child g c lt none);
        }

    -- and so are those down to one past the last slot before b that has a record.
    pub collecting_seek : {occupied b r : ℕ} → Occupied size t lo hi depth key occupied → LastBit occupied b r → b ≤ 32
        → At b top at slots o o₁ → At r top at slots o o₁
    collecting_seek {occupied} occ last le =
        last_steps (λ c. At c top at slots o o₁) last (λ i lt off. collecting_leaf i (omega arith) (slot_vacant g occupied occ i (omega arith) off))

  -- Slot c, which has records:
  module _ {top at : ℕ} {slots o o₁ : List ℕ} {b : ℕ} (h : At b top at slots o o₁)
      (within : top ≤ length o) (c : ℕ) (e : b ≡ c + 1) (le : b ≤ 32) (some : get_or first (31 + c) 0 < get_or end (31 + c) 0) (slot : ℕ)
      (here : slot ≡ place_at (slot_size depth) key 5 c) where
    small : c < 32
    small = omega arith

    -- There is room for the node in it,
    pub collecting_room : 160 * nodes_below (nodes_deep (depth + 5)) slot (run_at size t first end (31 + c)) ≤ at
    collecting_room =
        let room : 160 * (1 + slot_nodes wide (nodes_below (nodes_deep (depth + 5))) (slot_size depth) key (run size t lo hi) (c + 1)) ≤ at = rw e at h.laid.room in
        rw (here, slot-records g c small)
        (room_child 160 (nodes_below (nodes_deep (depth + 5))) (slot_size depth) key (run size t lo hi) c at room
        (slot-some-routes n g inherited fill c small (over-slot c small) some))

    -- and it is done by that node.
    pub collecting_child : (v : ℕ) {r : ℕ} {o₂ : List ℕ} → ShowsSet v (sets (in_slot c) (wide - (depth + 5)) slot)
        → Laid (set_words (in_slot c)) (nodes_deep (depth + 5)) slot (run_at size t first end (31 + c)) at r o₁ o₂
        → At c top r (set slots (31 + c) v) o o₂
    collecting_child v shows laid =
        record {
          count = length-set slots (31 + c) v ∙ h.count;
          ahead = λ i before. rw (get_or-set_other slots (31 + c) (31 + i) v 0 (λ z. omega arith)) (h.ahead i (omega arith));
          shown = from_slot (Shown in_node depth key (set slots (31 + c) v)) c
              (rw (get_or-set_same slots (31 + c) v 0 (omega (arith, h.count)), slot-sets c small) (rw (bits_below, here) at shows))
              (λ i after lt. rw (get_or-set_other slots (31 + c) (31 + i) v 0 (λ z. omega arith)) (h.shown i (omega arith) lt));
          laid = laid_next 160 _ _ (slot_size depth) key (run size t lo hi) (sets-sized in_node (nodes_deep (depth + 5))) h.laid e le within
              ((slot-block n g inherited fill c small (over-slot c small) some laid.words).1 (rw here at laid.block))
              laid.pushed;
        }
      where
        bits_below : wide - (depth + 5) ≡ slot_size depth
        bits_below = omega (arith, n.at.deep)

-- After the first slot the node's own words are laid.
pub collecting_end : {size : ℕ} {t : List ℕ} {lo hi depth key : ℕ} {f : ℕ → Answer} {covering : List ℕ} {fill top at r : ℕ}
    {slots xs o o₁ o₂ : List ℕ} → Node size t lo hi depth key
    → Collecting f covering fill depth key (run size t lo hi) 0 top at slots o o₁ → top ≤ length o
    → ShowsNode f (slot_size depth) key xs → Pushed (packed xs) at r o₁ o₂
    → ShowsSet (get_or xs 0 0) (sets f (wide - depth) key) × Laid (set_words f) (nodes_deep depth) key (run size t lo hi) top r o o₂
collecting_end {size} {t} {lo} {hi} {depth} {key} {f} {xs = xs} n h within shows pushed =
    let bits_below : wide - depth ≡ slot_size depth + 5 = omega (arith, n.at.deep) in
    let w = laid-own 160 _ _ (slot_size depth) key (run size t lo hi) (set_words f) h.laid within (xs, shows, refl) pushed in (
      rw bits_below (node-set shows),
      record { words = w.0; block = (block-deep (set_words f) key (run size t lo hi) w.0 depth n.level n.fives n.at.deep).1 w.1; pushed = w.2 },
    )
