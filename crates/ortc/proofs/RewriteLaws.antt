-- The second walk of a node: its rewrite by its slots, the rewrite of a slot without routes, and the loop over the slots, a step at a time.
use Prim.Native.Nat.{ℕ, ◌+◌, ◌-◌, ◌/◌, ◌^◌, ◌≤◌, ◌<◌}
use mathlib.Core.Path.{◌≡◌, refl, sym, ap, ◌∙◌}
use mathlib.Core.Bool.{Bool, false, cond}
use mathlib.Core.List.{List, [], ◌∷◌}
use native.Mathlib.Decide.{dec_lt}
use native.Mathlib.Omega.{arith}
use lib.Bits.{bit_or}
use lib.ListN.{length, get_or}
use borrow.Author.Tests.{lt-ltb, le-ltb}
use Rattle.theory.specs.Routes.{Route, Answer}
use Rattle.theory.specs.Results.{Chooses, ortc}
use Rattle.theory.proofs.Agree.{ortc-agree}
use Rattle.theory.proofs.Quick.{ortc_uniform}
use Rattle.words.specs.Bits.{bit, NextBit}
use Rattle.words.specs.Positions.{position}
use Rattle.words.proofs.BitLaws.{neither}
use Rattle.positions.specs.Runs.{no_hop, hop_of, or_else, size_at, place_at}
use Rattle.positions.specs.Walk.{walk, state_at, slots}
use Rattle.positions.specs.Walks.{ortc_out, ortc_next}
use Rattle.positions.proofs.Counts.{ortc-few}
use Rattle.positions.proofs.Modes.{ortc-walk}
use Rattle.positions.proofs.Slots.{walk-slots, slots-agree}
use Rattle.nodes.specs.Node.{wide, run, slot_size, Node}
use Rattle.nodes.specs.Output.{Wrote, entry_at, HeadSlots}
use Rattle.nodes.specs.Room.{Begins, Block, everywhere, nodes_deep, Stored}
use Rattle.gather.proofs.GatherLaws.{node-run, no_child, slot_vacant, covering_le}
use Rattle.gather.proofs.GatherRuns.{run_none}
use Rattle.nodes.proofs.OutputWalk.{Walked, walked_none, walked_all, no_heads}
use Rattle.nodes.proofs.RoomBlocks.{run_length}
use Rattle.nodes.proofs.RoomWalk.{Ahead, own-stored, ahead_start, ahead_stored, ahead_next, ahead_skip, ahead_end}
use Rattle.gather.specs.Gathered.{run_at, Gathered, Occupied, covering_at}
use Rattle.gather.proofs.BusySlots.{Busy, walked_next, ahead_past}
use Rattle.assign.specs.Answers.{answer_in, ShowsNode, set_words, assigned_at, entry_over, LeafSlots}
use Rattle.assign.specs.Packed.{packed}
use Rattle.assign.proofs.AssignLaws.{state-assigned, AssignedHop, has_entry, leaf-entry, entries_are}
use Rattle.ortc.proofs.SlotLaws.{slot_alike, slot-block}

-- ---- A node's rewrite, by its slots.

-- What the rewrite of the node (m + 5, a) puts out at position j of level l, where g is assigned above the node.
abbrev pub own_entry : (List ℕ → ℕ) → (ℕ → Answer) → ℕ → ℕ → Answer → ℕ → ℕ → List Route
own_entry choose f m a g l j =
    ortc_out choose wide f (size_at m l) (place_at m a l j) (state_at (ortc_out choose wide f) (ortc_next choose f) m a g l j)

module _ (choose : List ℕ → ℕ) (f : ℕ → Answer) (m a : ℕ) (g : Answer) where
  -- Its own entries, and at each slot the rewrite of the slot under what the position above it is assigned.
  pub rewrite-slots :
      ortc choose wide f (m + 5) a g
      ≡ slots (own_entry choose f m a g) (λ c. ortc choose wide f m (place_at m a 5 c) (assigned_at choose f m a g 4 (c / 2))) 32
  rewrite-slots =
      ortc-walk choose wide f (m + 5) a g
      ∙ walk-slots (ortc_out choose wide f) (ortc_next choose f) m a g
      ∙ slots-agree 5 (own_entry choose f m a g) (own_entry choose f m a g) (λ l j lt small. refl)
      (λ c. walk (ortc_out choose wide f) (ortc_next choose f) m (place_at m a 5 c) (state_at (ortc_out choose wide f) (ortc_next choose f) m a g 5 c))
      (λ c. ortc choose wide f m (place_at m a 5 c) (assigned_at choose f m a g 4 (c / 2)))
      (λ c lt.
      rw (state-assigned choose f m a g 5 c)
      (sym (ortc-walk choose wide f m (place_at m a 5 c) (assigned_at choose f m a g 4 (c / 2)))))
      32 (omega arith)

-- ---- A region without routes.

-- Its rewrite is one entry at most, by the hop that covers it or else fills.
pub leaf_rewrite : (choose : List ℕ → ℕ) → Chooses choose → (size : ℕ) (t : List ℕ) (lo hi depth key covering fill hop above : ℕ) → hi ≤ lo
    → depth ≤ wide → hop ≤ no_hop → above ≤ no_hop
    → hop_of hop ≡ or_else (hop_of covering) (hop_of fill)
    → ortc choose wide (answer_in (run size t lo hi) (hop_of covering) (hop_of fill)) (wide - depth) key (hop_of above) ≡ entry_over key depth hop above
leaf_rewrite choose law size t lo hi depth key covering fill hop above none deep hop-low above_low e =
    rw (run_none size t lo hi none)
    (ortc_uniform choose wide law (answer_in [] (hop_of covering) (hop_of fill)) (or_else (hop_of covering) (hop_of fill)) (wide - depth) key
    (hop_of above) (λ x i. refl)
    ∙ rw (← e) (sym (leaf-entry choose law (wide - depth) key depth hop above (omega arith) hop-low above_low)))

-- Some hop says which that is.
leaf-hop : (covering fill : ℕ) → covering ≤ no_hop → fill ≤ no_hop → (v : ℕ) × (v ≤ no_hop) × (hop_of v ≡ or_else (hop_of covering) (hop_of fill))
leaf-hop covering fill p q = go (dec_lt covering no_hop)
  where
    go : Dec (covering < no_hop) → (v : ℕ) × (v ≤ no_hop) × (hop_of v ≡ or_else (hop_of covering) (hop_of fill))
    go (yes lt) = (covering, p, rw (lt-ltb covering no_hop lt))
    go (no ge) = (fill, q, rw (le-ltb covering no_hop (omega arith)))

-- ---- A node in the room.

-- The sets of a node whose block stands in the room are read there.
pub sets-stored : {f : ℕ → Answer} {size : ℕ} {t : List ℕ} {lo hi depth key top : ℕ} {o : List ℕ} → Node size t lo hi depth key
    → Stored (set_words f) (nodes_deep depth) key (run size t lo hi) top o
    → (xs : List ℕ) × ShowsNode f (slot_size depth) key xs × Begins (packed xs) top o
sets-stored n s = let a = own-stored n s in (a.1.0, a.1.1, rw a.1.2 at a.2)

-- ---- The slots of a node.

-- The rewrite of slot c, by its records, what covers it and what the position above it is assigned.
abbrev pub slot_rewrite : (List ℕ → ℕ) → ℕ → List ℕ → List ℕ → List ℕ → List ℕ → List ℕ → ℕ → ℕ → ℕ → ℕ → List Route
slot_rewrite choose size t first end covering hops depth key fill c =
    ortc choose wide (answer_in (run_at size t first end (31 + c)) (hop_of (get_or covering (15 + c / 2) 0)) (hop_of fill))
    (wide - (depth + 5)) (place_at (slot_size depth) key 5 c) (hop_of (get_or hops (15 + c / 2) 0))

-- One without records lists nothing where no entry of its own is marked.
leaf_none : (choose : List ℕ → ℕ) → Chooses choose → (size : ℕ) (t first end covering hops : List ℕ) (depth key fill leaves : ℕ)
    → LeafSlots covering hops fill leaves → depth ≤ 60 → fill ≤ no_hop
    → (c : ℕ) → c < 32 → get_or end (31 + c) 0 ≤ get_or first (31 + c) 0 → get_or covering (15 + c / 2) 0 ≤ no_hop → get_or hops (15 + c / 2) 0 ≤ no_hop
    → bit leaves c ≡ false → slot_rewrite choose size t first end covering hops depth key fill c ≡ []
leaf_none choose law size t first end covering hops depth key fill leaves marks deep fill-low c lt none covers_low hops-low clear =
    let v = leaf-hop (get_or covering (15 + c / 2) 0) fill covers_low fill-low in
    leaf_rewrite choose law size t (get_or first (31 + c) 0) (get_or end (31 + c) 0) (depth + 5) (place_at (slot_size depth) key 5 c) (get_or covering (15 + c / 2) 0) fill v.0
    (get_or hops (15 + c / 2) 0) none (omega arith) v.1 hops-low v.2
    ∙ ap (λ (b : Bool). cond b (record { addr = place_at (slot_size depth) key 5 c; len = depth + 5; hop = v.0 } ∷ []) [])
    (sym (marks c v.0 lt v.2) ∙ clear)

-- What is found of a node before its slots are walked: the records of its places, what covers them and what they are assigned, its rewrite by its
-- slots, and the slots that are busy.
pub record Opened (choose : List ℕ → ℕ) (size : ℕ) (t : List ℕ) (lo hi depth key inherited fill above : ℕ) (work : List ℕ) (top : ℕ)
    (first end covering hops : List ℕ)
    (entries busy : ℕ) : Type 0 where
  pub node : Node size t lo hi depth key
  pub present : ℕ
  pub gathered : Gathered size t lo hi depth key first end present
  pub covers : (c : ℕ) → c < 32 → get_or covering (15 + c / 2) 0 ≡ covering_at size t first end inherited 4 (c / 2)
  pub covers_low : (c : ℕ) → c < 32 → get_or covering (15 + c / 2) 0 ≤ no_hop
  pub hops-low : (c : ℕ) → c < 32 → get_or hops (15 + c / 2) 0 ≤ no_hop
  pub rewritten : ortc choose wide (answer_in (run size t lo hi) (hop_of inherited) (hop_of fill)) (wide - depth) key (hop_of above)
      ≡ slots (entry_at entries hops depth key) (slot_rewrite choose size t first end covering hops depth key fill) 32
  pub stored : Stored (set_words (answer_in (run size t lo hi) (hop_of inherited) (hop_of fill))) (nodes_deep depth) key (run size t lo hi) top work
  pub quiet : Busy entries hops depth key (slot_rewrite choose size t first end covering hops depth key fill) (run size t lo hi) busy

-- The blocks of its slots from c on stand in the room from `at` on.
abbrev AheadIn : ℕ → List ℕ → ℕ → ℕ → ℕ → ℕ → ℕ → ℕ → ℕ → List ℕ → ℕ → ℕ → Type 0
AheadIn size t lo hi depth key inherited fill top o c at =
    Ahead everywhere (set_words (answer_in (run size t lo hi) (hop_of inherited) (hop_of fill))) (run size t lo hi) depth key top o c at

-- What the walk over its slots has done before slot c: it has written those before it, and read their blocks.
pub record Walking (choose : List ℕ → ℕ) (size : ℕ) (t : List ℕ) (lo hi depth key inherited fill above : ℕ) (work : List ℕ) (top : ℕ)
    (first end covering hops : List ℕ) (entries : ℕ)
    (c at n : ℕ) (out₀ out : List ℕ) : Type 0 where
  pub walked : Walked size entries hops depth key (slot_rewrite choose size t first end covering hops depth key fill) c n out₀ out
  pub ahead : AheadIn size t lo hi depth key inherited fill top work c at

module _ (choose : List ℕ → ℕ) (law : Chooses choose) {size : ℕ} {t : List ℕ} {lo hi depth key : ℕ} {first end : List ℕ} {present : ℕ}
    (n : Node size t lo hi depth key)
    (g : Gathered size t lo hi depth key first end present) (inherited fill above : ℕ) (inherited-low : inherited ≤ no_hop) (fill-low : fill ≤ no_hop)
    (above_low : above ≤ no_hop) where
  -- By what the passes over the node find.
  pub opened : {work : List ℕ} {top : ℕ} {covering hops : List ℕ} {entries : ℕ} (occupied marked leaves : ℕ)
      → Stored (set_words (answer_in (run size t lo hi) (hop_of inherited) (hop_of fill))) (nodes_deep depth) key (run size t lo hi) top work
      → ((l j : ℕ) → l ≤ 4 → j < 2 ^ l → get_or covering (position l j) 0 ≡ covering_at size t first end inherited l j)
      → ((l j : ℕ) → l ≤ 4 → j < 2 ^ l → AssignedHop choose (answer_in (run size t lo hi) (hop_of inherited) (hop_of fill)) (slot_size depth) key above hops l j)
      → ((b : ℕ) → b < 31 → bit entries b ≡ has_entry hops above b)
      → Occupied size t lo hi depth key occupied → HeadSlots entries marked → LeafSlots covering hops fill leaves
      → Opened choose size t lo hi depth key inherited fill above work top first end covering hops entries (bit_or (bit_or occupied marked) leaves)
  opened {work} {top} {covering} {hops} {entries} occupied marked leaves s cover assigned bits taken begins own =
      record {
        node = n;
        present = present;
        gathered = g;
        covers = covers;
        covers_low = covers_low;
        hops-low = hops-low;
        rewritten =
            rw bits_below (rewrite-slots choose f (slot_size depth) key (hop_of above))
            ∙ slots-agree 5 (own_entry choose f (slot_size depth) key (hop_of above)) (entry_at entries hops depth key)
            (λ l j lt small. sym (entries_are choose law f depth key above entries hops shown.0 n.at.deep above_low shown.1 assigned bits l j (omega arith) small))
            (λ c. ortc choose wide f (slot_size depth) (place_at (slot_size depth) key 5 c) (assigned_at choose f (slot_size depth) key (hop_of above) 4 (c / 2)))
            (slot_rewrite choose size t first end covering hops depth key fill) slot 32 (omega arith);
        stored = s;
        quiet = record {
          rest = λ c lt clear.
              let p = neither (bit_or occupied marked) leaves c clear in
              let q = neither occupied marked c p.0 in
              let none = slot_vacant g occupied taken c lt q.0 in (
                no_heads entries marked begins hops depth key c lt q.1,
                leaf_none choose law size t first end covering hops depth key fill leaves own n.at.deep fill-low c lt none (covers_low c lt) (hops-low c lt) p.1,
                no_child g c lt none,
              );
        };
      }
    where
      f : ℕ → Answer
      f = answer_in (run size t lo hi) (hop_of inherited) (hop_of fill)

      bits_below : wide - depth ≡ slot_size depth + 5
      bits_below = omega (arith, n.at.deep)

      shown : (xs : List ℕ) × ShowsNode f (slot_size depth) key xs × Begins (packed xs) top work
      shown = sets-stored n s

      covers : (c : ℕ) → c < 32 → get_or covering (15 + c / 2) 0 ≡ covering_at size t first end inherited 4 (c / 2)
      covers c lt = cover 4 (c / 2) (omega arith) (omega arith)

      covers_low : (c : ℕ) → c < 32 → get_or covering (15 + c / 2) 0 ≤ no_hop
      covers_low c lt = rw (covers c lt) (covering_le n g inherited 4 (c / 2) inherited-low (omega arith) (omega arith))

      hops-low : (c : ℕ) → c < 32 → get_or hops (15 + c / 2) 0 ≤ no_hop
      hops-low c lt = (assigned 4 (c / 2) (omega arith) (omega arith)).0

      slot : (c : ℕ) → c < 32
          → ortc choose wide f (slot_size depth) (place_at (slot_size depth) key 5 c) (assigned_at choose f (slot_size depth) key (hop_of above) 4 (c / 2))
          ≡ slot_rewrite choose size t first end covering hops depth key fill c
      slot c lt =
          let e : wide - (depth + 5) ≡ slot_size depth = omega (arith, n.at.deep) in
          rw ((assigned 4 (c / 2) (omega arith) (omega arith)).1, e)
          (ortc-agree f (answer_in (run_at size t first end (31 + c)) (hop_of (get_or covering (15 + c / 2) 0)) (hop_of fill)) choose wide
          (slot_size depth) (place_at (slot_size depth) key 5 c) (assigned_at choose f (slot_size depth) key (hop_of above) 4 (c / 2))
          (slot_alike n g inherited fill c lt (covers c lt)))

-- ---- The loop over the slots.

module _ {choose : List ℕ → ℕ} {size : ℕ} {t : List ℕ} {lo hi depth key inherited fill above : ℕ} {work : List ℕ} {top : ℕ}
    {first end covering hops : List ℕ} {entries busy : ℕ}
    (q : Opened choose size t lo hi depth key inherited fill above work top first end covering hops entries busy) where
  -- The room is read up to the blocks of the slots.
  pub walking_start : (at : ℕ) (out : List ℕ) → ((xs : List ℕ) → Begins (packed xs) top work → at ≡ top + length (packed xs))
      → Walking choose size t lo hi depth key inherited fill above work top first end covering hops entries 0 at 0 out out
  walking_start at out tops =
      record {
        walked = walked_none q.node.sized out;
        ahead = ahead_start q.node (λ u w s. rw w.2 (tops w.0 (rw w.2 at s)));
      }

  module _ (c : ℕ) (lt : c < 32) where
    -- The block of a slot with records stands in the room, where the walk has come to the slot.
    pub child_stored : {at : ℕ} → AheadIn size t lo hi depth key inherited fill top work c at
        → get_or first (31 + c) 0 < get_or end (31 + c) 0
        → Stored (set_words (answer_in (run_at size t first end (31 + c)) (hop_of (get_or covering (15 + c / 2) 0)) (hop_of fill))) (nodes_deep (depth + 5))
        (place_at (slot_size depth) key 5 c) (run_at size t first end (31 + c)) at work
    child_stored h has =
        let a = ahead_stored h lt q.stored in
        record { words = a.0; block = (slot-block q.node q.gathered inherited fill c lt (q.covers c lt) has a.0).0 a.1; begins = a.2 }

    -- The walk of the slot has read its block, if it has one.
    pub ahead_child : {at at' : ℕ} → AheadIn size t lo hi depth key inherited fill top work c at
        → (get_or end (31 + c) 0 ≤ get_or first (31 + c) 0 → at' ≡ at)
        → (get_or first (31 + c) 0 < get_or end (31 + c) 0 → (ws : List ℕ)
        → Block (set_words (answer_in (run_at size t first end (31 + c)) (hop_of (get_or covering (15 + c / 2) 0)) (hop_of fill))) (nodes_deep (depth + 5))
        (place_at (slot_size depth) key 5 c) (run_at size t first end (31 + c)) ws
        → Begins ws at work → at' ≡ at + length ws)
        → AheadIn size t lo hi depth key inherited fill top work (c + 1) at'
    ahead_child {at} {at'} h skipped read = go (dec_lt (get_or first (31 + c) 0) (get_or end (31 + c) 0))
      where
        go : Dec (get_or first (31 + c) 0 < get_or end (31 + c) 0)
            → AheadIn size t lo hi depth key inherited fill top work (c + 1) at'
        go (yes has) =
            ahead_next h lt (λ u b. read has u ((slot-block q.node q.gathered inherited fill c lt (q.covers c lt) has u).0 b))
        go (no none) =
            let le : get_or end (31 + c) 0 ≤ get_or first (31 + c) 0 = omega arith in
            rw (skipped le) (ahead_skip h lt (no_child q.gathered c lt le))

  -- The walk goes on at the next slot that is busy.
  pub walking_on : {k r at n : ℕ} {out₀ out : List ℕ} → NextBit busy k r
      → Walking choose size t lo hi depth key inherited fill above work top first end covering hops entries k at n out₀ out
      → Walking choose size t lo hi depth key inherited fill above work top first end covering hops entries r at n out₀ out
  walking_on b h = record { walked = walked_next q.quiet b h.walked; ahead = ahead_past q.quiet b h.ahead }

  -- The node's rewrite has at most one entry more than the node has records.
  pub opened_most : Chooses choose
      → length (slots (entry_at entries hops depth key) (slot_rewrite choose size t first end covering hops depth key fill) 32) ≤ (hi - lo) + 1
  opened_most law =
      let bits_below : wide - depth ≡ slot_size depth + 5 = omega (arith, q.node.at.deep) in
      omega (
        arith,
        rw bits_below at (ap length q.rewritten),
        ortc-few choose law (node-run q.node) (hop_of inherited) (hop_of fill) (hop_of above),
        run_length size t lo hi,
      )

  -- After the last slot it is written, and the node's block is read.
  pub walking_end : {c at n : ℕ} {out₀ out : List ℕ}
      → Walking choose size t lo hi depth key inherited fill above work top first end covering hops entries c at n out₀ out → 32 ≤ c
      → ((ws : List ℕ) → Block (set_words (answer_in (run size t lo hi) (hop_of inherited) (hop_of fill))) (nodes_deep depth) key (run size t lo hi) ws → Begins ws top work → at ≡ top + length ws)
      × Wrote size (ortc choose wide (answer_in (run size t lo hi) (hop_of inherited) (hop_of fill)) (wide - depth) key (hop_of above)) 0 n out₀ out
  walking_end {c} h all =
      let z : c ≡ 32 = omega (arith, h.walked.within) in
      (ahead_end h.ahead z, rw q.rewritten (walked_all h.walked all))
