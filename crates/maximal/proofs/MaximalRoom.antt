-- The two walks of mode 1 at a node, a slot at a time: the first lays the coverage of the nodes in the work room, from the last slot to the first,
-- and the second reads it there, from the first slot to the last. Both pass over the slots that are not walked.
use Prim.Native.Nat.{ℕ, ◌+◌, ◌-◌, ◌*◌, ◌≤◌, ◌<◌}
use mathlib.Core.Path.{◌≡◌, refl, ap, ◌∙◌}
use mathlib.Core.Bool.{Bool, true, false, ◌&&◌, ◌||◌}
use mathlib.Core.List.{List, [], ◌∷◌}
use mathlib.Core.Logic.{◌↔◌}
use native.Mathlib.Omega.{arith}
use lib.Bits.{bit_or}
use lib.Dec.{eqb, leb}
use lib.ListN.{length, get_or, set}
use borrow.Author.Tests.{le-leb, lt-leb}
use Rattle.theory.specs.Routes.{Route, held}
use Rattle.words.specs.Bits.{bit, NextBit, LastBit}
use Rattle.words.specs.Coverage.{WhollyCovered}
use Rattle.words.specs.Rules.{PushedSlots}
use Rattle.words.proofs.BitLaws.{neither}
use Rattle.nodecount.specs.Walk.{slot_nodes}
use Rattle.positions.specs.Runs.{inside, place_at}
use Rattle.positions.specs.Walk.{slots}
use Rattle.positions.proofs.Counts.{maximal-few}
use Rattle.gather.specs.Gathered.{run_at}
use Rattle.nodes.specs.Node.{wide, run, slot_size, Node}
use Rattle.nodes.specs.Room.{Begins, BlockBy, nodes_deep, nodes_below, LaidBy, StoredBy, SlotsLaid}
use Rattle.nodes.specs.Output.{Wrote, entry_at, HeadSlots}
use Rattle.gather.proofs.GatherLaws.{node-run, child_node}
use Rattle.nodes.proofs.OutputWalk.{Past, lent, relaid, Walked, Begun, walked_none, walked_alone, walked_child, walked_all, no_heads}
use Rattle.nodes.proofs.RoomBlocks.{BlockAt, run_length, slot-some, block_by_deep}
use Rattle.nodes.proofs.RoomLaws.{pushed-word, begins-word}
use Rattle.nodes.proofs.RoomSizes.{Sized, nodes-below-deep, slot-nodes_le, block_by_length, room_child, room-own}
use Rattle.nodes.proofs.RoomWalk.{laid-start, laid_next, laid_skip, laid-length, laid-own, Ahead, own-stored, ahead_start, ahead_stored, ahead_next, ahead_skip}
use Rattle.gather.proofs.BusySlots.{last_steps, Busy, walked_next, ahead_past}
use Rattle.gather.proofs.MarkedBits.{Marked, passes_down, marked_none, marked-take, marked_skip, marked_all}
use Rattle.maximal.specs.Maximal.{IsCoverage, coverage_word, uncovered, Entries}
use Rattle.maximal.proofs.MaximalLaws.{maximal_walk, covered_at, uncovered_selects, coverage_is, Opened, walked_has, walked_routes, passed_routes, child_bit, joined-bit, maximal_slot, maximal-slots, passed_nothing}

-- The block of a node one deeper.
abbrev pub deeper_block : ℕ → ℕ → List Route → List ℕ → Type 0
deeper_block depth = BlockBy uncovered coverage_word (nodes_deep (depth + 5))

-- A node's coverage is one word, no more than the room has for a node.
coverage-sized : (k : ℕ) → Sized 160 (BlockBy uncovered coverage_word k) (nodes_below k)
coverage-sized k = block_by_length 160 uncovered uncovered_selects coverage_word (λ m a t u w. omega (arith, ap length w.1)) k

-- The routes of a node that are walked.
abbrev pub open_routes : ℕ → List ℕ → ℕ → ℕ → ℕ → ℕ → List Route
open_routes size t lo hi depth key = uncovered (slot_size depth) key (run size t lo hi)

module _ {size : ℕ} {t : List ℕ} {lo hi depth key : ℕ} {first end : List ℕ} {present under walked : ℕ}
    (s : Opened size t lo hi depth key first end present under walked) (c : ℕ) (lt : c < 32) where
  -- A slot that is walked has some of them,
  slot-routes : bit walked c ≡ true → 0 < length (inside wide (slot_size depth) (place_at (slot_size depth) key 5 c) (open_routes size t lo hi depth key))
  slot-routes e = rw (walked_routes s c lt e) (omega (arith, run_length size t (get_or first (31 + c) 0) (get_or end (31 + c) 0), walked_has s c lt e))

  -- and its block is that of the node there.
  slot-block : bit walked c ≡ true → (u : List ℕ)
      → BlockAt (deeper_block depth) (slot_size depth) key (open_routes size t lo hi depth key) c u
      ↔ deeper_block depth (place_at (slot_size depth) key 5 c) (run_at size t first end (31 + c)) u
  slot-block e u =
      rw (← walked_routes s c lt e)
      (slot-some (deeper_block depth) (place_at (slot_size depth) key 5 c)
      (inside wide (slot_size depth) (place_at (slot_size depth) key 5 c) (open_routes size t lo hi depth key)) u (slot-routes e))

  -- The records of one that is walked are those of a node.
  pub slot-node : bit walked c ≡ true → Node size t (get_or first (31 + c) 0) (get_or end (31 + c) 0) (depth + 5) (place_at (slot_size depth) key 5 c)
  slot-node e = child_node s.node s.gathered c lt (walked_has s c lt e)

-- ---- The first walk.

-- From the last slot down to c: the coverage of their nodes is laid from `at` on, and `covered` has those of them that are walked and covered.
pub record Collecting (size : ℕ) (t : List ℕ) (lo hi depth key : ℕ) (first end : List ℕ) (present under walked top : ℕ) (o : List ℕ) (c at covered : ℕ)
    (o' : List ℕ) : Type 0 where
  pub opened : Opened size t lo hi depth key first end present under walked
  pub bound : c ≤ 32
  pub fits : top ≤ length o
  pub laid : SlotsLaid 160 (deeper_block depth) (nodes_below (nodes_deep (depth + 5))) (slot_size depth) key (open_routes size t lo hi depth key) c top at o o'
  pub slots : Marked 32 (λ i. bit walked i && covered_at (held wide (run size t lo hi)) (slot_size depth) key 5 i) (λ i. leb c i) covered

module _ {size : ℕ} {t : List ℕ} {lo hi depth key : ℕ} {first end : List ℕ} {present under walked top : ℕ} {o : List ℕ} where
  -- At first none is passed.
  collect_none : Opened size t lo hi depth key first end present under walked
      → (160 * nodes_below (nodes_deep depth) key (run size t lo hi) ≤ top) × (top ≤ length o)
      → Collecting size t lo hi depth key first end present under walked top o 32 top 0 o
  collect_none s room =
      let nodes = nodes_below (nodes_deep (depth + 5)) in
      let all = slot-nodes_le nodes (slot_size depth) key (run size t lo hi) (open_routes size t lo hi depth key) (uncovered_selects (slot_size depth) key (run size t lo hi)) 32 in
      let enough : 160 * (1 + slot_nodes wide nodes (slot_size depth) key (run size t lo hi) 32) ≤ top =
      rw (nodes-below-deep depth s.node.level key (run size t lo hi) s.node.fives s.node.at.deep) at room.0 in
      record {
        opened = s;
        bound = omega arith;
        fits = room.1;
        laid = laid-start 160 (deeper_block depth) nodes (slot_size depth) key (open_routes size t lo hi depth key) top o (omega arith);
        slots = marked_none 32 _ (λ i. leb 32 i) (λ i lt. lt-leb 32 i lt);
      }

  -- A slot that is not walked is passed over,
  collect_skip : (c : ℕ) {at covered : ℕ} {o' : List ℕ} → Collecting size t lo hi depth key first end present under walked top o (c + 1) at covered o'
      → bit walked c ≡ false → Collecting size t lo hi depth key first end present under walked top o c at covered o'
  collect_skip c w e =
      let lt : c < 32 = omega (arith, w.bound) in
      record {
        opened = w.opened;
        bound = omega arith;
        fits = w.fits;
        laid =
            laid_skip 160 (deeper_block depth) (nodes_below (nodes_deep (depth + 5))) (slot_size depth) key (open_routes size t lo hi depth key)
            (coverage-sized (nodes_deep (depth + 5))) w.laid refl w.bound w.fits (passed_routes w.opened c lt e);
        slots = marked_skip w.slots c (λ i. leb c i) (passes_down c) (λ _. rw e);
      }

  -- and so are those down to one past the next that is walked.
  collect_down : {b k at covered : ℕ} {o' : List ℕ} → LastBit walked b k → Collecting size t lo hi depth key first end present under walked top o b at covered o'
      → Collecting size t lo hi depth key first end present under walked top o k at covered o'
  collect_down {at = at} {covered} {o'} last =
      last_steps (λ c. Collecting size t lo hi depth key first end present under walked top o c at covered o') last (λ i lt off w. collect_skip i w off)

  -- The walk starts at the last slot that is walked.
  pub collect_start : {k : ℕ} → Opened size t lo hi depth key first end present under walked
      → (160 * nodes_below (nodes_deep depth) key (run size t lo hi) ≤ top) × (top ≤ length o) → LastBit walked 32 k
      → Collecting size t lo hi depth key first end present under walked top o k top 0 o
  collect_start s room l = collect_down l (collect_none s room)

  module _ {b at covered : ℕ} {o' : List ℕ} (w : Collecting size t lo hi depth key first end present under walked top o b at covered o') where
    -- The room keeps its length, and what is laid ends in it; there is room for a node's words.
    pub collect_length : length o' ≡ length o
    collect_length = laid-length 160 (deeper_block depth) (nodes_below (nodes_deep (depth + 5))) (slot_size depth) key (open_routes size t lo hi depth key) w.laid w.fits

    pub collect_within : at ≤ length o'
    collect_within = omega (arith, collect_length, w.laid.pushed.ends, w.fits)

    pub collect_least : 160 ≤ at
    collect_least = room-own 160 (nodes_below (nodes_deep (depth + 5))) (slot_size depth) key (open_routes size t lo hi depth key) b at w.laid.room

    module _ (pos : 0 < b) (e : bit walked (b - 1) ≡ true) where
      next_lt : b - 1 < 32
      next_lt = omega (arith, w.bound)

      next_is : b ≡ (b - 1) + 1
      next_is = omega arith

      -- There is room for the nodes of the slot before, which is walked.
      pub collect_room : 160 * nodes_below (nodes_deep (depth + 5)) (place_at (slot_size depth) key 5 (b - 1)) (run_at size t first end (31 + (b - 1))) ≤ at
      collect_room =
          rw (walked_routes w.opened (b - 1) next_lt e) at
          (room_child 160 (nodes_below (nodes_deep (depth + 5))) (slot_size depth) key (open_routes size t lo hi depth key) (b - 1) at (rw next_is at w.laid.room)
          (slot-routes w.opened (b - 1) next_lt e))

      -- Its walk laid them, and the walk goes on to the next that is walked.
      pub collect_child : {cov r k : ℕ} {o'' : List ℕ} (child : Bool) (covered' : ℕ)
          → IsCoverage (slot_size (depth + 5)) (place_at (slot_size depth) key 5 (b - 1)) (run_at size t first end (31 + (b - 1))) cov
          → LaidBy uncovered coverage_word (nodes_deep (depth + 5)) (place_at (slot_size depth) key 5 (b - 1)) (run_at size t first end (31 + (b - 1))) at r o' o''
          → child ≡ bit cov 0 → ((i : ℕ) → i < 32 → bit covered' i ≡ ((eqb i (b - 1) && child) || bit covered i)) → LastBit walked (b - 1) k
          → Collecting size t lo hi depth key first end present under walked top o k r covered' o''
      collect_child {cov} {r} {k} {o''} child covered' is laid z more l =
          collect_down l (record {
            opened = w.opened;
            bound = omega (arith, next_lt);
            fits = w.fits;
            laid =
                laid_next 160 (deeper_block depth) (nodes_below (nodes_deep (depth + 5))) (slot_size depth) key (open_routes size t lo hi depth key)
                (coverage-sized (nodes_deep (depth + 5))) w.laid next_is w.bound w.fits
                ((slot-block w.opened (b - 1) next_lt e laid.words).1 laid.block) laid.pushed;
            slots =
                marked-take (rw next_is at w.slots) (b - 1) (λ i. leb (b - 1) i) (passes_down (b - 1)) child covered'
                (z ∙ child_bit w.opened (b - 1) next_lt e is ∙ rw e) more;
          })

    -- All slots are passed: the node's coverage is found, and its word laid before their blocks.
    pub collect_end : b ≡ 0 → (cov : ℕ) → WhollyCovered present (bit_or covered under) cov
        → IsCoverage (slot_size depth) key (run size t lo hi) cov
        × LaidBy uncovered coverage_word (nodes_deep depth) key (run size t lo hi) top (at - 1) o (set o' (at - 1) cov)
    collect_end z cov whole =
        let s = w.opened in
        let is =
        coverage_is s.node s.gathered (bit_or covered under) cov
        (λ c lt. joined-bit s c lt covered (marked_all w.slots (λ i small. le-leb b i (omega arith)) c lt)) whole in
        let l =
        laid-own 160 (deeper_block depth) (nodes_below (nodes_deep (depth + 5))) (slot_size depth) key (open_routes size t lo hi depth key)
        (λ m a rs. coverage_word m a (run size t lo hi)) (rw z at w.laid) w.fits (cov, refl, is)
        (pushed-word cov at o' (omega (arith, collect_least)) collect_within) in (
          is,
          record {
            words = l.0;
            block = (block_by_deep uncovered coverage_word key (run size t lo hi) l.0 depth s.node.level s.node.fives s.node.at.deep).1 l.1;
            pushed = l.2;
          },
        )

-- ---- The second walk's reading.

-- The blocks of the slots of a node from c on stand in the room from `at` on.
abbrev AheadIn : ℕ → List ℕ → ℕ → ℕ → ℕ → ℕ → ℕ → List ℕ → ℕ → ℕ → Type 0
AheadIn size t lo hi depth key top o c at = Ahead uncovered coverage_word (run size t lo hi) depth key top o c at

-- The node's word is read: it is its coverage, and the blocks of the slots stand after it.
pub record WordRead (size : ℕ) (t : List ℕ) (lo hi depth key top : ℕ) (o : List ℕ) : Type 0 where
  pub within : top < length o
  pub word : IsCoverage (slot_size depth) key (run size t lo hi) (get_or o top 0)
  pub ahead : AheadIn size t lo hi depth key top o 0 (top + 1)

pub word_read : {size : ℕ} {t : List ℕ} {lo hi depth key top : ℕ} {o : List ℕ} → Node size t lo hi depth key
    → StoredBy uncovered coverage_word (nodes_deep depth) key (run size t lo hi) top o → WordRead size t lo hi depth key top o
word_read n stored =
    let s = own-stored n stored in
    let one : s.0 ≡ s.1.0 ∷ [] = s.1.1 in
    let r = begins-word {w = s.1.0} {ws = []} (rw one at s.2) in
    record { within = r.within; word = rw r.word s.1.2; ahead = ahead_start n (λ u w i. rw w.1 refl) }

-- The block of a slot that is walked stands where those of the slots from it on do.
pub child_stored : {size : ℕ} {t : List ℕ} {lo hi depth key : ℕ} {first end : List ℕ} {present under walked : ℕ}
    → Opened size t lo hi depth key first end present under walked → {top c at : ℕ} {o : List ℕ} → AheadIn size t lo hi depth key top o c at → c < 32
    → bit walked c ≡ true → StoredBy uncovered coverage_word (nodes_deep depth) key (run size t lo hi) top o
    → StoredBy uncovered coverage_word (nodes_deep (depth + 5)) (place_at (slot_size depth) key 5 c) (run_at size t first end (31 + c)) at o
child_stored s {c = c} ahead lt e stored =
    let k = ahead_stored ahead lt stored in
    record { words = k.0; block = (slot-block s c lt e k.0).0 k.1; begins = k.2 }

-- ---- The second walk.

-- What it knows of a node whose block stands in the room at top: the slots that are walked, its entries, the slots below a covered position, and the
-- slots at which there is something to do.
pub record Found (size : ℕ) (t : List ℕ) (lo hi depth key : ℕ) (above : Bool) (o : List ℕ) (top : ℕ) (first end hops : List ℕ) (walked entries pushed busy : ℕ) : Type 0 where
  pub present : ℕ
  pub under : ℕ
  pub opened : Opened size t lo hi depth key first end present under walked
  pub stored : StoredBy uncovered coverage_word (nodes_deep depth) key (run size t lo hi) top o
  pub coverage : ℕ
  pub word : IsCoverage (slot_size depth) key (run size t lo hi) coverage
  pub listed : Entries above coverage entries
  pub below : PushedSlots coverage pushed
  pub bare : (b : ℕ) → b < 31 → get_or hops b 0 ≡ 0
  pub marked : ℕ
  pub begin : HeadSlots entries marked
  pub either : busy ≡ bit_or walked marked

-- From the first slot up to c: n records are written, and the blocks of the other slots stand from `at` on.
pub record Walking (size : ℕ) (t : List ℕ) (lo hi depth key : ℕ) (above : Bool) (o : List ℕ) (top : ℕ) (first end hops : List ℕ) (walked entries pushed busy : ℕ)
    (out₀ : List ℕ) (c at n : ℕ) (out : List ℕ) : Type 0 where
  pub found : Found size t lo hi depth key above o top first end hops walked entries pushed busy
  pub ahead : AheadIn size t lo hi depth key top o c at
  pub done : Walked size entries hops depth key (maximal_slot size t depth key above first end pushed) c n out₀ out

module _ {size : ℕ} {t : List ℕ} {lo hi depth key : ℕ} {above : Bool} {o : List ℕ} {top : ℕ} {first end hops : List ℕ} {walked entries pushed busy : ℕ} where
  -- At the others there is nothing to do: they are not walked, and no entry begins there.
  busy_slots : Found size t lo hi depth key above o top first end hops walked entries pushed busy
      → Busy entries hops depth key (maximal_slot size t depth key above first end pushed) (open_routes size t lo hi depth key) busy
  busy_slots f =
      record {
        rest = λ c lt idle.
            let both = neither walked f.marked c (rw f.either at idle) in (
              no_heads entries f.marked f.begin hops depth key c lt both.1,
              passed_nothing f.opened f.word above pushed f.below c lt both.0,
              passed_routes f.opened c lt both.0,
            );
      }

  -- The walk through the node, by its slots,
  found-slots : Found size t lo hi depth key above o top first end hops walked entries pushed busy
      → maximal_walk (run size t lo hi) (wide - depth) key above ≡ slots (entry_at entries hops depth key) (maximal_slot size t depth key above first end pushed) 32
  found-slots f = maximal-slots f.opened.node f.opened.gathered f.word above pushed f.below f.listed hops f.bare

  -- has no more entries than the node has records.
  pub found-most : Found size t lo hi depth key above o top first end hops walked entries pushed busy
      → length (slots (entry_at entries hops depth key) (maximal_slot size t depth key above first end pushed) 32) ≤ hi - lo
  found-most f =
      let n = f.opened.node in
      let bits_below : wide - depth ≡ slot_size depth + 5 = omega (arith, n.at.deep) in
      omega (arith, rw bits_below at (ap length (found-slots f)), maximal-few (node-run n) above, run_length size t lo hi)

  -- What the walk of a slot's node wrote is what it puts out at the slot.
  pub slot_wrote : Found size t lo hi depth key above o top first end hops walked entries pushed busy → (c : ℕ) {addr k : ℕ} {gone : Bool} {xs ys : List ℕ}
      → addr ≡ place_at (slot_size depth) key 5 c → gone ≡ (above || bit pushed c)
      → Wrote size (maximal_walk (run_at size t first end (31 + c)) (wide - (depth + 5)) addr gone) 0 k xs ys
      → Wrote size (maximal_slot size t depth key above first end pushed c) 0 k xs ys
  slot_wrote f c place is own =
      let bits_below : wide - (depth + 5) ≡ slot_size depth = omega (arith, f.opened.node.at.deep) in
      rw (bits_below, is, place) at own

  -- So the walk may go on to the next that is busy.
  walk-next : {out₀ out : List ℕ} {c r at n : ℕ} → NextBit busy c r
      → Walking size t lo hi depth key above o top first end hops walked entries pushed busy out₀ c at n out
      → Walking size t lo hi depth key above o top first end hops walked entries pushed busy out₀ r at n out
  walk-next next w =
      let b = busy_slots w.found in
      record { found = w.found; ahead = ahead_past b next w.ahead; done = walked_next b next w.done }

  -- At first nothing is written.
  pub walk_start : {out : List ℕ} {r : ℕ} → Found size t lo hi depth key above o top first end hops walked entries pushed busy
      → AheadIn size t lo hi depth key top o 0 (top + 1) → NextBit busy 0 r
      → Walking size t lo hi depth key above o top first end hops walked entries pushed busy out r (top + 1) 0 out
  walk_start {out} f ahead next = walk-next next (record { found = f; ahead = ahead; done = walked_none f.opened.node.sized out })

  module _ {out₀ : List ℕ} {c at n : ℕ} {out : List ℕ} (w : Walking size t lo hi depth key above o top first end hops walked entries pushed busy out₀ c at n out)
      {m r : ℕ} {out₁ : List ℕ} (next : NextBit busy (c + 1) r) (b : Begun size entries hops depth key (maximal_slot size t depth key above first end pushed) c m out₀ out₁) where
    -- The entries that begin at slot c are written. If it is walked, its walk wrote its own,
    pub walk_child : bit walked c ≡ true → {addr after here k : ℕ} {gone : Bool} {ys : List ℕ} → addr ≡ place_at (slot_size depth) key 5 c
        → gone ≡ (above || bit pushed c)
        → ((u : List ℕ) → BlockBy uncovered coverage_word (nodes_deep (depth + 5)) addr (run_at size t first end (31 + c)) u → Begins u at o → after ≡ at + length u)
        → Past size m here out₁ → Wrote size (maximal_walk (run_at size t first end (31 + c)) (wide - (depth + 5)) addr gone) 0 k (lent here out₁) ys
        → length (relaid here ys out₁) ≡ length out₁
        → Walking size t lo hi depth key above o top first end hops walked entries pushed busy out₀ r after (m + k) (relaid here ys out₁)
    walk_child e place is ends past own same =
        let f = w.found in
        let read = rw place at ends in
        walk-next next (record {
          found = f;
          ahead = ahead_next w.ahead b.within (λ u i. read u ((slot-block f.opened c b.within e u).0 i));
          done = walked_child b past (slot_wrote f c place is own) same;
        })

    -- else it has nothing of its own.
    pub walk_none : bit walked c ≡ false → Walking size t lo hi depth key above o top first end hops walked entries pushed busy out₀ r at m out₁
    walk_none e =
        let f = w.found in
        walk-next next (record {
          found = f;
          ahead = ahead_skip w.ahead b.within (passed_routes f.opened c b.within e);
          done = walked_alone b (passed_nothing f.opened f.word above pushed f.below c b.within e);
        })

  -- All slots are passed: the node's maximal prefixes are written.
  pub walk_end : {out₀ : List ℕ} {c at n : ℕ} {out : List ℕ} → Walking size t lo hi depth key above o top first end hops walked entries pushed busy out₀ c at n out
      → 32 ≤ c → Wrote size (maximal_walk (run size t lo hi) (wide - depth) key above) 0 n out₀ out
  walk_end w all = rw (found-slots w.found) (walked_all w.done all)
