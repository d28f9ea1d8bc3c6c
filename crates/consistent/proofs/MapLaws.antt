-- Mode 3 in a node: the bits that the code finds and the hops that cover the positions are the entries of the walk.
use Prim.Native.Nat.{ℕ, zero, suc, ◌+◌, ◌-◌, ◌/◌, ◌^◌, ◌≤◌, ◌<◌}
use mathlib.Core.Path.{◌≡◌, refl, sym, ap, ◌∙◌}
use mathlib.Core.Bool.{Bool, true, false, cond, not, ◌&&◌, and-false}
use mathlib.Core.List.{List, [], ◌∷◌}
use native.Mathlib.Nat.{pow-suc, le_refl}
use native.Mathlib.Decide.{dec_lt}
use native.Mathlib.Omega.{arith}
use lib.Dec.{eqb, ltb}
use lib.ListN.{length, get_or}
use lib.Pow.{pow_pos}
use borrow.Author.Tests.{lt-ltb, le-ltb, eq-eqb, ne_eqb}
use Rattle.theory.specs.Routes.{Route, Answer, none, via}
use Rattle.records.specs.Sized.{route_in, route}
use Rattle.words.specs.Bits.{bit, NextBit}
use Rattle.words.specs.Positions.{position}
use Rattle.words.proofs.BitLaws.{if_lt, if_eq}
use Rattle.words.proofs.PositionLaws.{in_word, above}
use Rattle.positions.specs.Runs.{no_hop, hop_of, head_hop, own, or_else, size_at, place_at, cover, cover_over}
use Rattle.positions.specs.Walk.{walk, state_at, slots}
use Rattle.positions.specs.Walks.{is_same, entry_unless, consistent_map_out, consistent_map_next}
use Rattle.positions.proofs.Counts.{kept-few}
use Rattle.positions.proofs.Hops.{hop-via}
use Rattle.positions.proofs.Modes.{kept-walk-inside, kept-walk-nothing, consistent_map_state}
use Rattle.positions.proofs.RunsNode.{above_lt, cover-own}
use Rattle.positions.proofs.Slots.{slots-agree, walk-slots}
use Rattle.nodes.specs.Node.{wide, run, slot_size, Node}
use Rattle.nodes.specs.Output.{entry_at}
use Rattle.nodes.proofs.RoomBlocks.{run_length}
use Rattle.gather.specs.Gathered.{run_at, Gathered, over_at, covering_at}
use Rattle.gather.proofs.GatherLaws.{node-run, position-run, slot-records, no_child, covering_is, covering_le}
use Rattle.gather.proofs.GatherRuns.{run_none, run-first}
use Rattle.gather.proofs.BusySlots.{next-steps}
use Rattle.gather.proofs.MarkedBits.{Marked, passes_up, marked_skip}

-- ---- The bits.

-- Has a position an entry: a record, by a hop other than the one that covers it from above?
abbrev pub is_entry : ℕ → ℕ → ℕ → ℕ → Bool
is_entry first end hop over = ltb first end && not (eqb hop over)

module _ (first end hop over : ℕ) where
  -- With a record by another hop it has one,
  pub is_entry_lem : first < end → (hop ≡ over → ⊥) → is_entry first end hop over ≡ true
  is_entry_lem lt ne = rw (lt-ltb first end lt, ne_eqb hop over ne)

  -- by the same hop it has none,
  pub same_no_entry : hop ≡ over → is_entry first end hop over ≡ false
  same_no_entry e = rw (eq-eqb hop over e) (and-false (ltb first end))

  -- and without a record it has none.
  pub bare_no_entry : end ≤ first → is_entry first end hop over ≡ false
  bare_no_entry le = rw (le-ltb first end le)

-- The same of position b, by the records of the positions and the hops that cover them.
abbrev pub entry_bit : List ℕ → List ℕ → List ℕ → ℕ → ℕ → Bool
entry_bit first end hops inherited b = is_entry (get_or first b 0) (get_or end b 0) (get_or hops b 0) (over_at hops b inherited)

-- Up to the next position of a word that has every position with a record there are no more entries.
pub marked-past : (first end hops : List ℕ) (inherited x : ℕ) {present b r : ℕ}
    → ((i : ℕ) → i < 31 → bit present i ≡ false → get_or end i 0 ≤ get_or first i 0) → NextBit present b r
    → Marked 31 (entry_bit first end hops inherited) (λ i. ltb i b) x → Marked 31 (entry_bit first end hops inherited) (λ i. ltb i r) x
marked-past first end hops inherited x absent next =
    next-steps (λ b. Marked 31 (entry_bit first end hops inherited) (λ i. ltb i b) x) next (λ i lt off m.
    marked_skip m i (λ k. ltb k (i + 1)) (passes_up i)
    (λ small. bare_no_entry (get_or first i 0) (get_or end i 0) (get_or hops i 0) (over_at hops i inherited) (absent i small off)))

-- ---- What a hop of the code says.

-- A hop is said to be the same exactly when it is.
hop_same : (h o : ℕ) → h < no_hop → is_same h (hop_of o) ≡ eqb h o
hop_same h o lt =
    if_lt (λ (t : Bool). is_same h (cond t (via o) none) ≡ eqb h o) o no_hop
    (λ a. if_eq (λ (t : Bool). eqb o h ≡ t) h o (λ e. eq-eqb o h (sym e)) (λ ne. ne_eqb o h (λ e. ne (sym e))))
    (λ a. sym (ne_eqb h o (λ e. omega arith)))

-- ---- The entries.

-- The entry of a position with the records from..upto, whose own hop is o and which `hop` covers, where `over` covers it from above.
entry_is : (size : ℕ) (t : List ℕ) (from upto hop over place bits_below len : ℕ) (o : Answer) → wide - bits_below ≡ len → o ≡ head_hop (run size t from upto)
    → hop_of hop ≡ or_else o (hop_of over)
    → cond (is_entry from upto hop over) (route place len hop ∷ []) [] ≡ entry_unless wide bits_below place o (hop_of over)
entry_is size t from upto hop over place bits_below len o long own covers = go (dec_lt from upto)
  where
    same : (b : Bool) → cond (not b) (route place len hop ∷ []) [] ≡ cond b [] (route place len hop ∷ [])
    same true = refl
    same false = refl

    go : Dec (from < upto)
        → cond (is_entry from upto hop over) (route place len hop ∷ []) [] ≡ entry_unless wide bits_below place o (hop_of over)
    go (yes has) =
        let e : o ≡ via (route_in size t from).hop = own ∙ ap head_hop (run-first size t from upto has) in
        let z = hop-via hop (route_in size t from).hop (covers ∙ ap (λ (a : Answer). or_else a (hop_of over)) e) in
        rw (e, ← z.0, hop_same hop over z.1, long, lt-ltb from upto has) (same (eqb hop over))
    go (no ge) =
        let le : upto ≤ from = omega arith in
        let e : o ≡ none = own ∙ ap head_hop (run_none size t from upto le) in
        rw (e, le-ltb from upto le)

-- ---- The walk.

-- That of some routes, where s is the hop of the nearest route above.
abbrev pub map_walk : List Route → ℕ → ℕ → Answer → List Route
map_walk rs n a s = walk (consistent_map_out wide rs) (consistent_map_next wide rs) n a s

-- That of slot c, over its own records, by the hop that covers it.
abbrev pub map_slot : ℕ → List ℕ → List ℕ → List ℕ → List ℕ → ℕ → ℕ → ℕ → List Route
map_slot size t first end hops depth key c =
    map_walk (run_at size t first end (31 + c)) (slot_size depth) (place_at (slot_size depth) key 5 c) (hop_of (get_or hops (15 + c / 2) 0))

module _ {size : ℕ} {t : List ℕ} {lo hi depth key : ℕ} {first end : List ℕ} {present : ℕ} (g : Gathered size t lo hi depth key first end present) where
  -- The walk of a slot reads the records of the slot only.
  slot-reads : (c : ℕ) → c < 32 → (s : Answer)
      → map_walk (run size t lo hi) (slot_size depth) (place_at (slot_size depth) key 5 c) s
      ≡ map_walk (run_at size t first end (31 + c)) (slot_size depth) (place_at (slot_size depth) key 5 c) s
  slot-reads c lt s =
      kept-walk-inside wide (run size t lo hi) (slot_size depth) (place_at (slot_size depth) key 5 c) s
      ∙ ap (λ (rs : List Route). map_walk rs (slot_size depth) (place_at (slot_size depth) key 5 c) s) (sym (slot-records g c lt))

  -- Where the slot has no records it is empty.
  pub map_no_child : (hops : List ℕ) (c : ℕ) → c < 32 → get_or end (31 + c) 0 ≤ get_or first (31 + c) 0 → map_slot size t first end hops depth key c ≡ []
  map_no_child hops c lt le =
      sym (slot-reads c lt (hop_of (get_or hops (15 + c / 2) 0)))
      ∙ kept-walk-nothing wide (run size t lo hi) (slot_size depth) (place_at (slot_size depth) key 5 c) (hop_of (get_or hops (15 + c / 2) 0)) (no_child g c lt le)

-- What the code finds of a node before it writes: the records of each place, the hops that cover the positions, and which have an entry.
pub record Found (size : ℕ) (t : List ℕ) (lo hi depth key inherited : ℕ) (first end hops : List ℕ) (entries : ℕ) : Type 0 where
  pub node : Node size t lo hi depth key
  pub known : inherited ≤ no_hop
  pub present : ℕ
  pub gathered : Gathered size t lo hi depth key first end present
  pub covering : (l j : ℕ) → l ≤ 4 → j < 2 ^ l → get_or hops (position l j) 0 ≡ covering_at size t first end inherited l j
  pub bits : (b : ℕ) → b < 31 → bit entries b ≡ entry_bit first end hops inherited b

module _ {size : ℕ} {t : List ℕ} {lo hi depth key inherited : ℕ} {first end hops : List ℕ} {entries : ℕ}
    (f : Found size t lo hi depth key inherited first end hops entries) where
  -- The code's hops say what covers the positions,
  hops-cover : (l j : ℕ) → l ≤ 4 → j < 2 ^ l
      → hop_of (get_or hops (position l j) 0) ≡ cover wide (slot_size depth) key (run size t lo hi) (hop_of inherited) l j
  hops-cover l j le lt = rw (f.covering l j le lt) (covering_is f.node f.gathered inherited l j le lt)

  -- what covers them from above,
  hops-over : (l j : ℕ) → l ≤ 4 → j < 2 ^ l
      → hop_of (over_at hops (position l j) inherited) ≡ cover_over wide (slot_size depth) key (run size t lo hi) (hop_of inherited) l j
  hops-over zero j le lt = let z : position 0 j ≡ 0 = omega arith in rw (eq-eqb (position 0 j) 0 z)
  hops-over (suc l) j le lt =
      rw (ne_eqb (position (suc l) j) 0 (λ z. omega (arith, pow-suc 2 l, pow_pos l)), above l j) (hops-cover l (j / 2) (omega arith) (above_lt l j lt))

  -- and what covers the slots.
  hops-slot : (c : ℕ) → c < 32
      → hop_of (get_or hops (15 + c / 2) 0)
      ≡ state_at (consistent_map_out wide (run size t lo hi)) (consistent_map_next wide (run size t lo hi)) (slot_size depth) key (hop_of inherited) 5 c
  hops-slot c lt =
      hops-cover 4 (c / 2) (le_refl 4) (omega arith) ∙ sym (consistent_map_state wide (slot_size depth) key (run size t lo hi) (hop_of inherited) 5 c)

  -- That of a slot is a hop or none.
  pub slot_le : (c : ℕ) → c < 32 → get_or hops (15 + c / 2) 0 ≤ no_hop
  slot_le c lt =
      rw (f.covering 4 (c / 2) (le_refl 4) (omega arith))
      (covering_le f.node f.gathered inherited 4 (c / 2) f.known (le_refl 4) (omega arith))

  -- A position has the entry that the walk puts out there.
  map-entry : (l j : ℕ) → l ≤ 4 → j < 2 ^ l → entry_at entries hops depth key l j
      ≡ consistent_map_out wide (run size t lo hi) (size_at (slot_size depth) l) (place_at (slot_size depth) key l j)
      (state_at (consistent_map_out wide (run size t lo hi)) (consistent_map_next wide (run size t lo hi)) (slot_size depth) key (hop_of inherited) l j)
  map-entry l j le lt =
      rw (
        f.bits (position l j) (in_word l j le lt),
        consistent_map_state wide (slot_size depth) key (run size t lo hi) (hop_of inherited) l j,
        ← hops-over l j le lt,
      )
      (entry_is size t (get_or first (position l j) 0) (get_or end (position l j) 0) (get_or hops (position l j) 0) (over_at hops (position l j) inherited)
      (place_at (slot_size depth) key l j) (size_at (slot_size depth) l) (depth + l)
      (own wide (size_at (slot_size depth) l) (place_at (slot_size depth) key l j) (run size t lo hi)) (omega (arith, f.node.at.deep))
      (ap head_hop (sym (position-run f.gathered l j le lt)))
      (hops-cover l j le lt ∙ cover-own wide (slot_size depth) key (run size t lo hi) (hop_of inherited) l j
      ∙ ap (or_else (own wide (size_at (slot_size depth) l) (place_at (slot_size depth) key l j) (run size t lo hi))) (sym (hops-over l j le lt))))

  -- The walk through the node, by its slots.
  pub map-slots : map_walk (run size t lo hi) (wide - depth) key (hop_of inherited) ≡ slots (entry_at entries hops depth key) (map_slot size t first end hops depth key) 32
  map-slots =
      let bits_below : wide - depth ≡ slot_size depth + 5 = omega (arith, f.node.at.deep) in
      rw bits_below (walk-slots (consistent_map_out wide (run size t lo hi)) (consistent_map_next wide (run size t lo hi)) (slot_size depth) key (hop_of inherited)
      ∙ slots-agree 5 _ (entry_at entries hops depth key) (λ l j lt small. sym (map-entry l j (omega arith) small)) _ (map_slot size t first end hops depth key)
      (λ c lt. slot-reads f.gathered c lt _
      ∙ ap (map_walk (run_at size t first end (31 + c)) (slot_size depth) (place_at (slot_size depth) key 5 c)) (sym (hops-slot c lt))) 32 (le_refl 32))

  -- It has no more entries than the node has records.
  pub map-most : length (slots (entry_at entries hops depth key) (map_slot size t first end hops depth key) 32) ≤ hi - lo
  map-most =
      let bits_below : wide - depth ≡ slot_size depth + 5 = omega (arith, f.node.at.deep) in
      rw (← map-slots, bits_below) (omega (arith, kept-few (node-run f.node) (hop_of inherited), run_length size t lo hi))

  -- A slot with records has what the walk of its node has.
  pub map_child : (c place : ℕ) → place ≡ place_at (slot_size depth) key 5 c
      → map_walk (run_at size t first end (31 + c)) (wide - (depth + 5)) place (hop_of (get_or hops (15 + c / 2) 0)) ≡ map_slot size t first end hops depth key c
  map_child c place e =
      let bits_below : wide - (depth + 5) ≡ slot_size depth = omega (arith, f.node.at.deep) in
      rw (bits_below, e)
