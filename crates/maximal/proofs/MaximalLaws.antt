-- Mode 1 at a node: the slots that are walked, the node's coverage from theirs, and its walk by the node's slots, from the words of the code.
-- A position is covered by the node's routes when one stands above it or the routes inside it cover it; one that is covered is listed if none
-- above it is. A slot below a member of the node is covered, and nothing in it is listed: it is not walked.
use Prim.Native.Nat.{ℕ, zero, suc, ◌+◌, ◌-◌, ◌*◌, ◌/◌, ◌^◌, ◌≤◌, ◌<◌}
use mathlib.Core.Path.{◌≡◌, refl, sym, ap, ap₂, ◌∙◌}
use mathlib.Core.Bool.{Bool, true, false, true≢false, cond, not, ◌&&◌, ◌||◌, or-true, or-false}
use mathlib.Core.List.{List, [], ◌∷◌}
use mathlib.Core.Logic.{◌⊎◌, inl, inr}
use native.Mathlib.Nat.{le_refl}
use native.Mathlib.Omega.{arith}
use lib.Bits.{bit_or}
use lib.ListN.{get_or}
use lib.Pow.{high}
use Rattle.theory.specs.Results.{throughout, prefix, part}
use Rattle.theory.specs.Routes.{Route, Member, held}
use Rattle.theory.proofs.Maximal.{throughout-each}
use Rattle.theory.proofs.Parts.{part_swap, part_none, part-whole, member-part}
use Rattle.words.specs.Bits.{bit}
use Rattle.words.specs.Coverage.{UnderMembers, WhollyCovered}
use Rattle.words.specs.Positions.{position}
use Rattle.words.specs.Rules.{PushedSlots}
use Rattle.words.proofs.BitLaws.{bit-or}
use Rattle.words.proofs.PositionLaws.{in_word, pushed_is}
use Rattle.positions.specs.Runs.{is_in, inside, size_at, place_at, member_over}
use Rattle.positions.specs.Walk.{walk, state_of, state_at, slots}
use Rattle.positions.specs.Walks.{maximal_out, maximal_next}
use Rattle.positions.proofs.Modes.{maximal-covered}
use Rattle.positions.proofs.Runs.{is_in_lem, Nested, nested_self}
use Rattle.positions.proofs.RunsNode.{size-slot, above_lt, above_in}
use Rattle.positions.proofs.Slots.{reached_nested, walk-agree, walk-nothing, walk-slots, slots-agree}
use Rattle.nodes.specs.Node.{wide, run, slot_size, Node}
use Rattle.nodes.specs.Output.{entry_at}
use Rattle.nodes.proofs.RoomSizes.{Selects}
use Rattle.gather.specs.Gathered.{Gathered, Occupied, run_at}
use Rattle.gather.proofs.GatherLaws.{slot-records, no_child, slot_vacant, slot_occupied, child_node}
use Rattle.gather.proofs.MemberLaws.{slot_is}
use Rattle.cover.specs.Coverage.{covered_in}
use Rattle.cover.proofs.CoverLaws.{none_covered, empty-covered, folded_is, record_over_lem, record_over-slot, position-covered, position_query, position_halves, slot_query}
use Rattle.maximal.specs.Maximal.{IsCoverage, uncovered, Entries}

-- ---- The walk of mode 1 over some addresses.

-- The walk of the addresses that some routes hold.
abbrev pub maximal_walk : List Route → ℕ → ℕ → Bool → List Route
maximal_walk rs n a s = walk (maximal_out wide (held wide rs)) (maximal_next (held wide rs)) n a s

-- Does p hold throughout position j of level l of the node (m + 5, a)?
abbrev pub covered_at : (ℕ → Bool) → ℕ → ℕ → ℕ → ℕ → Bool
covered_at p m a l j = throughout p (size_at m l) (place_at m a l j)

module _ (p : ℕ → Bool) (m a : ℕ) where
  -- What holds throughout a position holds throughout those below it.
  covered_down : (l j : ℕ) → l < 5 → covered_at p m a l (j / 2) ≡ true → covered_at p m a (suc l) j ≡ true
  covered_down l j lt e =
      (throughout-each p (size_at m (suc l)) (place_at m a (suc l) j)).1 (λ x i.
      (throughout-each p (size_at m l) (place_at m a l (j / 2))).0 e x (above_in m a l j x lt i))

  -- The walk hands to a position whether the one above it is covered, or one above the node.
  pub maximal-state : (w : ℕ) (s : Bool) (l j : ℕ) → l < 5
      → state_at (maximal_out w p) (maximal_next p) m a s (suc l) j ≡ (s || covered_at p m a l (j / 2))
  unfolding state_of
  maximal-state w s zero j lt = refl
  maximal-state w s (suc l) j lt =
      ap (λ (b : Bool). b || covered_at p m a (suc l) (j / 2)) (maximal-state w s l (j / 2) (omega arith))
      ∙ absorb s (covered_at p m a l (j / 2 / 2)) (covered_at p m a (suc l) (j / 2)) (covered_down l (j / 2) (omega arith))
    where
      absorb : (s above here : Bool) → (above ≡ true → here ≡ true) → ((s || above) || here) ≡ (s || here)
      absorb true above here h = refl
      absorb false true here h = sym (h refl)
      absorb false false here h = refl

-- Walks over addresses that cover the same inside the position are one.
maximal_same : (p q : ℕ → Bool) (w n a : ℕ) (s : Bool) → ((k b : ℕ) → Nested k b n a → throughout p k b ≡ throughout q k b)
    → walk (maximal_out w p) (maximal_next p) n a s ≡ walk (maximal_out w q) (maximal_next q) n a s
maximal_same p q w n a s same =
    walk-agree (maximal_out w p) (maximal_out w q) (maximal_next p) (maximal_next q) n a s (λ k b u r.
    let e : throughout p k b ≡ throughout q k b = same k b (reached_nested (maximal_next p) n a s r) in
    (rw e, rw e))

-- No routes, no prefixes.
pub maximal_none : (n a : ℕ) (s : Bool) → maximal_walk [] n a s ≡ []
maximal_none n a s =
    walk-nothing (maximal_out wide (held wide [])) (maximal_next (held wide [])) n a s (λ k b u r. go k b u)
  where
    go : (k b : ℕ) (u : Bool) → maximal_out wide (held wide []) k b u ≡ []
    go k b true = refl
    go k b false = rw (none_covered wide k b)

-- ---- The routes that are walked.

-- In a slot below a member there is none of them, in another there are all that lie in it.
uncovered-slot : (m a : ℕ) (t : List Route) (c : ℕ)
    → inside wide m (place_at m a 5 c) (uncovered m a t) ≡ cond (member_over wide m a t 5 c) [] (inside wide m (place_at m a 5 c) t)
uncovered-slot m a t c = part_swap (is_in wide m (place_at m a 5 c)) stays t ∙ go (member_over wide m a t 5 c) refl
  where
    stays : Route → Bool
    stays r = not (member_over wide m a t 5 ((r.addr - a) / 2 ^ m))

    here : List Route
    here = inside wide m (place_at m a 5 c) t

    at : (r : Route) → Member r here → (r.addr - a) / 2 ^ m ≡ c
    at r i =
        let z = ((is_in_lem wide m (place_at m a 5 c) r).0 ((member-part (is_in wide m (place_at m a 5 c)) t).0 i).1).1 in
        let p : place_at m a 5 c ≡ a + c * 2 ^ m = ap (λ (k : ℕ). a + c * 2 ^ k) (size-slot m) in
        let q : r.addr - a ≡ c * 2 ^ m + (r.addr - place_at m a 5 c) = omega arith in
        ap (λ (k : ℕ). k / 2 ^ m) q ∙ high c m (omega arith)

    go : (b : Bool) → member_over wide m a t 5 c ≡ b → part stays here ≡ cond b [] here
    go true e = part_none stays here (λ r i. rw (at r i, e))
    go false e = part-whole stays here (λ r i. rw (at r i, e))

-- So they are chosen slot by slot.
pub uncovered_selects : (m a : ℕ) (t : List Route) → Selects m a t (uncovered m a t)
uncovered_selects m a t c = go (member_over wide m a t 5 c) (uncovered-slot m a t c)
  where
    go : (b : Bool) → inside wide m (place_at m a 5 c) (uncovered m a t) ≡ cond b [] (inside wide m (place_at m a 5 c) t)
        → (inside wide m (place_at m a 5 c) (uncovered m a t) ≡ [])
        ⊎ (inside wide m (place_at m a 5 c) (uncovered m a t) ≡ inside wide m (place_at m a 5 c) t)
    go true e = inl e
    go false e = inr e

-- ---- What covers the positions and slots of a node.

module _ {size : ℕ} {t : List ℕ} {lo hi depth key : ℕ} {first end : List ℕ} {present : ℕ} (n : Node size t lo hi depth key)
    (g : Gathered size t lo hi depth key first end present) where
  -- Do the node's routes cover position j of level l?
  abbrev here : ℕ → ℕ → Bool
  here l j = covered_at (held wide (run size t lo hi)) (slot_size depth) key l j

  -- Does a route of the node stand above it?
  abbrev over : ℕ → ℕ → Bool
  over l j = member_over wide (slot_size depth) key (run size t lo hi) l j

  -- The position above one is covered by a route above the one below, its own too, or by the routes inside it.
  above_is : (l j : ℕ) → l ≤ 4 → j < 2 ^ suc l → here l (j / 2) ≡ (over (suc l) j || covered_in (slot_size depth) key (run size t lo hi) l (j / 2))
  unfolding member_over
  above_is l j le lt =
      sym (position_query n g l (j / 2) le (above_lt l j lt))
      ∙ ap (λ (b : Bool). b || covered_in (slot_size depth) key (run size t lo hi) l (j / 2)) (record_over_lem n g l (j / 2) le (above_lt l j lt))

  -- With the covered slots at hand the fold of the members finds the node's coverage.
  pub coverage_is : (covered cov : ℕ) → ((c : ℕ) → c < 32 → bit covered c ≡ here 5 c) → WhollyCovered present covered cov
      → IsCoverage (slot_size depth) key (run size t lo hi) cov
  coverage_is covered cov all w =
      record { positions = λ l j le lt. folded_is g here (position_halves n g) covered all cov w l j le lt; top = w.top ∙ g.no_more }

  -- A slot with records and below no member is covered when the top position of its node is,
  child_here : (c : ℕ) → c < 32 → get_or first (31 + c) 0 < get_or end (31 + c) 0 → over 5 c ≡ false
      → covered_at (held wide (run_at size t first end (31 + c))) (slot_size (depth + 5)) (place_at (slot_size depth) key 5 c) 0 0 ≡ here 5 c
  child_here c lt has free =
      let place = place_at (slot_size depth) key 5 c in
      let bits_below : size_at (slot_size (depth + 5)) 0 ≡ slot_size depth = omega (arith, (child_node n g c lt has).at.deep) in
      let top : place_at (slot_size (depth + 5)) place 0 0 ≡ place = omega arith in
      ap₂ (throughout (held wide (run_at size t first end (31 + c)))) bits_below top
      ∙ sym (ap (λ (o : Bool). o || throughout (held wide (run_at size t first end (31 + c))) (slot_size depth) place) (record_over-slot n g c lt ∙ free))
      ∙ slot_query n g c (slot_size depth) place lt (nested_self (slot_size depth) place)
      ∙ ap (λ (k : ℕ). throughout (held wide (run size t lo hi)) k place) (sym (size-slot (slot_size depth)))

  -- and one without records is not.
  empty-here : (c : ℕ) → c < 32 → get_or end (31 + c) 0 ≤ get_or first (31 + c) 0 → over 5 c ≡ false → here 5 c ≡ false
  empty-here c lt none free = position-covered n g 5 c (omega arith) lt ∙ ap₂ ◌||◌ free (empty-covered n g c lt none)

-- ---- The slots that are walked.

-- The words of a node's slots: those below a member, and those to be walked, which have a record and are below no member.
pub record Opened (size : ℕ) (t : List ℕ) (lo hi depth key : ℕ) (first end : List ℕ) (present under walked : ℕ) : Type 0 where
  pub node : Node size t lo hi depth key
  pub gathered : Gathered size t lo hi depth key first end present
  pub occupied : ℕ
  pub filled : Occupied size t lo hi depth key occupied
  pub covered : ℕ
  pub members : UnderMembers present covered under
  pub chosen : (c : ℕ) → c < 32 → bit walked c ≡ (bit occupied c && not (bit under c))

-- A member of the node stands above slot c, or else the slot has no record.
abbrev Passed : ℕ → List ℕ → ℕ → ℕ → ℕ → ℕ → List ℕ → List ℕ → ℕ → Type 0
Passed size t lo hi depth key first end c =
    (member_over wide (slot_size depth) key (run size t lo hi) 5 c ≡ true)
    ⊎ ((member_over wide (slot_size depth) key (run size t lo hi) 5 c ≡ false) × (get_or end (31 + c) 0 ≤ get_or first (31 + c) 0))

module _ {size : ℕ} {t : List ℕ} {lo hi depth key : ℕ} {first end : List ℕ} {present under walked : ℕ}
    (s : Opened size t lo hi depth key first end present under walked) (c : ℕ) (lt : c < 32) where
  -- A slot that is walked has a record,
  pub walked_has : bit walked c ≡ true → get_or first (31 + c) 0 < get_or end (31 + c) 0
  walked_has e = slot_occupied s.gathered s.occupied s.filled c lt (go (bit s.occupied c) (bit under c) (sym (s.chosen c lt) ∙ e))
    where
      go : (o u : Bool) → (o && not u) ≡ true → o ≡ true
      go true u e = refl
      go false u e = e

  -- and no member of the node stands above it.
  walked_free : bit walked c ≡ true → member_over wide (slot_size depth) key (run size t lo hi) 5 c ≡ false
  walked_free e = sym (slot_is s.gathered s.members c lt) ∙ go (bit s.occupied c) (bit under c) (sym (s.chosen c lt) ∙ e)
    where
      go : (o u : Bool) → (o && not u) ≡ true → u ≡ false
      go o false e = refl
      go true true e = sym e
      go false true e = sym e

  -- One that is not is passed over for one of the two.
  passed_is : bit walked c ≡ false → Passed size t lo hi depth key first end c
  passed_is e = go (bit under c) (slot_is s.gathered s.members c lt) (bit s.occupied c) refl (sym (s.chosen c lt) ∙ e)
    where
      go : (u : Bool) → u ≡ member_over wide (slot_size depth) key (run size t lo hi) 5 c → (o : Bool) → bit s.occupied c ≡ o → (o && not u) ≡ false
          → Passed size t lo hi depth key first end c
      go true m o p e = inl (sym m)
      go false m false p e = inr (sym m, slot_vacant s.gathered s.occupied s.filled c lt p)
      go false m true p e = absurd (true≢false e)

  -- Of a slot that is walked all routes are,
  pub walked_routes : bit walked c ≡ true
      → inside wide (slot_size depth) (place_at (slot_size depth) key 5 c) (uncovered (slot_size depth) key (run size t lo hi)) ≡ run_at size t first end (31 + c)
  walked_routes e = uncovered-slot (slot_size depth) key (run size t lo hi) c ∙ rw (walked_free e) (sym (slot-records s.gathered c lt))

  -- of one that is not none.
  pub passed_routes : bit walked c ≡ false
      → inside wide (slot_size depth) (place_at (slot_size depth) key 5 c) (uncovered (slot_size depth) key (run size t lo hi)) ≡ []
  passed_routes e = go (passed_is e) (uncovered-slot (slot_size depth) key (run size t lo hi) c)
    where
      here : List Route
      here = inside wide (slot_size depth) (place_at (slot_size depth) key 5 c) (run size t lo hi)

      go : Passed size t lo hi depth key first end c
          → inside wide (slot_size depth) (place_at (slot_size depth) key 5 c) (uncovered (slot_size depth) key (run size t lo hi))
          ≡ cond (member_over wide (slot_size depth) key (run size t lo hi) 5 c) [] here
          → inside wide (slot_size depth) (place_at (slot_size depth) key 5 c) (uncovered (slot_size depth) key (run size t lo hi)) ≡ []
      go (inl m) q = q ∙ rw m
      go (inr (m, none)) q = q ∙ rw m (no_child s.gathered c lt none)

  -- The coverage of the top position of a slot's node, which is walked, is that of the slot.
  pub child_bit : {cov : ℕ} → bit walked c ≡ true
      → IsCoverage (slot_size (depth + 5)) (place_at (slot_size depth) key 5 c) (run_at size t first end (31 + c)) cov
      → bit cov 0 ≡ covered_at (held wide (run size t lo hi)) (slot_size depth) key 5 c
  child_bit e is = is.positions 0 0 (omega arith) (omega arith) ∙ child_here s.node s.gathered c lt (walked_has e) (walked_free e)

  -- The covered slots are those that are found covered, of those that are walked, and those below a member.
  pub joined-bit : (covered : ℕ) → bit covered c ≡ (bit walked c && covered_at (held wide (run size t lo hi)) (slot_size depth) key 5 c)
      → bit (bit_or covered under) c ≡ covered_at (held wide (run size t lo hi)) (slot_size depth) key 5 c
  joined-bit covered is =
      bit-or covered under c ∙ ap₂ ◌||◌ is (slot_is s.gathered s.members c lt) ∙ go (bit walked c) refl
    where
      over : Bool
      over = member_over wide (slot_size depth) key (run size t lo hi) 5 c

      found : Bool
      found = covered_at (held wide (run size t lo hi)) (slot_size depth) key 5 c

      none : Passed size t lo hi depth key first end c → over ≡ found
      none (inl m) = m ∙ sym (position-covered s.node s.gathered 5 c (omega arith) lt ∙ rw m)
      none (inr (m, free)) = m ∙ sym (empty-here s.node s.gathered c lt free m)

      go : (b : Bool) → bit walked c ≡ b → ((b && found) || over) ≡ found
      go true e = rw (walked_free e) (or-false found)
      go false e = none (passed_is e)

-- ---- The second walk's words.

-- What the walk lists of slot c, where the word says which slots are below a covered position of the node, and `above` whether one above the
-- node is covered.
abbrev pub maximal_slot : ℕ → List ℕ → ℕ → ℕ → Bool → List ℕ → List ℕ → ℕ → ℕ → List Route
maximal_slot size t depth key above first end pushed c =
    maximal_walk (run_at size t first end (31 + c)) (slot_size depth) (place_at (slot_size depth) key 5 c) (above || bit pushed c)

module _ {size : ℕ} {t : List ℕ} {lo hi depth key : ℕ} {first end : List ℕ} {present : ℕ} (n : Node size t lo hi depth key)
    (g : Gathered size t lo hi depth key first end present) {cov : ℕ} (is : IsCoverage (slot_size depth) key (run size t lo hi) cov) (above : Bool) where
  -- What the walk hands to position j of level l.
  abbrev state : ℕ → ℕ → Bool
  state l j = state_at (maximal_out wide (held wide (run size t lo hi))) (maximal_next (held wide (run size t lo hi))) (slot_size depth) key above l j

  -- Below the top it is whether the one above the position is covered, or one above the node.
  state_is : (l j : ℕ) → l ≤ 4 → j < 2 ^ suc l → state (suc l) j ≡ (above || bit cov (position l (j / 2)))
  state_is l j le lt =
      maximal-state (held wide (run size t lo hi)) (slot_size depth) key wide above l j (omega arith)
      ∙ ap (λ (b : Bool). above || b) (sym (is.positions l (j / 2) le (above_lt l j lt)))

  -- The bits of the entries: the covered positions that none above is.
  entry-bit : {entries : ℕ} → Entries above cov entries → (l j : ℕ) → l ≤ 4 → j < 2 ^ l
      → bit entries (position l j) ≡ (not (state l j) && here n g l j)
  unfolding state_of
  entry-bit e zero j le lt =
      let z : j ≡ 0 = omega arith in
      rw z (e.root ∙ ap (λ (b : Bool). not above && b) (is.positions 0 0 (omega arith) (omega arith)))
  entry-bit e (suc l) j le lt =
      e.below l j le lt
      ∙ rw (state_is l j (omega arith) lt, is.positions (suc l) j le lt)
      (highest above (bit cov (position l (j / 2))) _)
    where
      highest : (s b h : Bool) → (not s && (h && not b)) ≡ (not (s || b) && h)
      highest true b h = refl
      highest false true true = refl
      highest false true false = refl
      highest false false true = refl
      highest false false false = refl

  -- So the entries are what the walk lists of the node's positions.
  entry_is : {entries : ℕ} → Entries above cov entries → (hops : List ℕ) → ((b : ℕ) → b < 31 → get_or hops b 0 ≡ 0) → (l j : ℕ) → l ≤ 4 → j < 2 ^ l
      → entry_at entries hops depth key l j
      ≡ maximal_out wide (held wide (run size t lo hi)) (size_at (slot_size depth) l) (place_at (slot_size depth) key l j) (state l j)
  entry_is e hops bare l j le lt =
      let len : wide - size_at (slot_size depth) l ≡ depth + l = omega (arith, n.at.deep) in
      rw (entry-bit e l j le lt, bare (position l j) (in_word l j le lt), ← len)
      (listed (prefix wide (size_at (slot_size depth) l) (place_at (slot_size depth) key l j)) (state l j) (here n g l j))
    where
      listed : (r : Route) (s b : Bool) → cond (not s && b) (r ∷ []) [] ≡ cond s [] (cond b (r ∷ []) [])
      listed r true b = refl
      listed r false b = refl

  module _ (pushed : ℕ) (f : PushedSlots cov pushed) where
    -- A slot is marked exactly when the walk hands down to it that one above it is covered,
    marked_is : (c : ℕ) → c < 32 → state 5 c ≡ (above || bit pushed c)
    marked_is c lt = state_is 4 c (omega arith) lt ∙ ap (λ (b : Bool). above || b) (sym (pushed_is cov pushed is.top f c lt))

    -- and so is each slot below a member.
    marked-over : (c : ℕ) → c < 32 → member_over wide (slot_size depth) key (run size t lo hi) 5 c ≡ true → (above || bit pushed c) ≡ true
    marked-over c lt m =
        ap (λ (b : Bool). above || b)
        (pushed_is cov pushed is.top f c lt ∙ is.positions 4 (c / 2) (omega arith) (omega arith) ∙ above_is n g 4 c (omega arith) lt ∙ rw m)
        ∙ or-true above

    -- The walk of a slot reads the slot's records only: below a covered position it lists nothing, and else no route stands above the slot.
    slot-walk : (c : ℕ) → c < 32
        → maximal_walk (run size t lo hi) (slot_size depth) (place_at (slot_size depth) key 5 c) (state 5 c) ≡ maximal_slot size t depth key above first end pushed c
    slot-walk c lt = rw (marked_is c lt) (go (above || bit pushed c) refl)
      where
        place : ℕ
        place = place_at (slot_size depth) key 5 c

        free : (m : Bool) → (member_over wide (slot_size depth) key (run size t lo hi) 5 c ≡ m) → (above || bit pushed c) ≡ false → m ≡ false
        free true m e = sym (marked-over c lt m) ∙ e
        free false m e = refl

        go : (s : Bool) → (above || bit pushed c) ≡ s
            → maximal_walk (run size t lo hi) (slot_size depth) place s ≡ maximal_walk (run_at size t first end (31 + c)) (slot_size depth) place s
        go true e =
            maximal-covered wide (held wide (run size t lo hi)) (slot_size depth) place
            ∙ sym (maximal-covered wide (held wide (run_at size t first end (31 + c))) (slot_size depth) place)
        go false e =
            maximal_same (held wide (run size t lo hi)) (held wide (run_at size t first end (31 + c))) wide (slot_size depth) place false (λ k b i.
            sym (slot_query n g c k b lt i)
            ∙ ap (λ (o : Bool). o || throughout (held wide (run_at size t first end (31 + c))) k b) (record_over-slot n g c lt ∙ free _ refl e))

    -- The walk through the node, by the words of the code.
    pub maximal-slots : {entries : ℕ} → Entries above cov entries → (hops : List ℕ) → ((b : ℕ) → b < 31 → get_or hops b 0 ≡ 0)
        → maximal_walk (run size t lo hi) (wide - depth) key above
        ≡ slots (entry_at entries hops depth key) (maximal_slot size t depth key above first end pushed) 32
    maximal-slots {entries} e hops bare =
        let bits_below : wide - depth ≡ slot_size depth + 5 = omega (arith, n.at.deep) in
        rw bits_below (walk-slots (maximal_out wide (held wide (run size t lo hi))) (maximal_next (held wide (run size t lo hi))) (slot_size depth) key above
        ∙ slots-agree 5 _ (entry_at entries hops depth key) (λ l j lt small. sym (entry_is e hops bare l j (omega arith) small)) _ _ slot-walk 32 (le_refl 32))

    -- It lists nothing in a slot without records, nor in one below a member.
    pub no_child_slot : (c : ℕ) → c < 32 → get_or end (31 + c) 0 ≤ get_or first (31 + c) 0 → maximal_slot size t depth key above first end pushed c ≡ []
    no_child_slot c lt none =
        ap (λ (rs : List Route). maximal_walk rs (slot_size depth) (place_at (slot_size depth) key 5 c) (above || bit pushed c))
        (slot-records g c lt ∙ no_child g c lt none)
        ∙ maximal_none (slot_size depth) (place_at (slot_size depth) key 5 c) (above || bit pushed c)

    pub below-member-slot : (c : ℕ) → c < 32 → member_over wide (slot_size depth) key (run size t lo hi) 5 c ≡ true
        → maximal_slot size t depth key above first end pushed c ≡ []
    below-member-slot c lt m =
        rw (marked-over c lt m) (maximal-covered wide (held wide (run_at size t first end (31 + c))) (slot_size depth) (place_at (slot_size depth) key 5 c))

-- So it lists nothing in a slot that is not walked.
pub passed_nothing : {size : ℕ} {t : List ℕ} {lo hi depth key : ℕ} {first end : List ℕ} {present under walked : ℕ}
    → (s : Opened size t lo hi depth key first end present under walked) {cov : ℕ} → IsCoverage (slot_size depth) key (run size t lo hi) cov → (above : Bool) (pushed : ℕ)
    → PushedSlots cov pushed → (c : ℕ) → c < 32 → bit walked c ≡ false → maximal_slot size t depth key above first end pushed c ≡ []
passed_nothing {size} {t} {lo} {hi} {depth} {key} {first} {end} s is above pushed f c lt e = go (passed_is s c lt e)
  where
    go : Passed size t lo hi depth key first end c → maximal_slot size t depth key above first end pushed c ≡ []
    go (inl m) = below-member-slot s.node s.gathered is above pushed f c lt m
    go (inr (m, none)) = no_child_slot s.node s.gathered is above pushed f c lt none
