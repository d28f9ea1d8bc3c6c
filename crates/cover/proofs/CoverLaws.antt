-- What the members of a node cover: the positions that a word of the code says are covered, slot by slot and from the slots up, the cover of a
-- prefix that lies in the node, and that of a position by the slots below it.
use Prim.Native.Nat.{ℕ, zero, suc, ◌+◌, ◌-◌, ◌*◌, ◌/◌, ◌^◌, ◌≤◌, ◌<◌}
use mathlib.Core.Path.{◌≡◌, refl, sym, ap, ap₂, subst, ◌∙◌}
use mathlib.Core.Bool.{Bool, true, false, true≢false, not, ◌&&◌, ◌||◌, and-true, and-false, or-true, or-false}
use mathlib.Core.List.{List, []}
use mathlib.Core.Logic.{◌⊎◌, inl, inr}
use native.Mathlib.Nat.{pow-suc, eq-or-lt_of_le}
use native.Mathlib.Numerals.{add-one}
use native.Mathlib.Omega.{arith}
use lib.Bits.{bit_and, bit_or}
use lib.Dec.{eqb, ltb}
use lib.ListN.{get_or}
use lib.Pow.{shr-shr}
use borrow.Author.Tests.{lt-ltb, le-ltb, eq-eqb}
use Rattle.theory.specs.Results.{In, throughout}
use Rattle.theory.specs.Routes.{Route, held, Aligned}
use Rattle.theory.proofs.Blocks.{pow_pos}
use Rattle.theory.specs.Shapes.{Within, routed}
use Rattle.words.specs.Bits.{bit, WithBit, NextBit}
use Rattle.words.specs.Coverage.{UnderMembers, WhollyCovered}
use Rattle.words.specs.Positions.{position, member, whole}
use Rattle.words.proofs.BitLaws.{bit-and, bit-or}
use Rattle.words.proofs.PositionLaws.{in_word, Place, above}
use Rattle.positions.specs.Runs.{inside, size_at, place_at, member_over}
use Rattle.positions.proofs.Runs.{Nested, nested_start, throughout-under}
use Rattle.positions.proofs.RunsNode.{size-slot, above_lt, own_at, slot-run, level-held, level-covered, halves_covered}
use Rattle.records.specs.Sized.{width_in}
use Rattle.records.proofs.SizedReading.{width_most}
use Rattle.nodes.specs.Node.{wide, run, slot_size, Node}
use Rattle.gather.specs.Gathered.{run_at, level_of, Gathered, Occupied}
use Rattle.gather.proofs.GatherLaws.{node-run, slot-records, no_child, member_is, has_record, slot_vacant, slot_occupied, child_node}
use Rattle.gather.proofs.GatherPlaces.{index_lt, same_position, level-slot, place_in, place_at_lem}
use Rattle.gather.proofs.BusySlots.{next-steps}
use Rattle.gather.proofs.MarkedBits.{Marked, passes_up, marked_none, marked-take, marked_skip, marked_all}
use Rattle.gather.proofs.MemberLaws.{slot_is}
use Rattle.cover.specs.Coverage.{covered_in, record_over}

-- ---- Positions covered by the routes inside them.

-- No routes cover no position: it has an address.
pub none_covered : (w n a : ℕ) → throughout (held w []) n a ≡ false
unfolding throughout
none_covered w zero a = refl
none_covered w (suc n) a = ap (λ (b : Bool). b && throughout (held w []) n (a + 2 ^ n)) (none_covered w n a)

-- A slot's coverage, by its size.
pub slot-covered : (m a : ℕ) (t : List Route) (c : ℕ)
    → covered_in m a t 5 c ≡ throughout (held wide (inside wide m (place_at m a 5 c) t)) m (place_at m a 5 c)
slot-covered m a t c =
    ap (λ (n : ℕ). throughout (held wide (inside wide n (place_at m a 5 c) t)) n (place_at m a 5 c)) (size-slot m)

module _ {size : ℕ} {t : List ℕ} {lo hi depth key : ℕ} {first end : List ℕ} {present : ℕ} (n : Node size t lo hi depth key)
    (g : Gathered size t lo hi depth key first end present) where
  -- A slot with records is covered from inside when the records of its node cover the node's top position,
  pub child_covered : (c : ℕ) → c < 32 → get_or first (31 + c) 0 < get_or end (31 + c) 0
      → throughout (held wide (run_at size t first end (31 + c))) (size_at (slot_size (depth + 5)) 0) (place_at (slot_size (depth + 5)) (place_at (slot_size depth) key 5 c) 0 0)
      ≡ covered_in (slot_size depth) key (run size t lo hi) 5 c
  child_covered c lt has =
      let place = place_at (slot_size depth) key 5 c in
      let bits_below : size_at (slot_size (depth + 5)) 0 ≡ slot_size depth = omega (arith, (child_node n g c lt has).at.deep) in
      let top : place_at (slot_size (depth + 5)) place 0 0 ≡ place = omega arith in
      ap₂ (throughout (held wide (run_at size t first end (31 + c)))) bits_below top
      ∙ ap (λ (u : List Route). throughout (held wide u) (slot_size depth) place) (slot-records g c lt)
      ∙ sym (slot-covered (slot_size depth) key (run size t lo hi) c)

  -- and one without is not.
  pub empty-covered : (c : ℕ) → c < 32 → get_or end (31 + c) 0 ≤ get_or first (31 + c) 0
      → covered_in (slot_size depth) key (run size t lo hi) 5 c ≡ false
  empty-covered c lt le =
      slot-covered (slot_size depth) key (run size t lo hi) c
      ∙ ap (λ (u : List Route). throughout (held wide u) (slot_size depth) (place_at (slot_size depth) key 5 c)) (no_child g c lt le)
      ∙ none_covered wide (slot_size depth) (place_at (slot_size depth) key 5 c)

-- ---- The word of covered slots, while slots are taken into it.

-- Slot c is in the word when its child is covered, and the word stays when it is not.
module _ (covered c : ℕ) (child : Bool) where
  pub slot_set : (next : ℕ) → child ≡ true → WithBit covered c next → (i : ℕ) → i < 32 → bit next i ≡ ((eqb i c && child) || bit covered i)
  slot_set next is with_c i lt = with_c i lt ∙ rw (is, and-true)

  pub slot_left : child ≡ false → (i : ℕ) → i < 32 → bit covered i ≡ ((eqb i c && child) || bit covered i)
  slot_left is i lt = rw (is, and-false)

-- Slots that are not asked, those whose bit of x is not set, are passed over.
slots-past : {x : ℕ} (f : ℕ → Bool) {covered k r : ℕ} → NextBit x k r → Marked 32 (λ i. bit x i && f i) (λ i. ltb i k) covered
    → Marked 32 (λ i. bit x i && f i) (λ i. ltb i r) covered
slots-past {x} f {covered} next =
    next-steps (λ c. Marked 32 (λ i. bit x i && f i) (λ i. ltb i c) covered) next
    (λ i lt off m. marked_skip m i (λ k. ltb k (i + 1)) (passes_up i) (λ small. rw off))

-- ---- The way up from a position to a record at it or above it, by the numbers of the positions.

-- From (l, j) up to the position numbered k there was no record: one is found from there exactly when one is found from (l, j).
pub record Climbed (first end : List ℕ) (l j k : ℕ) : Type 0 where
  pub place : Place k
  pub same : record_over first end l j ≡ record_over first end place.level place.index

-- A record at a position.
record_here : (first end : List ℕ) (l j : ℕ) → ltb (get_or first (position l j) 0) (get_or end (position l j) 0) ≡ true → record_over first end l j ≡ true
unfolding record_over
record_here first end zero j e = e
record_here first end (suc l) j e = ap (λ (b : Bool). b || record_over first end l (j / 2)) e

-- No record at it: only one above it is found.
record_above : (first end : List ℕ) (l j : ℕ) → ltb (get_or first (position (suc l) j) 0) (get_or end (position (suc l) j) 0) ≡ false
    → record_over first end (suc l) j ≡ record_over first end l (j / 2)
unfolding record_over
record_above first end l j e = ap (λ (b : Bool). b || record_over first end l (j / 2)) e

-- The way starts at the position,
pub climb_start : (first end : List ℕ) (l j b : ℕ) → l ≤ 4 → j < 2 ^ l → b ≡ position l j → Climbed first end l j b
climb_start first end l j b le lt e = record { place = record { level = l; index = j; above-slots = le; in_level = lt; is = e }; same = refl }

-- ends where there is a record,
pub climb_found : {first end : List ℕ} {l j k : ℕ} → Climbed first end l j k → get_or first k 0 < get_or end k 0 → record_over first end l j ≡ true
climb_found {first} {end} c lt =
    let p = c.place in
    c.same ∙ record_here first end p.level p.index (rw p.is at (lt-ltb _ _ lt))

-- goes on where there is none,
pub climb_next : {first end : List ℕ} {l j k : ℕ} → Climbed first end l j k → 0 < k → get_or end k 0 ≤ get_or first k 0 → Climbed first end l j ((k - 1) / 2)
climb_next {first} {end} {l} {j} {k} c pos le = go c.place.level c.place.index c.place.above-slots c.place.in_level c.place.is c.same
  where
    go : (m i : ℕ) → m ≤ 4 → i < 2 ^ m → k ≡ position m i → record_over first end l j ≡ record_over first end m i → Climbed first end l j ((k - 1) / 2)
    go zero i h lt is same = absurd (omega arith)
    go (suc m) i h lt is same =
        record {
          place = record { level = m; index = i / 2; above-slots = omega arith; in_level = above_lt m i lt; is = rw is (above m i) };
          same = same ∙ record_above first end m i (rw is at (le-ltb _ _ le));
        }

-- and at the top there is only the top's.
pub climb_top : {first end : List ℕ} {l j : ℕ} → Climbed first end l j 0 → record_over first end l j ≡ ltb (get_or first 0 0) (get_or end 0 0)
unfolding record_over
climb_top {first} {end} {l} {j} c =
    let p = c.place in
    let z = same_position 0 0 p.level p.index (omega arith) p.in_level p.is in
    c.same ∙ ap₂ (record_over first end) (sym z.0) (sym z.1)

-- ---- From the slots up.

-- Where p holds of a position with a route of its own, and of one of which it holds half by half, and of no others, the fold of the members
-- finds whether it holds of a position, with the slots below the position at hand.
module _ {size : ℕ} {t : List ℕ} {lo hi depth key : ℕ} {first end : List ℕ} {present : ℕ} (g : Gathered size t lo hi depth key first end present) (p : ℕ → ℕ → Bool)
    (halves : (l j : ℕ) → l < 5 → j < 2 ^ l
    → p l j ≡ (routed (own_at wide (slot_size depth) key (run size t lo hi) l j) || (p (suc l) (2 * j) && p (suc l) (2 * j + 1)))) (covered : ℕ) where
  -- By the levels from the slots up, with the slots below the position alone,
  whole_is : (k l j : ℕ) → k + l ≡ 5 → j < 2 ^ l → ((c : ℕ) → c < 32 → c / 2 ^ k ≡ j → bit covered c ≡ p 5 c) → whole present covered k j ≡ p l j
  unfolding whole
  whole_is zero l j e lt slots =
      let five : 5 ≡ l = omega arith in
      subst (λ (i : ℕ). j < 2 ^ i → bit covered j ≡ p i j) five (λ small. slots j small (omega arith)) lt
  whole_is (suc k) l j e lt slots =
      let at : 4 - k ≡ l = omega arith in
      let up : (c : ℕ) → c / 2 ^ suc k ≡ c / 2 ^ k / 2 = λ c. ap (λ (i : ℕ). c / 2 ^ i) (sym (add-one k)) ∙ sym (shr-shr c k 1) in
      ap₂ ◌||◌ (ap (λ (i : ℕ). member present i j) at ∙ member_is g l j (omega arith) lt)
      (ap₂ ◌&&◌ (whole_is k (suc l) (2 * j) (omega arith) (omega (arith, pow-suc 2 l)) (λ c small z. slots c small (omega (arith, up c))))
      (whole_is k (suc l) (2 * j + 1) (omega arith) (omega (arith, pow-suc 2 l)) (λ c small z. slots c small (omega (arith, up c)))))
      ∙ sym (halves l j (omega arith) lt)

  -- and in the word that the fold gives,
  pub folded_below : (r : ℕ) → WhollyCovered present covered r → (l j : ℕ) → l ≤ 4 → j < 2 ^ l
      → ((c : ℕ) → c < 32 → c / 2 ^ (5 - l) ≡ j → bit covered c ≡ p 5 c) → bit r (position l j) ≡ p l j
  folded_below r w l j le lt slots = w.inside l j le lt ∙ whole_is (5 - l) l j (omega arith) lt slots

  -- and with all slots at hand at every position.
  pub folded_is : ((c : ℕ) → c < 32 → bit covered c ≡ p 5 c) → (r : ℕ) → WhollyCovered present covered r → (l j : ℕ) → l ≤ 4 → j < 2 ^ l
      → bit r (position l j) ≡ p l j
  folded_is slots r w l j le lt = folded_below r w l j le lt (λ c small e. slots c small)

module _ {size : ℕ} {t : List ℕ} {lo hi depth key : ℕ} {first end : List ℕ} {present : ℕ} (n : Node size t lo hi depth key)
    (g : Gathered size t lo hi depth key first end present) where
  -- ---- Records at a position and above it.

  -- A position has a record exactly when it has a hop of its own.
  pub record_at : (l j : ℕ) → l ≤ 4 → j < 2 ^ l
      → ltb (get_or first (position l j) 0) (get_or end (position l j) 0) ≡ routed (own_at wide (slot_size depth) key (run size t lo hi) l j)
  record_at l j le lt = sym (has_record g l j (omega arith) lt) ∙ sym (g.members l j le lt) ∙ member_is g l j le lt

  -- One stands at a position or above it exactly when the position has a hop of its own or a route stands above it.
  pub record_over_lem : (l j : ℕ) → l ≤ 4 → j < 2 ^ l
      → record_over first end l j
      ≡ (routed (own_at wide (slot_size depth) key (run size t lo hi) l j) || member_over wide (slot_size depth) key (run size t lo hi) l j)
  unfolding record_over member_over
  record_over_lem zero j le lt = record_at zero j le lt ∙ sym (or-false _)
  record_over_lem (suc l) j le lt = ap₂ ◌||◌ (record_at (suc l) j le lt) (record_over_lem l (j / 2) (omega arith) (above_lt l j lt))

  -- So one stands above a slot exactly when a route of the node does.
  pub record_over-slot : (c : ℕ) → c < 32 → record_over first end 4 (c / 2) ≡ member_over wide (slot_size depth) key (run size t lo hi) 5 c
  unfolding member_over
  record_over-slot c lt = record_over_lem 4 (c / 2) (omega arith) (omega arith)

  -- ---- The cover of a position, and of a prefix in a slot.

  -- The node's routes cover a position when one stands above it, or those inside it cover it.
  pub position-covered : (l j : ℕ) → l ≤ 5 → j < 2 ^ l
      → throughout (held wide (run size t lo hi)) (size_at (slot_size depth) l) (place_at (slot_size depth) key l j)
      ≡ (member_over wide (slot_size depth) key (run size t lo hi) l j || covered_in (slot_size depth) key (run size t lo hi) l j)
  position-covered l j le lt = level-covered wide (slot_size depth) key (node-run n) l j le lt

  -- By records: when one stands at it or above it, or the routes inside it cover it.
  pub position_query : (l j : ℕ) → l ≤ 4 → j < 2 ^ l
      → (record_over first end l j || covered_in (slot_size depth) key (run size t lo hi) l j)
      ≡ throughout (held wide (run size t lo hi)) (size_at (slot_size depth) l) (place_at (slot_size depth) key l j)
  position_query l j le lt =
      let inner = halves_covered wide (slot_size depth) key (node-run n) l j (omega arith) in
      ap₂ ◌||◌ (record_over_lem l j le lt) inner
      ∙ either (routed (own_at wide (slot_size depth) key (run size t lo hi) l j)) (member_over wide (slot_size depth) key (run size t lo hi) l j) _
      ∙ ap (λ (b : Bool). member_over wide (slot_size depth) key (run size t lo hi) l j || b) (sym inner)
      ∙ sym (position-covered l j (omega arith) lt)
    where
      either : (o b h : Bool) → ((o || b) || (o || h)) ≡ (b || (o || h))
      either true true h = refl
      either true false h = refl
      either false b h = refl

  -- A record at it or above it covers it.
  pub record_covers : (l j : ℕ) → l ≤ 4 → j < 2 ^ l → true ≡ record_over first end l j
      → true ≡ throughout (held wide (run size t lo hi)) (size_at (slot_size depth) l) (place_at (slot_size depth) key l j)
  record_covers l j le lt e =
      ap (λ (b : Bool). b || covered_in (slot_size depth) key (run size t lo hi) l j) e ∙ position_query l j le lt

  -- They cover it by a route of its own, or half by half.
  pub position_halves : (l j : ℕ) → l < 5 → j < 2 ^ l
      → throughout (held wide (run size t lo hi)) (size_at (slot_size depth) l) (place_at (slot_size depth) key l j)
      ≡ (routed (own_at wide (slot_size depth) key (run size t lo hi) l j)
      || (throughout (held wide (run size t lo hi)) (size_at (slot_size depth) (suc l)) (place_at (slot_size depth) key (suc l) (2 * j))
      && throughout (held wide (run size t lo hi)) (size_at (slot_size depth) (suc l)) (place_at (slot_size depth) key (suc l) (2 * j + 1))))
  unfolding member_over
  position_halves l j lt small =
      position-covered l j (omega arith) small
      ∙ ap (λ (b : Bool). over || b) (halves_covered wide (slot_size depth) key (node-run n) l j lt)
      ∙ spread own over _ _
      ∙ sym (ap₂ (λ (x y : Bool). own || (x && y)) (half (2 * j) (omega arith) (omega (arith, pow-suc 2 l))) (half (2 * j + 1) (omega arith) (omega (arith, pow-suc 2 l))))
    where
      own : Bool
      own = routed (own_at wide (slot_size depth) key (run size t lo hi) l j)

      over : Bool
      over = member_over wide (slot_size depth) key (run size t lo hi) l j

      half : (i : ℕ) → i / 2 ≡ j → i < 2 ^ suc l
          → throughout (held wide (run size t lo hi)) (size_at (slot_size depth) (suc l)) (place_at (slot_size depth) key (suc l) i)
          ≡ ((own || over) || covered_in (slot_size depth) key (run size t lo hi) (suc l) i)
      half i e fits =
          position-covered (suc l) i (omega arith) fits
          ∙ ap (λ (k : ℕ). (routed (own_at wide (slot_size depth) key (run size t lo hi) l k) || member_over wide (slot_size depth) key (run size t lo hi) l k)
          || covered_in (slot_size depth) key (run size t lo hi) (suc l) i) e

      spread : (o b x y : Bool) → (b || (o || (x && y))) ≡ (o || (((o || b) || x) && ((o || b) || y)))
      spread true b x y = or-true b
      spread false true x y = refl
      spread false false x y = refl

  -- So a marked position is covered.
  pub member_covers : (l j : ℕ) → l ≤ 4 → j < 2 ^ l → bit present (position l j) ≡ true
      → true ≡ throughout (held wide (run size t lo hi)) (size_at (slot_size depth) l) (place_at (slot_size depth) key l j)
  member_covers l j le lt e = sym (position_halves l j (omega arith) lt ∙ rw (sym (member_is g l j le lt) ∙ e))

  -- An address of a slot is held by a route above the slot or by the slot's.
  slot_held : (c x : ℕ) → c < 32 → In (slot_size depth) (place_at (slot_size depth) key 5 c) x
      → held wide (run size t lo hi) x
      ≡ (member_over wide (slot_size depth) key (run size t lo hi) 5 c
      || held wide (inside wide (slot_size depth) (place_at (slot_size depth) key 5 c) (run size t lo hi)) x)
  slot_held c x lt =
      subst (λ (k : ℕ). In k (place_at (slot_size depth) key 5 c) x
      → held wide (run size t lo hi) x
      ≡ (member_over wide (slot_size depth) key (run size t lo hi) 5 c
      || held wide (inside wide k (place_at (slot_size depth) key 5 c) (run size t lo hi)) x)) (size-slot (slot_size depth))
      (level-held wide (slot_size depth) key (node-run n) 5 c x (omega arith) lt)

  -- They cover a position inside a slot when a record stands above the slot, or the slot's records cover it.
  pub slot_query : (c k a : ℕ) → c < 32 → Nested k a (slot_size depth) (place_at (slot_size depth) key 5 c)
      → (record_over first end 4 (c / 2) || throughout (held wide (run_at size t first end (31 + c))) k a) ≡ throughout (held wide (run size t lo hi)) k a
  slot_query c k a lt i =
      ap₂ ◌||◌ (record_over-slot c lt) (ap (λ (u : List Route). throughout (held wide u) k a) (slot-records g c lt))
      ∙ sym (throughout-under (held wide (run size t lo hi)) (held wide (inside wide (slot_size depth) (place_at (slot_size depth) key 5 c) (run size t lo hi)))
      (member_over wide (slot_size depth) key (run size t lo hi) 5 c) k a (λ x z. slot_held c x lt (omega arith)))

  -- ---- A prefix that lies in the node, by its level and its index there.

  module _ (query len : ℕ) (lens : (depth ≤ len) × (len ≤ width_in size)) (aligned : Aligned (wide - len) query)
      (lies : In (wide - depth) key query) where
    -- The prefix as a route.
    abbrev asked : Route
    asked = record { addr = query; len = len; hop = 0 }

    asked_within : Within wide (wide - depth) key asked
    asked_within =
        let i : Nested (wide - len) query (wide - depth) key = nested_start (wide - len) query (wide - depth) key (omega arith) aligned n.at.aligned lies in
        let deep = n.at.deep in
        let most = width_most size n.sized in
        record { low = i.from; high = i.upto; deep = omega arith; short = omega arith; aligned = aligned }

    -- Above the slots it is a position.
    pub query_position : (l j : ℕ) → l ≤ 4 → level_of len depth ≡ l → (query - key) / 2 ^ size_at (slot_size depth) l ≡ j
        → throughout (held wide (run size t lo hi)) (size_at (slot_size depth) l) (place_at (slot_size depth) key l j)
        ≡ throughout (held wide (run size t lo hi)) (wide - len) query
    query_position l j le e q =
        let z = place_at_lem depth key n.at.deep n.at.aligned asked asked_within l j (omega arith) e q in
        let deep = n.at.deep in
        let bits_below : size_at (slot_size depth) l ≡ wide - len = omega (arith, z.0) in
        ap₂ (throughout (held wide (run size t lo hi))) bits_below (sym z.1)

    -- Else it lies in a slot, and is no shorter than the slot.
    pub query_nested : (c : ℕ) → level_of len depth ≡ 5 → (query - key) / 2 ^ size_at (slot_size depth) 5 ≡ c
        → Nested (wide - len) query (slot_size depth) (place_at (slot_size depth) key 5 c)
    query_nested c e q =
        let deep = n.at.deep in
        let longer : depth + 5 ≤ len = level-slot len depth e in
        let i : In (size_at (slot_size depth) 5) (place_at (slot_size depth) key 5 c) query = (place_in depth key n.at.deep n.at.aligned asked asked_within 5 c).0 q in
        let bits_below : 2 ^ size_at (slot_size depth) 5 ≡ 2 ^ slot_size depth = ap (λ (k : ℕ). 2 ^ k) (size-slot (slot_size depth)) in
        nested_start (wide - len) query (slot_size depth) (place_at (slot_size depth) key 5 c) (omega arith) aligned
        (slot-run wide (slot_size depth) key (node-run n) c).aligned (omega (arith, i, bits_below))

-- ---- The same at the place of the node's heap that the code finds for it.

-- A prefix in a node, the node's records by place, and the prefix's place b among them, with its level.
pub record Sought (size : ℕ) (t : List ℕ) (lo hi depth key query len : ℕ) (first end : List ℕ) (present level b : ℕ) : Type 0 where
  pub node : Node size t lo hi depth key
  pub gathered : Gathered size t lo hi depth key first end present
  pub lens : (depth ≤ len) × (len ≤ width_in size)
  pub aligned : Aligned (wide - len) query
  pub lies : In (wide - depth) key query
  pub leveled : (level ≡ level_of len depth) × (level ≤ 5)
  pub placed : b ≡ position level ((query - key) / 2 ^ size_at (slot_size depth) level)

module _ {size : ℕ} {t : List ℕ} {lo hi depth key query len : ℕ} {first end : List ℕ} {present level b : ℕ}
    (s : Sought size t lo hi depth key query len first end present level b) where
  -- Its index is one of its level's.
  few : (query - key) / 2 ^ size_at (slot_size depth) level < 2 ^ level
  few = index_lt depth level (query - key) s.node.at.deep s.leveled.1 (omega (arith, s.lies))

  -- A place before 31 is a position, and what is found of the position is found of the prefix.
  pub position-answer : (r : Bool) → b < 31
      → ((l j : ℕ) → l ≤ 4 → j < 2 ^ l → b ≡ position l j → r ≡ throughout (held wide (run size t lo hi)) (size_at (slot_size depth) l) (place_at (slot_size depth) key l j))
      → r ≡ throughout (held wide (run size t lo hi)) (wide - len) query
  position-answer r h found =
      found level index le few s.placed
      ∙ query_position s.node s.gathered query len s.lens s.aligned s.lies level index le (sym s.leveled.0) refl
    where
      index : ℕ
      index = (query - key) / 2 ^ size_at (slot_size depth) level

      go : (level ≡ 5) ⊎ (level < 5) → level ≤ 4
      go (inl five) = absurd (omega (arith, s.placed, ap (λ (l : ℕ). 2 ^ l) five))
      go (inr lt) = omega arith

      le : level ≤ 4
      le = go (eq-or-lt_of_le s.leveled.1)

  -- A place from 31 on is a slot,
  pub place-slot : 31 ≤ b → (level ≡ 5) × (b - 31 ≡ (query - key) / 2 ^ size_at (slot_size depth) 5) × (b - 31 < 32)
  place-slot h = go (eq-or-lt_of_le s.leveled.1)
    where
      go : (level ≡ 5) ⊎ (level < 5) → (level ≡ 5) × (b - 31 ≡ (query - key) / 2 ^ size_at (slot_size depth) 5) × (b - 31 < 32)
      go (inl five) =
          let placed = rw five at s.placed in
          let small = rw five at few in
          (five, omega arith, omega arith)
      go (inr lt) = absurd (omega (arith, s.placed, in_word level ((query - key) / 2 ^ size_at (slot_size depth) level) (omega arith) few))

  -- with the prefix in it,
  pub slot_nested : 31 ≤ b → Nested (wide - len) query (slot_size depth) (place_at (slot_size depth) key 5 (b - 31))
  slot_nested h =
      let z = place-slot h in
      query_nested s.node s.gathered query len s.lens s.aligned s.lies (b - 31) (sym s.leveled.0 ∙ z.0) (sym z.1)

  -- and the prefix is covered by a record above the slot, or else by the slot's records.
  pub slot-answer : (over : Bool) → 31 ≤ b → ((l j : ℕ) → l ≤ 4 → j < 2 ^ l → (b - 1) / 2 ≡ position l j → over ≡ record_over first end l j)
      → (over || throughout (held wide (run_at size t first end b)) (wide - len) query) ≡ throughout (held wide (run size t lo hi)) (wide - len) query
  slot-answer over h found =
      let z = place-slot h in
      let e : 31 + (b - 31) ≡ b = omega arith in
      let up : (b - 1) / 2 ≡ position 4 ((b - 31) / 2) = omega arith in
      ap₂ (λ (o : Bool) (k : ℕ). o || throughout (held wide (run_at size t first end k)) (wide - len) query)
      (found 4 ((b - 31) / 2) (omega arith) (omega (arith, z.2)) up) (sym e)
      ∙ slot_query s.node s.gathered (b - 31) (wide - len) query z.2 (slot_nested h)

  -- Its records, if it has some, are those of a node in which the prefix lies.
  pub slot-node : 31 ≤ b → get_or first b 0 < get_or end b 0
      → Node size t (get_or first b 0) (get_or end b 0) (depth + 5) (place_at (slot_size depth) key 5 (b - 31))
  slot-node h has =
      let e : 31 + (b - 31) ≡ b = omega arith in
      subst (λ (k : ℕ). get_or first k 0 < get_or end k 0 → Node size t (get_or first k 0) (get_or end k 0) (depth + 5) (place_at (slot_size depth) key 5 (b - 31))) e
      (child_node s.node s.gathered (b - 31) (place-slot h).2) has

  pub slot-lies : 31 ≤ b → (depth + 5 ≤ len)
      × In (wide - (depth + 5)) (place_at (slot_size depth) key 5 (b - 31)) query
  slot-lies h =
      let i = slot_nested h in
      let deep = s.node.at.deep in
      let bits_below : wide - (depth + 5) ≡ slot_size depth = omega arith in (
        level-slot len depth (sym s.leveled.0 ∙ (place-slot h).0),
        (i.from, rw bits_below (omega (arith, i.upto, pow_pos (wide - len)))),
      )

-- ---- The slots below a position of a node, asked one by one.

-- The words with which a node is asked for its position b: the slots below a member, and those to be asked, which have a record, and are below b and
-- below no member.
pub record Asking (size : ℕ) (t : List ℕ) (lo hi depth key b : ℕ) (first end : List ℕ) (present under walked : ℕ) : Type 0 where
  pub node : Node size t lo hi depth key
  pub gathered : Gathered size t lo hi depth key first end present
  pub occupied : ℕ
  pub filled : Occupied size t lo hi depth key occupied
  pub below : ℕ
  pub beneath : (l j : ℕ) → l ≤ 4 → j < 2 ^ l → b ≡ position l j → (c : ℕ) → c < 32 → bit below c ≡ eqb (c / 2 ^ (5 - l)) j
  pub covered : ℕ
  pub members : UnderMembers present covered under
  pub chosen : (c : ℕ) → c < 32 → bit walked c ≡ (bit (bit_and occupied below) c && not (bit under c))

-- Of the slots before c, the next to be asked, `covered` has those that were asked and are covered from inside.
pub record Answered (size : ℕ) (t : List ℕ) (lo hi depth key b : ℕ) (first end : List ℕ) (present under walked covered c : ℕ) : Type 0 where
  pub asking : Asking size t lo hi depth key b first end present under walked
  pub next : c < 32 → bit walked c ≡ true
  pub slots : Marked 32 (λ i. bit walked i && covered_in (slot_size depth) key (run size t lo hi) 5 i) (λ i. ltb i c) covered

module _ {size : ℕ} {t : List ℕ} {lo hi depth key b : ℕ} {first end : List ℕ} {present under walked : ℕ} where
  module _ (s : Asking size t lo hi depth key b first end present under walked) (c : ℕ) (lt : c < 32) where
    -- The bits by which a slot is chosen.
    chosen_is : bit walked c ≡ ((bit s.occupied c && bit s.below c) && not (bit under c))
    chosen_is = s.chosen c lt ∙ ap (λ (x : Bool). x && not (bit under c)) (bit-and s.occupied s.below c)

    -- One that is asked has a record.
    asked_has : bit walked c ≡ true → get_or first (31 + c) 0 < get_or end (31 + c) 0
    asked_has e = slot_occupied s.gathered s.occupied s.filled c lt (go (bit s.occupied c) (bit s.below c) (bit under c) (sym chosen_is ∙ e))
      where
        go : (o d u : Bool) → ((o && d) && not u) ≡ true → o ≡ true
        go true d u z = refl
        go false d u z = z

    -- One below b is covered by the node's routes when it is asked and covered from inside, or below a member.
    joined : (covered : ℕ) → bit covered c ≡ (bit walked c && covered_in (slot_size depth) key (run size t lo hi) 5 c) → bit s.below c ≡ true
        → bit (bit_or covered under) c ≡ throughout (held wide (run size t lo hi)) (size_at (slot_size depth) 5) (place_at (slot_size depth) key 5 c)
    joined covered is low =
        bit-or covered under c
        ∙ ap (λ (x : Bool). x || bit under c) (is ∙ ap (λ (x : Bool). x && inner) chosen_is)
        ∙ go (bit s.occupied c) (bit s.below c) (bit under c) low
        (λ e. empty-covered s.node s.gathered c lt (slot_vacant s.gathered s.occupied s.filled c lt e))
        ∙ ap (λ (x : Bool). x || inner) (slot_is s.gathered s.members c lt)
        ∙ sym (position-covered s.node s.gathered 5 c (omega arith) lt)
      where
        inner : Bool
        inner = covered_in (slot_size depth) key (run size t lo hi) 5 c

        go : (o d u : Bool) → d ≡ true → (o ≡ false → inner ≡ false) → ((((o && d) && not u) && inner) || u) ≡ (u || inner)
        go o d true z none = or-true (((o && d) && false) && inner)
        go true true false z none = or-false inner
        go false true false z none = sym (none refl)
        go o false false z none = absurd (true≢false (sym z))

  -- At first none is asked.
  pub ask_start : {r : ℕ} → Asking size t lo hi depth key b first end present under walked → NextBit walked 0 r
      → Answered size t lo hi depth key b first end present under walked 0 r
  ask_start {r} s z =
      record {
        asking = s;
        next = z.is_set;
        slots = slots-past _ z (marked_none 32 _ (λ i. ltb i 0) (λ i lt. le-ltb i 0 (omega arith)));
      }

  module _ {covered c : ℕ} (w : Answered size t lo hi depth key b first end present under walked covered c) where
    -- The records of the next are those of a node.
    pub ask_node : c < 32 → Node size t (get_or first (31 + c) 0) (get_or end (31 + c) 0) (depth + 5) (place_at (slot_size depth) key 5 c)
    ask_node lt = child_node w.asking.node w.asking.gathered c lt (asked_has w.asking c lt (w.next lt))

    -- It is asked for its top position.
    pub ask_child : (lt : c < 32) (child : Bool) (covered' r : ℕ)
        → child ≡ throughout (held wide (run_at size t first end (31 + c))) (size_at (slot_size (depth + 5)) 0) (place_at (slot_size (depth + 5)) (place_at (slot_size depth) key 5 c) 0 0)
        → ((i : ℕ) → i < 32 → bit covered' i ≡ ((eqb i c && child) || bit covered i)) → NextBit walked (c + 1) r
        → Answered size t lo hi depth key b first end present under walked covered' r
    ask_child lt child covered' r is more z =
        let s = w.asking in
        let on = w.next lt in
        let all =
        marked-take w.slots c (λ i. ltb i (c + 1)) (passes_up c) child covered'
        (is ∙ child_covered s.node s.gathered c lt (asked_has s c lt on) ∙ sym (ap (λ (x : Bool). x && covered_in (slot_size depth) key (run size t lo hi) 5 c) on)) more in
        record {
          asking = s;
          next = z.is_set;
          slots = slots-past _ z all;
        }

    -- All are: the fold finds whether the node's routes cover position b.
    pub ask_end : 32 ≤ c → (r : ℕ) → WhollyCovered present (bit_or covered under) r → (l j : ℕ) → l ≤ 4 → j < 2 ^ l → b ≡ position l j
        → bit r b ≡ throughout (held wide (run size t lo hi)) (size_at (slot_size depth) l) (place_at (slot_size depth) key l j)
    ask_end all r whole l j le lt e =
        let s = w.asking in
        ap (bit r) e
        ∙ folded_below s.gathered (λ l j. throughout (held wide (run size t lo hi)) (size_at (slot_size depth) l) (place_at (slot_size depth) key l j))
        (position_halves s.node s.gathered) (bit_or covered under) r whole l j le lt
        (λ i small z. joined s i small covered (marked_all w.slots (λ k few. lt-ltb k c (omega arith)) i small)
        (s.beneath l j le lt e i small ∙ eq-eqb _ _ z))
