-- The places of a node's heap: each route of the node is filed at one of them, and in table order the routes of one place follow each other.
use Prim.Native.Nat.{ℕ, suc, ◌+◌, ◌-◌, ◌*◌, ◌/◌, ◌^◌, ◌≤◌, ◌<◌}
use mathlib.Core.Path.{◌≡◌, refl, sym, ap, ◌∙◌}
use mathlib.Core.Bool.{Bool, true, false, cond}
use mathlib.Core.Logic.{◌↔◌, ◌⊎◌, inl, inr}
use native.Mathlib.Nat.{pow-suc, mul-div_cancel, div-lt_iff_lt-mul, eq-or-lt_of_le}
use native.Mathlib.Decide.{dec_lt}
use native.Mathlib.Omega.{arith}
use lib.Dec.{eqb}
use lib.Pow.{pow-add, pow_mono}
use borrow.Author.Tests.{lt-ltb, le-ltb}
use Rattle.theory.specs.Results.{In}
use Rattle.theory.specs.Routes.{Route, Aligned, Before}
use Rattle.theory.proofs.Blocks.{pow_pos, in→block, block→in, same_start, aligned_down}
use Rattle.theory.specs.Shapes.{Within}
use Rattle.words.specs.Positions.{position}
use Rattle.words.proofs.BitLaws.{if_lt, if_eq}
use Rattle.positions.specs.Runs.{is_at, is_in, size_at, place_at}
use Rattle.positions.proofs.Runs.{is_at_lem, is_in_lem}
use Rattle.positions.proofs.RunsNode.{place-aligned}
use Rattle.nodes.specs.Node.{wide, slot_size}
use Rattle.gather.specs.Gathered.{filed, level_of}

-- ---- Numbers of places.

-- The 63 places, 31 positions and 32 slots, are numbered from 0 to 62.
pub in_heap : (l j : ℕ) → l ≤ 5 → j < 2 ^ l → position l j < 63
in_heap l j h g = let p : 2 ^ suc l ≤ 2 ^ 6 = pow_mono {i = suc l} {j = 6} (omega arith) in omega (arith, pow-suc 2 l)

-- A place of a higher level has a smaller number.
position_lt : (l j k i : ℕ) → j < 2 ^ l → l < k → position l j < position k i
position_lt l j k i h lt = let p : 2 ^ suc l ≤ 2 ^ k = pow_mono {i = suc l} {j = k} lt in omega (arith, pow-suc 2 l, pow_pos l)

-- The number of a place says its level and its index.
pub same_position : (l j k i : ℕ) → j < 2 ^ l → i < 2 ^ k → position l j ≡ position k i → (l ≡ k) × (j ≡ i)
same_position l j k i h g e = go (dec_lt l k) (dec_lt k l)
  where
    go : Dec (l < k) → Dec (k < l) → (l ≡ k) × (j ≡ i)
    go (yes lt) d = absurd (omega (arith, position_lt l j k i h lt))
    go (no ge) (yes lt) = absurd (omega (arith, position_lt k i l j g lt))
    go (no ge) (no le) =
        let q : l ≡ k = omega arith in
        (q, omega (arith, ap (λ (n : ℕ). 2 ^ n) q))

-- ---- Levels by length.

module _ (len depth : ℕ) where
  pub level_le : level_of len depth ≤ 5
  level_le = if_lt (λ (t : Bool). cond t (len - depth) 5 ≤ 5) len (depth + 5) (λ lt. omega arith) (λ ge. omega arith)

  -- A length of a level above the slots is so many bits more than the depth.
  pub level-len : (l : ℕ) → depth ≤ len → l < 5 → level_of len depth ≡ l → len ≡ depth + l
  level-len l low lt =
      if_lt (λ (t : Bool). cond t (len - depth) 5 ≡ l → len ≡ depth + l) len (depth + 5) (λ a e. omega arith) (λ a e. omega arith)

  -- A length of the slots is five bits more or longer.
  pub level-slot : level_of len depth ≡ 5 → depth + 5 ≤ len
  level-slot = if_lt (λ (t : Bool). cond t (len - depth) 5 ≡ 5 → depth + 5 ≤ len) len (depth + 5) (λ a e. omega arith) (λ a e. a)

  -- And the other way.
  pub len-level : (l : ℕ) → l < 5 → len ≡ depth + l → level_of len depth ≡ l
  len-level l lt e = let h : len < depth + 5 = omega arith in rw (lt-ltb len (depth + 5) h) (omega arith)

  pub slot-level : depth + 5 ≤ len → level_of len depth ≡ 5
  slot-level h = rw (le-ltb len (depth + 5) h)

-- ---- Indices by address.

-- Table order is by address first, and at one address by length.
rising : (r s : Route) → Before r s → r.addr ≤ s.addr
rising r s (inl lt) = omega arith
rising r s (inr z) = omega arith

lengthening : (r s : Route) → Before r s → r.addr ≡ s.addr → r.len < s.len
lengthening r s (inl lt) e = absurd (omega arith)
lengthening r s (inr z) e = z.1

-- The blocks of 2 ^ s addresses are numbered by division.
index_in : (s j y : ℕ) → (y / 2 ^ s ≡ j) ↔ In s (j * 2 ^ s) y
index_in s j y = (
  λ e. block→in s (j * 2 ^ s) y (j, refl) (e ∙ sym (mul-div_cancel j (pow_pos s))),
  λ i. in→block s (j * 2 ^ s) y (j, refl) i ∙ mul-div_cancel j (pow_pos s),
)

-- An address of a node at this depth has one of the indices of a level.
pub index_lt : (depth l x : ℕ) → depth ≤ 60 → l ≤ 5 → x < 2 ^ (wide - depth) → x / 2 ^ size_at (slot_size depth) l < 2 ^ l
index_lt depth l x deep le lt =
    let e : wide - depth ≡ l + size_at (slot_size depth) l = omega arith in
    (div-lt_iff_lt-mul (pow_pos (size_at (slot_size depth) l))).1 (rw (e, pow-add 2 l (size_at (slot_size depth) l)) at lt)

-- ---- The place of a route.

-- The index of a route among the positions of level l of the node at this depth and key.
abbrev pub index_of : ℕ → ℕ → ℕ → Route → ℕ
index_of depth key l r = (r.addr - key) / 2 ^ size_at (slot_size depth) l

-- A route's place in the heap of the node.
unfoldable pub heap_of : ℕ → ℕ → Route → ℕ
heap_of depth key r = position (level_of r.len depth) (index_of depth key (level_of r.len depth) r)

-- As the code finds it, by the route's length, level and address.
pub heap_is : (depth key : ℕ) (r : Route) (len level addr b : ℕ) → len ≡ r.len → level ≡ level_of len depth → addr ≡ r.addr
    → b ≡ position level ((addr - key) / 2 ^ size_at (slot_size depth) level) → b ≡ heap_of depth key r
unfolding heap_of
heap_is depth key r len level addr b p q e f = rw (f, q, p, e)

-- Above the slots a route is filed at the position where it stands; a slot has the routes that lie in it.
pub filed-position : (m key l j : ℕ) (r : Route) → l < 5 → filed m key l j r ≡ is_at wide (size_at m l) (place_at m key l j) r
filed-position m key l j r lt = rw (lt-ltb l 5 lt)

filed-slot : (m key l j : ℕ) (r : Route) → l ≡ 5 → filed m key l j r ≡ is_in wide (size_at m l) (place_at m key l j) r
filed-slot m key l j r e = rw (le-ltb l 5 (omega arith))

module _ (depth key : ℕ) (deep : depth ≤ 60) (aligned : Aligned (wide - depth) key) where
  -- The positions of a level start where their size lets them.
  start-aligned : (l j : ℕ) → Aligned (size_at (slot_size depth) l) (place_at (slot_size depth) key l j)
  start-aligned l j =
      let d : wide - depth ≡ slot_size depth + 5 = omega arith in
      place-aligned (slot_size depth) key l j (rw d at aligned)

  module _ (r : Route) (i : Within wide (wide - depth) key r) where
    -- A route's index is one of its level's.
    own-index : index_of depth key (level_of r.len depth) r < 2 ^ level_of r.len depth
    own-index =
        index_lt depth (level_of r.len depth) (r.addr - key) deep (level_le r.len depth)
        (omega (arith, i.low, i.high, pow_pos (wide - r.len)))

    -- Its place says its level and its index, and the other way.
    pub heap-level : (l j : ℕ) → j < 2 ^ l → heap_of depth key r ≡ position l j → (level_of r.len depth ≡ l) × (index_of depth key l r ≡ j)
    unfolding heap_of
    heap-level l j lt e =
        let z = same_position (level_of r.len depth) (index_of depth key (level_of r.len depth) r) l j own-index lt e in
        (z.0, ap (λ (k : ℕ). index_of depth key k r) (sym z.0) ∙ z.1)

    pub level-heap : (l j : ℕ) → level_of r.len depth ≡ l → index_of depth key l r ≡ j → heap_of depth key r ≡ position l j
    unfolding heap_of
    level-heap l j e q = rw (e, q)

    -- It is one of the 63.
    pub heap_lt : heap_of depth key r < 63
    unfolding heap_of
    heap_lt = in_heap (level_of r.len depth) (index_of depth key (level_of r.len depth) r) (level_le r.len depth) own-index

    -- The address lies in the position of its index.
    pub place_in : (l j : ℕ) → (index_of depth key l r ≡ j) ↔ In (size_at (slot_size depth) l) (place_at (slot_size depth) key l j) r.addr
    place_in l j = (
      λ e. omega (arith, i.low, (index_in (size_at (slot_size depth) l) j (r.addr - key)).0 e),
      λ z. (index_in (size_at (slot_size depth) l) j (r.addr - key)).1 (omega (arith, i.low)),
    )

    -- Above the slots the route stands at that position.
    pub place_at_lem : (l j : ℕ) → l < 5 → level_of r.len depth ≡ l → index_of depth key l r ≡ j
        → (r.len ≡ depth + l) × (r.addr ≡ place_at (slot_size depth) key l j)
    place_at_lem l j lt e q =
        let n : r.len ≡ depth + l = level-len r.len depth l (omega (arith, i.deep)) lt e in
        let s : wide - r.len ≡ size_at (slot_size depth) l = omega arith in
        (n, same_start _ _ r.addr (start-aligned l j) (rw s at i.aligned) ((place_in l j).0 q))

    -- So it is filed by its level and its index,
    filed-level : (l j : ℕ) → (l ≡ 5) ⊎ (l < 5) → (filed (slot_size depth) key l j r ≡ true) ↔ ((level_of r.len depth ≡ l) × (index_of depth key l r ≡ j))
    filed-level l j (inl five) = (
      λ f.
          let z = (is_in_lem wide (size_at (slot_size depth) l) (place_at (slot_size depth) key l j) r).0 (sym (filed-slot (slot_size depth) key l j r five) ∙ f) in
          (slot-level r.len depth (omega arith) ∙ sym five, (place_in l j).1 z.1),
      λ z.
          let s : depth + 5 ≤ r.len = level-slot r.len depth (z.0 ∙ five) in
          filed-slot (slot_size depth) key l j r five
          ∙ (is_in_lem wide (size_at (slot_size depth) l) (place_at (slot_size depth) key l j) r).1 (omega arith, (place_in l j).0 z.1),
    )
    filed-level l j (inr lt) = (
      λ f.
          let z = (is_at_lem wide (size_at (slot_size depth) l) (place_at (slot_size depth) key l j) r).0 (sym (filed-position (slot_size depth) key l j r lt) ∙ f) in
          (len-level r.len depth l lt (omega arith), (place_in l j).1 (omega (arith, z, pow_pos (size_at (slot_size depth) l)))),
      λ z.
          let a = place_at_lem l j lt z.0 z.1 in
          filed-position (slot_size depth) key l j r lt
          ∙ (is_at_lem wide (size_at (slot_size depth) l) (place_at (slot_size depth) key l j) r).1 (omega arith, a.1),
    )

    -- at its place and nowhere else.
    pub filed-heap : (l j : ℕ) → l ≤ 5 → j < 2 ^ l → filed (slot_size depth) key l j r ≡ eqb (heap_of depth key r) (position l j)
    filed-heap l j le lt =
        if_eq (λ (t : Bool). filed (slot_size depth) key l j r ≡ t) (heap_of depth key r) (position l j)
        (λ e. (filed-level l j (eq-or-lt_of_le le)).1 (heap-level l j lt e)) (λ ne. nowhere (filed (slot_size depth) key l j r) refl ne)
      where
        nowhere : (b : Bool) → filed (slot_size depth) key l j r ≡ b → (heap_of depth key r ≡ position l j → ⊥) → b ≡ false
        nowhere true f ne = let z = (filed-level l j (eq-or-lt_of_le le)).0 f in absurd (ne (level-heap l j z.0 z.1))
        nowhere false f ne = refl

  -- The slot of a route has each later one that stands before the slot's end.
  module _ (r s : Route) (ri : Within wide (wide - depth) key r) (si : Within wide (wide - depth) key s) (p : Before r s) where
    pub slot_next : (l j : ℕ) → l ≡ 5 → level_of r.len depth ≡ l → index_of depth key l r ≡ j
        → s.addr < place_at (slot_size depth) key l j + 2 ^ size_at (slot_size depth) l → heap_of depth key s ≡ position l j
    slot_next l j five e f below =
        level-heap s si l j (slot-level s.len depth (long (dec_lt s.len (depth + 5))) ∙ sym five) ((place_in s si l j).1 inner)
      where
        start : In (size_at (slot_size depth) l) (place_at (slot_size depth) key l j) r.addr
        start = (place_in r ri l j).0 f

        inner : In (size_at (slot_size depth) l) (place_at (slot_size depth) key l j) s.addr
        inner = omega (arith, start, rising r s p)

        -- A shorter one has no host bits, and so starts the slot, where it stands before all of the slot.
        long : Dec (s.len < depth + 5) → depth + 5 ≤ s.len
        long (no ge) = omega arith
        long (yes lt) =
            let le : size_at (slot_size depth) l ≤ wide - s.len = omega arith in
            let z : s.addr ≡ place_at (slot_size depth) key l j =
            same_start _ _ s.addr (start-aligned l j) (aligned_down (size_at (slot_size depth) l) (wide - s.len) s.addr le si.aligned) inner in
            let y : r.addr ≡ s.addr = omega (arith, start, rising r s p) in
            absurd (omega (arith, lengthening r s p y, level-slot r.len depth (e ∙ five)))

  module _ (r s u : Route) (ri : Within wide (wide - depth) key r) (si : Within wide (wide - depth) key s) (ui : Within wide (wide - depth) key u)
      (p : Before r s) (q : Before s u) where
    between : (l j : ℕ) → (l ≡ 5) ⊎ (l < 5) → level_of r.len depth ≡ l → index_of depth key l r ≡ j
        → level_of u.len depth ≡ l → index_of depth key l u ≡ j → heap_of depth key s ≡ position l j
    between l j (inl five) e f g h = slot_next r s ri si p l j five e f (omega (arith, (place_in u ui l j).0 h, rising s u q))
    between l j (inr lt) e f g h =
        let a = place_at_lem r ri l j lt e f in
        let b = place_at_lem u ui l j lt g h in
        let y : r.addr ≡ s.addr = omega (arith, rising r s p, rising s u q) in
        let z : s.addr ≡ u.addr = omega (arith, rising r s p, rising s u q) in
        absurd (omega (arith, lengthening r s p y, lengthening s u q z))

    -- A route that stands between two of one place, in table order, is of that place.
    pub heap_between : heap_of depth key u ≡ heap_of depth key r → heap_of depth key s ≡ heap_of depth key r
    unfolding heap_of
    heap_between e =
        let z = heap-level u ui (level_of r.len depth) (index_of depth key (level_of r.len depth) r) (own-index r ri) e in
        between (level_of r.len depth) (index_of depth key (level_of r.len depth) r) (eq-or-lt_of_le (level_le r.len depth)) refl refl z.0 z.1
