-- What the pass over a node's records is good for: the hops that cover the positions, the positions with a route, the nodes in the slots, and the
-- node of a whole table.
use Prim.Native.Nat.{ℕ, zero, suc, ◌+◌, ◌-◌, ◌/◌, ◌^◌, ◌≤◌, ◌<◌}
use mathlib.Core.Path.{◌≡◌, refl, sym, ap, subst, ◌∙◌}
use mathlib.Core.Bool.{true, false}
use mathlib.Core.List.{List, [], ◌∷◌}
use native.Mathlib.Nat.{sub-zero}
use native.Mathlib.Decide.{dec_lt}
use native.Mathlib.Omega.{arith}
use lib.Dec.{ltb}
use lib.ListN.{get_or}
use borrow.Author.Tests.{lt-ltb, le-ltb, ltb-true, ltb-false}
use Rattle.theory.specs.Results.{part}
use Rattle.theory.specs.Routes.{Route, All, Aligned, Table, Member}
use Rattle.theory.proofs.Blocks.{aligned-zero}
use Rattle.theory.proofs.Lists.{all_map, all_member}
use Rattle.theory.proofs.Order.{valid-within}
use Rattle.theory.proofs.Parts.{all_part, table-part, part-agree}
use Rattle.theory.specs.Shapes.{Within, routed}
use Rattle.records.specs.Sized.{IsSize, width_in, records_in, route_in, routes_in}
use Rattle.records.proofs.SizedReading.{width_most}
use Rattle.words.specs.Bits.{bit}
use Rattle.words.specs.Positions.{position}
use Rattle.words.proofs.PositionLaws.{placed}
use Rattle.positions.specs.Runs.{is_at, inside, Run, head_hop, own, or_else, size_at, place_at, cover, no_hop, hop_of}
use Rattle.positions.specs.Wide.{widened}
use Rattle.positions.proofs.Runs.{inside-within}
use Rattle.positions.proofs.RunsNode.{size-slot, place-aligned, above_lt}
use Rattle.positions.proofs.Wide.{all_widen, table-widen, short-widen}
use Rattle.nodes.specs.Node.{reach, wide, spare, wide_at, run, slot_size, Node}
use Rattle.nodes.proofs.OutputLaws.{width_spare, slot-within}
use Rattle.gather.specs.Gathered.{filed, some, run_at, Gathered, Occupied, value_of, covering_at}
use Rattle.gather.proofs.GatherPlaces.{filed-position}
use Rattle.gather.proofs.GatherRuns.{member-run, run_none, run-first, some-run}

-- ---- The records of a position, and of a slot.

-- A node's records are a run of its position.
pub node-run : {size : ℕ} {t : List ℕ} {lo hi depth key : ℕ} → Node size t lo hi depth key → Run wide (slot_size depth + 5) key (run size t lo hi)
node-run {depth} n =
    let deep = n.at.deep in
    let e : wide - depth ≡ slot_size depth + 5 = omega arith in
    record { fits = omega arith; aligned = rw e at n.at.aligned; table = n.table; within = rw e at n.within }

module _ {size : ℕ} {t : List ℕ} {lo hi depth key : ℕ} {first end : List ℕ} {present : ℕ}
    (g : Gathered size t lo hi depth key first end present) where
  -- Those of a position are the routes that stand at it.
  position-part : (l j : ℕ) → l ≤ 4 → j < 2 ^ l
      → part (filed (slot_size depth) key l j) (run size t lo hi)
      ≡ part (is_at wide (size_at (slot_size depth) l) (place_at (slot_size depth) key l j)) (run size t lo hi)
  position-part l j le lt =
      part-agree (filed (slot_size depth) key l j) (is_at wide (size_at (slot_size depth) l) (place_at (slot_size depth) key l j)) (run size t lo hi)
      (λ r m. filed-position (slot_size depth) key l j r (omega arith))

  pub position-run : (l j : ℕ) → l ≤ 4 → j < 2 ^ l
      → run_at size t first end (position l j) ≡ part (is_at wide (size_at (slot_size depth) l) (place_at (slot_size depth) key l j)) (run size t lo hi)
  position-run l j le lt = g.places l j (omega arith) lt ∙ position-part l j le lt

  -- Those of a slot are the routes inside it.
  pub slot-records : (c : ℕ) → c < 32
      → run_at size t first end (31 + c) ≡ inside wide (slot_size depth) (place_at (slot_size depth) key 5 c) (run size t lo hi)
  slot-records c lt =
      g.places 5 c (omega arith) lt
      ∙ ap (λ (n : ℕ). inside wide n (place_at (slot_size depth) key 5 c) (run size t lo hi)) (size-slot (slot_size depth))

  -- A slot without records has no routes inside.
  pub no_child : (c : ℕ) → c < 32 → get_or end (31 + c) 0 ≤ get_or first (31 + c) 0
      → inside wide (slot_size depth) (place_at (slot_size depth) key 5 c) (run size t lo hi) ≡ []
  no_child c lt le = sym (slot-records c lt) ∙ run_none size t (get_or first (31 + c) 0) (get_or end (31 + c) 0) le

  -- A position is marked exactly when it has a hop of its own.
  pub member_is : (l j : ℕ) → l ≤ 4 → j < 2 ^ l
      → bit present (position l j) ≡ routed (own wide (size_at (slot_size depth) l) (place_at (slot_size depth) key l j) (run size t lo hi))
  member_is l j le lt =
      g.members l j le lt ∙ ap some (position-part l j le lt)
      ∙ has-hop (part (is_at wide (size_at (slot_size depth) l) (place_at (slot_size depth) key l j)) (run size t lo hi))
    where
      has-hop : (rs : List Route) → some rs ≡ routed (head_hop rs)
      has-hop [] = refl
      has-hop (r ∷ rs) = refl

  -- ---- Places without a record.

  -- Whether a place has a record in the run.
  pub has_record : (l j : ℕ) → l ≤ 5 → j < 2 ^ l
      → some (part (filed (slot_size depth) key l j) (run size t lo hi)) ≡ ltb (get_or first (position l j) 0) (get_or end (position l j) 0)
  has_record l j le lt = ap some (sym (g.places l j le lt)) ∙ some-run size t (get_or first (position l j) 0) (get_or end (position l j) 0)

  -- A position that is not marked has none.
  pub absent : (b : ℕ) → b < 31 → bit present b ≡ false → get_or end b 0 ≤ get_or first b 0
  absent b lt off =
      let p = placed b lt in
      let q : bit present (position p.level p.index) ≡ false = rw p.is at off in
      let r : get_or end (position p.level p.index) 0 ≤ get_or first (position p.level p.index) 0 =
      ltb-false _ _ (sym (has_record p.level p.index (omega (arith, p.above-slots)) p.in_level)
      ∙ sym (g.members p.level p.index p.above-slots p.in_level) ∙ q) in
      rw p.is r

  module _ (occupied : ℕ) (o : Occupied size t lo hi depth key occupied) (c : ℕ) (lt : c < 32) where
    -- A slot has records exactly when its bit is set.
    pub slot_vacant : bit occupied c ≡ false → get_or end (31 + c) 0 ≤ get_or first (31 + c) 0
    slot_vacant off = ltb-false _ _ (sym (has_record 5 c (omega arith) lt) ∙ sym (o c lt) ∙ off)

    pub slot_occupied : bit occupied c ≡ true → get_or first (31 + c) 0 < get_or end (31 + c) 0
    slot_occupied on = ltb-true _ _ (sym (has_record 5 c (omega arith) lt) ∙ sym (o c lt) ∙ on)

-- ---- The hops that cover the positions.

-- What the hop of the first of some records says, or the one above: their head's hop, or else the one above.
module _ (size : ℕ) (t : List ℕ) (first end over : ℕ) (hops : All (λ r. r.hop < no_hop) (run size t first end)) where
  first-hop : first < end → (route_in size t first).hop < no_hop
  first-hop lt = all_member hops (member-run size t first end first (omega arith) lt)

  value_is : hop_of (value_of size t first end over) ≡ or_else (head_hop (run size t first end)) (hop_of over)
  value_is = go (dec_lt first end)
    where
      go : Dec (first < end) → hop_of (value_of size t first end over) ≡ or_else (head_hop (run size t first end)) (hop_of over)
      go (yes lt) = rw (lt-ltb first end lt, run-first size t first end lt, lt-ltb (route_in size t first).hop no_hop (first-hop lt))
      go (no ge) = let le : end ≤ first = omega arith in rw (le-ltb first end le, run_none size t first end le)

  value_le : over ≤ no_hop → value_of size t first end over ≤ no_hop
  value_le h = go (dec_lt first end)
    where
      go : Dec (first < end) → value_of size t first end over ≤ no_hop
      go (yes lt) = rw (lt-ltb first end lt) (omega (arith, first-hop lt))
      go (no ge) = let le : end ≤ first = omega arith in rw (le-ltb first end le) h

module _ {size : ℕ} {t : List ℕ} {lo hi depth key : ℕ} {first end : List ℕ} {present : ℕ} (n : Node size t lo hi depth key)
    (g : Gathered size t lo hi depth key first end present) where
  -- The records of every place end in the table.
  pub ends_in : (b : ℕ) → b < 63 → get_or end b 0 ≤ records_in size t
  ends_in b h = omega (arith, g.bounds b h, n.high)

  hops_at : (l j : ℕ) → l ≤ 4 → j < 2 ^ l → All (λ r. r.hop < no_hop) (run_at size t first end (position l j))
  hops_at l j le lt = rw (position-run g l j le lt) (all_part _ (λ r h e. h) n.hops)

  position-hop : (l j over : ℕ) → l ≤ 4 → j < 2 ^ l
      → hop_of (value_of size t (get_or first (position l j) 0) (get_or end (position l j) 0) over)
      ≡ or_else (own wide (size_at (slot_size depth) l) (place_at (slot_size depth) key l j) (run size t lo hi)) (hop_of over)
  position-hop l j over le lt =
      value_is size t (get_or first (position l j) 0) (get_or end (position l j) 0) over (hops_at l j le lt)
      ∙ ap (λ (rs : List Route). or_else (head_hop rs) (hop_of over)) (position-run g l j le lt)

  -- What the code says covers a position is what does.
  pub covering_is : (inherited l j : ℕ) → l ≤ 4 → j < 2 ^ l
      → hop_of (covering_at size t first end inherited l j) ≡ cover wide (slot_size depth) key (run size t lo hi) (hop_of inherited) l j
  unfolding covering_at cover
  covering_is inherited zero j le lt = position-hop zero j inherited le lt
  covering_is inherited (suc l) j le lt =
      position-hop (suc l) j (covering_at size t first end inherited l (j / 2)) le lt
      ∙ ap (or_else (own wide (size_at (slot_size depth) (suc l)) (place_at (slot_size depth) key (suc l) j) (run size t lo hi)))
      (covering_is inherited l (j / 2) (omega arith) (above_lt l j lt))

  pub covering_le : (inherited l j : ℕ) → inherited ≤ no_hop → l ≤ 4 → j < 2 ^ l → covering_at size t first end inherited l j ≤ no_hop
  unfolding covering_at
  covering_le inherited zero j h le lt = value_le size t _ _ inherited (hops_at zero j le lt) h
  covering_le inherited (suc l) j h le lt =
      value_le size t _ _ (covering_at size t first end inherited l (j / 2)) (hops_at (suc l) j le lt)
      (covering_le inherited l (j / 2) h (omega arith) (above_lt l j lt))

  -- ---- The nodes in the slots.

  -- The records of a slot that has some are those of a node, five bits deeper.
  pub child_node : (c : ℕ) → c < 32 → get_or first (31 + c) 0 < get_or end (31 + c) 0
      → Node size t (get_or first (31 + c) 0) (get_or end (31 + c) 0) (depth + 5) (place_at (slot_size depth) key 5 c)
  child_node c lt has =
      record {
        sized = n.sized;
        low = omega arith;
        high = ends_in (31 + c) (omega arith);
        level = suc n.level;
        fives = omega (arith, n.fives);
        at = record { deep = omega (arith, deeper, width_most size n.sized); aligned = rw bits_below base; small = slot-within depth key c n.at lt };
        within_reach = deeper;
        table = rw (slot-records g c lt) (table-part wide _ n.table);
        within = rw bits_below inner;
        short = shorts;
        hops = rw (slot-records g c lt) (all_part _ (λ r h e. h) n.hops);
      }
    where
      bits_below : wide - (depth + 5) ≡ slot_size depth
      bits_below = omega (arith, n.at.deep)

      base : Aligned (slot_size depth) (place_at (slot_size depth) key 5 c)
      base =
          subst (λ (k : ℕ). Aligned k (place_at (slot_size depth) key 5 c)) (size-slot (slot_size depth))
          (place-aligned (slot_size depth) key 5 c (node-run n).aligned)

      inner : All (Within wide (slot_size depth) (place_at (slot_size depth) key 5 c)) (run_at size t first end (31 + c))
      inner =
          rw (slot-records g c lt)
          (inside-within wide (slot_size depth) (place_at (slot_size depth) key 5 c) (omega arith) base n.table.valid)

      shorts : All (λ r. r.len ≤ width_in size) (run_at size t first end (31 + c))
      shorts = rw (slot-records g c lt) (all_part _ (λ r h e. h) n.short)

      one : Member (wide_at size t (get_or first (31 + c) 0)) (run_at size t first end (31 + c))
      one = member-run size t (get_or first (31 + c) 0) (get_or end (31 + c) 0) (get_or first (31 + c) 0) (omega arith) has

      deeper : depth + 5 + 5 ≤ reach size
      deeper = omega (arith, (all_member inner one).deep, all_member shorts one, n.fives, n.at.deep)

-- ---- The node of a whole table.

-- All the records of a table are its routes, wide.
pub root-run : (size : ℕ) (t : List ℕ) → run size t 0 (records_in size t) ≡ widened (spare size) (routes_in size t)
unfolding routes_in
root-run size t = rw (sub-zero (records_in size t))

-- Those of a table, by hops of the code, are those of a node.
pub root-node : (size : ℕ) (t : List ℕ) → IsSize size → Table (width_in size) (routes_in size t) → All (λ r. r.hop < no_hop) (routes_in size t)
    → Node size t 0 (records_in size t) 0 0
root-node size t is ok hops =
    record {
      sized = is;
      low = omega arith;
      high = omega arith;
      level = 0;
      fives = refl;
      at = record { deep = omega arith; aligned = aligned-zero wide; small = omega arith };
      within_reach = omega arith;
      table = rw (root-run size t) table;
      within = rw (root-run size t) (all_map (valid-within wide) table.valid);
      short = rw (root-run size t) (short-widen (width_in size) (spare size) ok.valid);
      hops = rw (root-run size t) (all_widen (spare size) (λ r h. h) hops);
    }
  where
    table : Table wide (widened (spare size) (routes_in size t))
    table = rw (width_spare size is) at (table-widen (width_in size) (spare size) ok)
