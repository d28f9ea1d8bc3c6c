-- The pass over a node's records, one step after another: what is known once the records lo..i are gathered, at the start, after one more and at the end.
use Prim.Native.Nat.{ℕ, ◌-◌, ◌^◌, ◌≤◌, ◌<◌}
use mathlib.Core.Path.{◌≡◌, refl, sym, ap, ◌∙◌}
use mathlib.Core.Bool.{Bool, true, false, cond, ◌||◌}
use mathlib.Core.List.{List}
use mathlib.Core.Logic.{◌↔◌, ◌⊎◌, inl, inr}
use native.Mathlib.Nat.{eq-or-lt_of_le}
use native.Mathlib.Decide.{dec_lt}
use native.Mathlib.Omega.{arith}
use lib.Dec.{eqb, ltb}
use lib.ListN.{length, get_or, set, length-set}
use lib.Seq.{get_or-set_same, get_or-set_other, set-get_or}
use borrow.Author.Tests.{lt-ltb, le-ltb, eq-eqb, ne_eqb}
use Rattle.theory.specs.Results.{part}
use Rattle.theory.specs.Routes.{Before}
use Rattle.theory.proofs.Lists.{all_member}
use Rattle.theory.specs.Shapes.{Within}
use Rattle.words.specs.Bits.{bit}
use Rattle.words.specs.Positions.{position}
use Rattle.words.proofs.BitLaws.{if_lt, if_eq, bit-zero}
use Rattle.words.proofs.PositionLaws.{in_word}
use Rattle.nodes.specs.Node.{wide, wide_at, run, slot_size, Node}
use Rattle.gather.specs.Gathered.{filed, some, run_at, Gathered, first_of}
use Rattle.gather.proofs.GatherPlaces.{in_heap, heap_of, heap_lt, filed-heap, heap_between}
use Rattle.gather.proofs.GatherRuns.{member-run, before-run, run_none, some-run, part-run_none, part-run}

-- What is known of place b, whose records are first..end, once the records lo..i of a node at this depth and key are gathered.
pub record Placed (size : ℕ) (t : List ℕ) (lo i depth key b first end : ℕ) : Type 0 where
  pub order : first ≤ end
  pub bound : end ≤ i
  pub from : first < end → lo ≤ first
  pub holds : (k : ℕ) → lo ≤ k → k < i → (heap_of depth key (wide_at size t k) ≡ b) ↔ ((first ≤ k) × (k < end))

-- What is known of all places, and of the positions that have a record.
pub record Passed (size : ℕ) (t : List ℕ) (lo i depth key : ℕ) (first end : List ℕ) (present : ℕ) : Type 0 where
  pub firsts : length first ≡ 63
  pub ends : length end ≡ 63
  pub each : (b : ℕ) → b < 63 → Placed size t lo i depth key b (get_or first b 0) (get_or end b 0)
  pub marks : (b : ℕ) → b < 31 → bit present b ≡ ltb (get_or first b 0) (get_or end b 0)
  pub no_more : bit present 31 ≡ false

-- Before the first record all places are empty.
pub passed_start : (size : ℕ) (t : List ℕ) (lo depth key : ℕ) (first end : List ℕ) → length first ≡ 63 → length end ≡ 63
    → ((b : ℕ) → b < 63 → (get_or first b 0 ≡ 0) × (get_or end b 0 ≡ 0)) → Passed size t lo lo depth key first end 0
passed_start size t lo depth key first end f e z =
    record {
      firsts = f;
      ends = e;
      each =
          λ b h.
          let y = z b h in
          record { order = omega arith; bound = omega arith; from = λ lt. absurd (omega arith); holds = λ k le lt. absurd (omega arith) };
      marks = λ b h. bit-zero b ∙ sym (le-ltb (get_or first b 0) (get_or end b 0) (omega (arith, z b (omega arith))));
      no_more = bit-zero 31;
    }

-- A place that has taken the records i..e in is not empty.
first_small : (first end i e : ℕ) → end ≤ i → i < e → first_of first end i < e
first_small first end i e h lt = if_lt (λ (s : Bool). cond s first i < e) first end (λ l. omega arith) (λ l. omega arith)

-- A place with records keeps its first, and one without has record i.
pub first_kept : (first end : List ℕ) (b i : ℕ) → get_or first b 0 < get_or end b 0 → set first b (first_of (get_or first b 0) (get_or end b 0) i) ≡ first
first_kept first end b i h = rw (lt-ltb (get_or first b 0) (get_or end b 0) h) (set-get_or first b 0)

pub first_new : (first end : List ℕ) (b i : ℕ) → get_or end b 0 ≤ get_or first b 0 → set first b (first_of (get_or first b 0) (get_or end b 0) i) ≡ set first b i
first_new first end b i h = rw (le-ltb (get_or first b 0) (get_or end b 0) h) refl

module _ {size : ℕ} {t : List ℕ} {lo hi depth key : ℕ} (node : Node size t lo hi depth key) where
  -- Each record is a route of the node, and they stand in order.
  pub node-within : (i : ℕ) → lo ≤ i → i < hi → Within wide (wide - depth) key (wide_at size t i)
  node-within i le lt = all_member node.within (member-run size t lo hi i le lt)

  pub node-before : (i j : ℕ) → lo ≤ i → i < j → j < hi → Before (wide_at size t i) (wide_at size t j)
  node-before i j le lt h = before-run size t lo hi i j node.table.order le lt h

  -- It has one of the 63 places.
  pub node-heap : (i : ℕ) → lo ≤ i → i < hi → heap_of depth key (wide_at size t i) < 63
  node-heap i le lt = heap_lt depth key node.at.deep node.at.aligned (wide_at size t i) (node-within i le lt)

  -- A record between two of one place is of that place.
  node_between : (i j k : ℕ) → lo ≤ i → i < j → j < k → k < hi → heap_of depth key (wide_at size t k) ≡ heap_of depth key (wide_at size t i)
      → heap_of depth key (wide_at size t j) ≡ heap_of depth key (wide_at size t i)
  node_between i j k le p q h e =
      heap_between depth key node.at.deep node.at.aligned (wide_at size t i) (wide_at size t j) (wide_at size t k)
      (node-within i le (omega arith)) (node-within j (omega arith) (omega arith)) (node-within k (omega arith) h)
      (node-before i j le p (omega arith)) (node-before j k (omega arith) q h) e

  -- The records i..e more, all of place b.
  module _ (i e : ℕ) (le : lo ≤ i) (lt : i < e) (ge : e ≤ hi) (b : ℕ) (is : (k : ℕ) → i ≤ k → k < e → heap_of depth key (wide_at size t k) ≡ b) where
    -- Another place stays as it is.
    placed_other : {c first end : ℕ} → (c ≡ b → ⊥) → Placed size t lo i depth key c first end → Placed size t lo e depth key c first end
    placed_other {c} {first} {end} ne p =
        record { order = p.order; bound = omega (arith, p.bound); from = p.from; holds = λ k l h. go k l h (dec_lt k i) }
      where
        go : (k : ℕ) → lo ≤ k → k < e → Dec (k < i) → (heap_of depth key (wide_at size t k) ≡ c) ↔ ((first ≤ k) × (k < end))
        go k l h (yes d) = p.holds k l d
        go k l h (no d) = (λ f. absurd (ne (sym f ∙ is k (omega arith) h)), λ z. absurd (omega (arith, p.bound)))

    -- Their own place, where there are records, goes up to them.
    placed_more : {first end : ℕ} → first < end → Placed size t lo i depth key b first end → Placed size t lo e depth key b first e
    placed_more {first} {end} some p =
        record {
          order = omega (arith, p.bound);
          bound = omega arith;
          from = λ h. p.from some;
          holds = λ k l h. (λ f. (here k l (dec_lt k i) f, h), λ z. there k h (eq-or-lt_of_le z.0) (dec_lt k i));
        }
      where
        here : (k : ℕ) → lo ≤ k → Dec (k < i) → heap_of depth key (wide_at size t k) ≡ b → first ≤ k
        here k l (yes d) f = ((p.holds k l d).0 f).0
        here k l (no d) f = omega (arith, p.bound)

        start : heap_of depth key (wide_at size t first) ≡ b
        start = (p.holds first (p.from some) (omega (arith, p.bound))).1 (omega arith)

        there : (k : ℕ) → k < e → (first ≡ k) ⊎ (first < k) → Dec (k < i) → heap_of depth key (wide_at size t k) ≡ b
        there k h q (no d) = is k (omega arith) h
        there k h (inl q) (yes d) = ap (λ (n : ℕ). heap_of depth key (wide_at size t n)) (sym q) ∙ start
        there k h (inr q) (yes d) = node_between first k i (p.from some) q d (omega arith) (is i (omega arith) lt ∙ sym start) ∙ start

    -- Where there are none they are the first.
    placed_first : {first end : ℕ} → end ≤ first → Placed size t lo i depth key b first end → Placed size t lo e depth key b i e
    placed_first {first} {end} none p =
        record { order = omega arith; bound = omega arith; from = λ h. le; holds = λ k l h. (λ f. (go k l (dec_lt k i) f, h), λ z. is k z.0 h) }
      where
        go : (k : ℕ) → lo ≤ k → Dec (k < i) → heap_of depth key (wide_at size t k) ≡ b → i ≤ k
        go k l (yes d) f = absurd (omega (arith, (p.holds k l d).0 f))
        go k l (no d) f = omega arith

    placed-own : {first end : ℕ} → Placed size t lo i depth key b first end → Placed size t lo e depth key b (first_of first end i) e
    placed-own {first} {end} p =
        if_lt (λ (s : Bool). Placed size t lo e depth key b (cond s first i) e) first end (λ h. placed_more h p) (λ h. placed_first h p)

    module _ {first end : List ℕ} {present : ℕ} (g : Passed size t lo i depth key first end present) where
      place-small : b < 63
      place-small = rw (sym (is i (omega arith) lt)) (node-heap i le (omega arith))

      -- The mark of a place, set for theirs, says again whether the place has records.
      pub mark-next : (c : ℕ) (m : Bool) → m ≡ ltb (get_or first c 0) (get_or end c 0)
          → (eqb c b || m) ≡ ltb (get_or (set first b (first_of (get_or first b 0) (get_or end b 0) i)) c 0) (get_or (set end b e) c 0)
      mark-next c m h =
          if_eq (λ (s : Bool). (s || m) ≡ ltb (get_or (set first b low) c 0) (get_or (set end b e) c 0)) c b (λ q. rw q mark)
          (λ ne. rw (get_or-set_other first b c low 0 ne, get_or-set_other end b c e 0 ne) h)
        where
          low : ℕ
          low = first_of (get_or first b 0) (get_or end b 0) i

          mark : true ≡ ltb (get_or (set first b low) b 0) (get_or (set end b e) b 0)
          mark =
              rw (get_or-set_same first b low 0 (rw g.firsts place-small), get_or-set_same end b e 0 (rw g.ends place-small))
              (sym (lt-ltb low e (first_small (get_or first b 0) (get_or end b 0) i e (g.each b place-small).bound lt)))

      module _ (next : ℕ) (marked : (c : ℕ) → c < 31 → bit next c ≡ (eqb c b || bit present c)) (same : bit next 31 ≡ bit present 31) where
        -- Their place takes them in, and its position is marked.
        pub passed_next : Passed size t lo e depth key (set first b (first_of (get_or first b 0) (get_or end b 0) i)) (set end b e) next
        passed_next =
            record {
              firsts = length-set first b low ∙ g.firsts;
              ends = length-set end b e ∙ g.ends;
              each = λ c h. if_eq (λ (s : Bool). Placed size t lo e depth key c (starts c) (stops c)) c b (λ q. rw q own) (other c h);
              marks = λ c h. marked c h ∙ mark-next c (bit present c) (g.marks c h);
              no_more = same ∙ g.no_more;
            }
          where
            low : ℕ
            low = first_of (get_or first b 0) (get_or end b 0) i

            -- Where the records of a place start and stop now.
            starts : ℕ → ℕ
            starts c = get_or (set first b low) c 0

            stops : ℕ → ℕ
            stops c = get_or (set end b e) c 0

            own : Placed size t lo e depth key b (starts b) (stops b)
            own =
                rw (get_or-set_same first b low 0 (rw g.firsts place-small), get_or-set_same end b e 0 (rw g.ends place-small))
                (placed-own (g.each b place-small))

            other : (c : ℕ) → c < 63 → (c ≡ b → ⊥) → Placed size t lo e depth key c (starts c) (stops c)
            other c h ne = rw (get_or-set_other first b c low 0 ne, get_or-set_other end b c e 0 ne) (placed_other ne (g.each c h))

  -- After the last record all is found.
  module _ {first end : List ℕ} {present : ℕ} (g : Passed size t lo hi depth key first end present) where
    filed-here : (l j : ℕ) → l ≤ 5 → j < 2 ^ l → (k : ℕ) → lo ≤ k → k < hi
        → filed (slot_size depth) key l j (wide_at size t k) ≡ eqb (heap_of depth key (wide_at size t k)) (position l j)
    filed-here l j le lt k a h = filed-heap depth key node.at.deep node.at.aligned (wide_at size t k) (node-within k a h) l j le lt

    -- The records of a place are a run.
    found : (l j : ℕ) → l ≤ 5 → j < 2 ^ l → run_at size t first end (position l j) ≡ part (filed (slot_size depth) key l j) (run size t lo hi)
    found l j le lt = go (get_or first (position l j) 0) (get_or end (position l j) 0) (g.each (position l j) (in_heap l j le lt)) (dec_lt _ _)
      where
        away : (f e : ℕ) → Placed size t lo hi depth key (position l j) f e → (k : ℕ) → lo ≤ k → k < hi → ((f ≤ k) × (k < e) → ⊥)
            → filed (slot_size depth) key l j (wide_at size t k) ≡ false
        away f e p k a h out = filed-here l j le lt k a h ∙ ne_eqb _ _ (λ z. out ((p.holds k a h).0 z))

        go : (f e : ℕ) → Placed size t lo hi depth key (position l j) f e → Dec (f < e)
            → run size t f e ≡ part (filed (slot_size depth) key l j) (run size t lo hi)
        go f e p (yes has) =
            let from = p.from has in
            let bound = p.bound in
            sym (part-run size t (filed (slot_size depth) key l j) lo f e hi from p.order bound
            (λ k a h. filed-here l j le lt k (omega arith) (omega arith) ∙ eq-eqb _ _ ((p.holds k (omega arith) (omega arith)).1 (a, h)))
            (away f e p))
        go f e p (no none) =
            run_none size t f e (omega arith)
            ∙ sym (part-run_none size t (filed (slot_size depth) key l j) lo hi (λ k a h. away f e p k a h (λ z. omega arith)))

    pub passed_done : Gathered size t lo hi depth key first end present
    passed_done =
        record {
          places = found;
          order = λ b h. (g.each b h).order;
          bounds = λ b h. (g.each b h).bound;
          members =
              λ l j le lt.
              g.marks (position l j) (in_word l j le lt)
              ∙ sym (some-run size t (get_or first (position l j) 0) (get_or end (position l j) 0))
              ∙ ap some (found l j (omega arith) lt);
          no_more = g.no_more;
        }
