-- The slots of a node in the pass over its records: the records that follow one in its slot, and the word of the slots that have a record.
use Prim.Native.Nat.{ℕ, ◌+◌, ◌-◌, ◌^◌, ◌≤◌, ◌<◌}
use mathlib.Core.Path.{◌≡◌, sym, ap, ◌∙◌}
use mathlib.Core.Bool.{◌||◌}
use mathlib.Core.List.{List}
use mathlib.Core.Logic.{◌⊎◌, inl, inr}
use native.Mathlib.Nat.{eq-or-lt_of_le}
use native.Mathlib.Omega.{arith}
use lib.Dec.{eqb, ltb}
use lib.ListN.{get_or, set}
use borrow.Author.Tests.{le-ltb}
use Rattle.words.specs.Bits.{bit}
use Rattle.words.specs.Positions.{position}
use Rattle.words.proofs.BitLaws.{bit-zero}
use Rattle.positions.specs.Runs.{place_at}
use Rattle.positions.proofs.RunsNode.{size-slot}
use Rattle.nodes.specs.Node.{wide_at, slot_size, Node}
use Rattle.gather.specs.Gathered.{Gathered, Occupied, first_of}
use Rattle.gather.proofs.GatherPlaces.{heap_of, heap-level, slot_next}
use Rattle.gather.proofs.GatherLaws.{has_record}
use Rattle.gather.proofs.GatherSteps.{Passed, mark-next, node-within, node-before, node-heap}

-- The bits of a word say which slots have records first..end.
abbrev pub Slots : List ℕ → List ℕ → ℕ → Type 0
Slots first end occupied = (c : ℕ) → c < 32 → bit occupied c ≡ ltb (get_or first (31 + c) 0) (get_or end (31 + c) 0)

-- Before the first record there are none.
pub slots-start : (first end : List ℕ) → ((b : ℕ) → b < 63 → (get_or first b 0 ≡ 0) × (get_or end b 0 ≡ 0)) → Slots first end 0
slots-start first end z c h =
    bit-zero c ∙ sym (le-ltb (get_or first (31 + c) 0) (get_or end (31 + c) 0) (omega (arith, z (31 + c) (omega arith))))

module _ {size : ℕ} {t : List ℕ} {lo hi depth key : ℕ} (node : Node size t lo hi depth key) where
  -- A record after one of a slot, and before the slot's end, is of that slot.
  same_slot : (i k b : ℕ) → lo ≤ i → i < k → k < hi → heap_of depth key (wide_at size t i) ≡ b → 31 ≤ b
      → (wide_at size t k).addr < place_at (slot_size depth) key 5 (b - 31) + 2 ^ slot_size depth → heap_of depth key (wide_at size t k) ≡ b
  same_slot i k b le lt h is slot below =
      let ri = node-within node i le (omega arith) in
      let at : b ≡ position 5 (b - 31) = omega arith in
      let place = heap-level depth key node.at.deep node.at.aligned (wide_at size t i) ri 5 (b - 31) (omega (arith, is, node-heap node i le (omega arith))) (is ∙ at) in
      slot_next depth key node.at.deep node.at.aligned (wide_at size t i) (wide_at size t k) ri (node-within node k (omega arith) h) (node-before node i k le lt h)
      5 (b - 31) (omega arith) place.0 place.1 (omega (arith, below, ap (λ (n : ℕ). 2 ^ n) (size-slot (slot_size depth))))
      ∙ sym at

  -- So the records from one of place b on are of that place, as long as they stand before the end of the slot that it is.
  pub place-run : (i : ℕ) → lo ≤ i → (e : ℕ) → e ≤ hi → (b : ℕ) → heap_of depth key (wide_at size t i) ≡ b
      → ((k : ℕ) → i < k → k < e → (31 ≤ b) × ((wide_at size t k).addr < place_at (slot_size depth) key 5 (b - 31) + 2 ^ slot_size depth))
      → (k : ℕ) → i ≤ k → k < e → heap_of depth key (wide_at size t k) ≡ b
  place-run i le e ge b is slot k low h = go (eq-or-lt_of_le low)
    where
      go : (i ≡ k) ⊎ (i < k) → heap_of depth key (wide_at size t k) ≡ b
      go (inl q) = ap (λ (n : ℕ). heap_of depth key (wide_at size t n)) (sym q) ∙ is
      go (inr lt) = let z = slot k lt h in same_slot i k b le lt (omega arith) is z.0 z.1

  -- With the records i..e of place b its bit is set, where the place is a slot.
  pub slots_next : (i e : ℕ) (le : lo ≤ i) (lt : i < e) (ge : e ≤ hi) (b : ℕ) (is : (k : ℕ) → i ≤ k → k < e → heap_of depth key (wide_at size t k) ≡ b)
      {first end : List ℕ} {present : ℕ} → Passed size t lo i depth key first end present → (occupied next : ℕ) → Slots first end occupied
      → ((c : ℕ) → c < 32 → bit next c ≡ (eqb (31 + c) b || bit occupied c))
      → Slots (set first b (first_of (get_or first b 0) (get_or end b 0) i)) (set end b e) next
  slots_next i e le lt ge b is g occupied next s marked c h =
      marked c h ∙ mark-next node i e le lt ge b is g (31 + c) (bit occupied c) (s c h)

-- After the last record the word says which slots have a record in them.
pub slots_done : {size : ℕ} {t : List ℕ} {lo hi depth key : ℕ} {first end : List ℕ} {present : ℕ} → Gathered size t lo hi depth key first end present
    → (occupied : ℕ) → Slots first end occupied → Occupied size t lo hi depth key occupied
slots_done g occupied s c h = s c h ∙ sym (has_record g 5 c (omega arith) h)
