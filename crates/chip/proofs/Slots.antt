-- What stands in each slot of the image after an answer: each record in exactly one, in the order of the slots; and 255 in every byte of the others.
-- Assumes nothing.
use Prim.Native.Nat.{ℕ, ◌+◌, ◌-◌, ◌*◌, ◌≤◌, ◌<◌}
use mathlib.Core.Path.{◌≡◌, sym, ap, subst, ◌∙◌}
use mathlib.Core.List.{List, ◌++◌}
use native.Mathlib.Decide.{dec_lt}
use native.Mathlib.Nat.{sub-zero}
use native.Mathlib.Omega.{arith}
use lib.ListN.{length, get_or, take, drop, replicate, get_or-replicate}
use lib.Seq.{take_at, drop_at, get_or-append-add}
use Rattle.refusals.specs.declared.Refusal.{Refusal}
use Rattle.std.specs.Prelude.{Result, Ok}
use Rattle.theory.specs.Routes.{Route, Before, Member}
use Rattle.theory.specs.Falling.{Sooner, Ordered}
use Rattle.theory.proofs.Lists.{all_member}
use Rattle.theory.proofs.Numbered.{numbered, member_numbered, numbered_member, ordered_numbered, numbered_once, split_numbered}
use Rattle.theory.proofs.Ordered.{ascending_ordered, before_one_way, sooner_one_way}
use Rattle.records.specs.Wire.{records, route_at, bytes_of}
use Rattle.records.specs.Sized.{Bytes}
use Rattle.records.specs.declared.Form.{Form}
use Rattle.records.proofs.Reading.{length_from, from_counted, routes_numbered}
use Rattle.records.proofs.Written.{length-bytes}
use Rattle.chip.specs.Images.{image_of}
use Rattle.chip.specs.Loading.{load_order, Loads}
use Rattle.chip.proofs.Calls.{load_given, load_image, load_used, load_member, load_length, lawful, load_ordered, load_slots}
use Rattle.chip.proofs.Images.{unused_slots, unused_long}

module _ (form : Form) (t m : List ℕ) (r : Result ℕ Refusal) (m' : List ℕ) (ok : Loads form t m r m') (used : ℕ) (answered : r ≡ Ok used) (bytes : Bytes t) where
  -- The route of a slot.
  abbrev slot : ℕ → Route
  slot = route_at m'

  size : length m' ≡ 8192
  size = load_length form t m r m' ok ∙ ((load_given form t m r m' ok used).0 answered).1

  few : used ≤ 1024
  few = let k = (load_given form t m r m' ok used).0 answered in omega (arith, k.0.few, k.2)

  all_slots : numbered slot 0 used ++ numbered slot used 1024 ≡ load_order t ++ unused_slots (length (load_order t))
  all_slots =
      let n : 1024 ≡ records m' = omega (arith, size) in
      sym (split_numbered slot 0 used 1024 (omega arith) few)
      ∙ ap (numbered slot 0) n
      ∙ sym (routes_numbered m')
      ∙ load_slots form t m r m' ok used answered bytes

  front_length : length (numbered slot 0 used) ≡ used
  front_length = ap length (sym (from_counted m' 0 (used - 0))) ∙ length_from m' 0 (used - 0) ∙ sub-zero used

  count : length (load_order t) ≡ used
  count = load_used form t m r m' ok used answered

  -- The used slots are the routes by falling length, and the others are unused.
  front : numbered slot 0 used ≡ load_order t
  front =
      sym (take_at (numbered slot 0 used) (numbered slot used 1024) used front_length)
      ∙ ap (take used) all_slots
      ∙ take_at (load_order t) (unused_slots (length (load_order t))) used count

  behind : numbered slot used 1024 ≡ unused_slots (length (load_order t))
  behind =
      sym (drop_at (numbered slot 0 used) (numbered slot used 1024) used front_length)
      ∙ ap (drop used) all_slots
      ∙ drop_at (load_order t) (unused_slots (length (load_order t))) used count

  front_ordered : Ordered Sooner (numbered slot 0 used)
  front_ordered = subst (Ordered Sooner) (sym front) (load_ordered form t m r m' ok used answered bytes)

  records_ordered : Ordered Before (numbered (route_at t) 0 (records t))
  records_ordered = subst (Ordered Before) (routes_numbered t) (ascending_ordered (lawful form t m r m' ok used answered bytes).table.order)

  -- Which routes they have.
  slot_record : (j : ℕ) → j < used → (i : ℕ) × (i < records t) × (route_at t i ≡ slot j)
  slot_record j lt =
      let held = (load_member form t m r m' ok used answered (slot j)).0 (subst (Member (slot j)) front (member_numbered slot 0 used j (omega arith) lt)) in
      let z = numbered_member (route_at t) 0 (records t) (subst (Member (slot j)) (routes_numbered t) held) in
      (z.0, z.2, z.3)

  record_slot : (i : ℕ) → i < records t → (j : ℕ) × (j < used) × (slot j ≡ route_at t i)
  record_slot i lt =
      let held = subst (Member (route_at t i)) (sym (routes_numbered t)) (member_numbered (route_at t) 0 (records t) i (omega arith) lt) in
      let placed = (load_member form t m r m' ok used answered (route_at t i)).1 held in
      let z = numbered_member slot 0 used (subst (Member (route_at t i)) (sym front) placed) in
      (z.0, z.2, z.3)

  -- A slot with a record's route is used.
  slot_used : (i k : ℕ) → i < records t → k < 1024 → slot k ≡ route_at t i → k < used
  slot_used i k lt h e = go (dec_lt k used)
    where
      go : Dec (k < used) → k < used
      go (yes p) = p
      go (no p) =
          let long = all_member (unused_long (length (load_order t))) (subst (Member (slot k)) behind (member_numbered slot used 1024 k (omega arith) h)) in
          let kept = (((load_given form t m r m' ok used).0 answered).0.each i lt).length_kept in
          absurd (omega (arith, long, kept, ap (λ (q : Route). q.len) e))

  -- Each record of the table stands in exactly one slot,
  pub load_once : (i : ℕ) → i < records t
      → (j : ℕ) × (j < used) × (route_at m' j ≡ route_at t i) × ((k : ℕ) → k < 1024 → route_at m' k ≡ route_at t i → k ≡ j)
  load_once i lt =
      let z = record_slot i lt in (
        z.0,
        z.1,
        z.2,
        λ k h e. numbered_once slot sooner_one_way 0 used k z.0 front_ordered (omega arith) (slot_used i k lt h e) (omega arith) z.1 (e ∙ sym z.2),
      )

  -- and in each used slot exactly one record does.
  pub load_holds : (j : ℕ) → j < used
      → (i : ℕ) × (i < records t) × (route_at t i ≡ route_at m' j) × ((k : ℕ) → k < records t → route_at t k ≡ route_at m' j → k ≡ i)
  load_holds j lt =
      let z = slot_record j lt in (
        z.0,
        z.1,
        z.2,
        λ k h e. numbered_once (route_at t) before_one_way 0 (records t) k z.0 records_ordered (omega arith) h (omega arith) z.1 (e ∙ sym z.2),
      )

  -- The used slots stand by falling length, within a length by rising address.
  pub load_falls : (i j : ℕ) → i < j → j < used → Sooner (route_at m' i) (route_at m' j)
  load_falls i j lt h = ordered_numbered slot 0 used i j front_ordered (omega arith) lt h

  -- Each byte of the others is 255.
  pub load_unused : (k : ℕ) → 8 * used ≤ k → k < 8192 → get_or m' k 0 ≡ 255
  unfolding image_of
  load_unused k le lt =
      let n = length-bytes (load_order t) in
      let c = count in
      let at : k ≡ length (bytes_of (load_order t)) + (k - 8 * used) = omega arith in
      ap (λ (l : List ℕ). get_or l k 0) (load_image form t m r m' ok used answered)
      ∙ ap (λ (i : ℕ). get_or (image_of (load_order t)) i 0) at
      ∙ get_or-append-add (bytes_of (load_order t)) (replicate (8 * (1024 - length (load_order t))) 255) (k - 8 * used) 0
      ∙ get_or-replicate (8 * (1024 - length (load_order t))) (k - 8 * used) 255 0 (omega arith)
