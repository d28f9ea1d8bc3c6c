-- The changed words of a room are the changed records stored in it.
use Prim.Native.Nat.{ℕ, ◌+◌, ◌-◌, ◌*◌, ◌≤◌, ◌<◌}
use mathlib.Core.Path.{◌≡◌, refl, sym, ap, ap₂, ◌∙◌}
use mathlib.Core.List.{List, ◌∷◌, ◌++◌, append_assoc}
use native.Mathlib.Omega.{arith}
use lib.ListN.{length, get_or, take, drop, length-append}
use lib.Seq.{take_at}
use Rattle.theory.specs.Routes.{Route}
use Rattle.liveroom.specs.Rooms.{mark, shown_from, count_in, pairs, stored}
use Rattle.liveroom.specs.Inner.{Holds, with_at, written, inserted, removed}
use Rattle.liveroom.proofs.Moving.{take-two}
use Rattle.liveroom.proofs.Reading.{rest_in, length_from, length_pairs, pairs-append, pairs_from}
use Rattle.liveroom.proofs.Storing.{stored_is}

-- The words of the records before a place, and of k records from a place on.
front_words : (room : List ℕ) (at : ℕ) → Holds room at → take (2 * at) (drop 2 room) ≡ pairs (shown_from room 0 at)
front_words room at h =
    let e : drop 2 room ≡ pairs (shown_from room 0 at) ++ drop (2 + 2 * (0 + at)) room = pairs_from room 0 at (omega arith) in
    ap (take (2 * at)) e
    ∙ take_at (pairs (shown_from room 0 at)) (drop (2 + 2 * (0 + at)) room) (2 * at) (omega (arith, length_pairs (shown_from room 0 at), length_from room 0 at))

back_words : (room : List ℕ) (i k : ℕ) → Holds room (i + k) → take (2 * k) (drop (2 + 2 * i) room) ≡ pairs (shown_from room i k)
back_words room i k h =
    ap (take (2 * k)) (pairs_from room i k h)
    ∙ take_at (pairs (shown_from room i k)) (drop (2 + 2 * (i + k)) room) (2 * k) (omega (arith, length_pairs (shown_from room i k), length_from room i k))

-- A map's words in parts.
stored_parts : (room : List ℕ) (s t : List Route) (w n : ℕ) (front back tail : List ℕ) → w ≡ mark → n ≡ length (s ++ t)
    → front ≡ pairs s → back ≡ pairs t → tail ≡ drop (2 + 2 * n) room → w ∷ n ∷ (front ++ (back ++ tail)) ≡ stored (s ++ t) room
stored_parts room s t w n front back tail ew en ef eb et =
    let p : front ++ (back ++ tail) ≡ pairs (s ++ t) ++ drop (2 + 2 * length (s ++ t)) room =
    ap₂ (λ (u v : List ℕ). u ++ v) ef (ap₂ (λ (u v : List ℕ). u ++ v) eb (et ∙ ap (λ (m : ℕ). drop (2 + 2 * m) room) en))
    ∙ sym (append_assoc (pairs s) (pairs t) (drop (2 + 2 * length (s ++ t)) room))
    ∙ ap (λ (u : List ℕ). u ++ drop (2 + 2 * length (s ++ t)) room) (sym (pairs-append s t)) in
    ap₂ (λ (x : ℕ) (u : List ℕ). x ∷ u) ew (ap₂ (λ (x : ℕ) (u : List ℕ). x ∷ u) en p) ∙ sym (stored_is (s ++ t) room)

module _ (room : List ℕ) (n at : ℕ) (m : get_or room 0 0 ≡ mark) where
  -- A record made.
  pub inserted-stored : (r : Route) → at ≤ n → Holds room (n + 1) → inserted room n at r ≡ stored (with_at room n at r) room
  unfolding pairs
  inserted-stored r le h =
      let k : at + (n - at) ≡ n = omega arith in
      let z : 4 + 2 * n ≡ 2 + 2 * (n + 1) = omega arith in
      stored_parts room (shown_from room 0 at) (r ∷ rest_in room n at) (get_or room 0 0) (n + 1) _
      (r.addr ∷ (r.len * 65536 + r.hop) ∷ take (2 * (n - at)) (drop (2 + 2 * at) room)) (drop (4 + 2 * n) room) m
      (omega (arith, length-append (shown_from room 0 at) (r ∷ rest_in room n at), length_from room 0 at, length_from room at (n - at)))
      (front_words room at (omega arith))
      (ap (λ (u : List ℕ). r.addr ∷ (r.len * 65536 + r.hop) ∷ u) (back_words room at (n - at) (omega arith)))
      (ap (λ (j : ℕ). drop j room) z)

  -- A record written anew.
  pub written-stored : (r : Route) → at < n → n ≡ count_in room → Holds room n
      → written room at r ≡ stored (shown_from room 0 at ++ (r ∷ rest_in room n (at + 1))) room
  unfolding pairs
  written-stored r lt en h =
      let back : List ℕ = pairs (rest_in room n (at + 1)) in
      let j : 4 + 2 * at ≡ 2 + 2 * (at + 1) = omega arith in
      let q : at + 1 + (n - (at + 1)) ≡ n = omega arith in
      let d : drop (4 + 2 * at) room ≡ back ++ drop (2 + 2 * n) room =
      ap (λ (i : ℕ). drop i room) j ∙ pairs_from room (at + 1) (n - (at + 1)) (omega arith) ∙ ap (λ (i : ℕ). back ++ drop (2 + 2 * i) room) q in
      ap₂ (λ (u v : List ℕ). u ++ (r.addr ∷ (r.len * 65536 + r.hop) ∷ v)) (take-two room (2 * at) (omega arith)) d
      ∙ stored_parts room (shown_from room 0 at) (r ∷ rest_in room n (at + 1)) (get_or room 0 0) (count_in room) _
      (r.addr ∷ (r.len * 65536 + r.hop) ∷ back) (drop (2 + 2 * n) room) m
      (omega (arith, length-append (shown_from room 0 at) (r ∷ rest_in room n (at + 1)), length_from room 0 at, length_from room (at + 1) (n - (at + 1))))
      (front_words room at (omega arith))
      refl
      (ap (λ (i : ℕ). drop (2 + 2 * i) room) en)

  -- A record taken away.
  pub removed-stored : at < n → Holds room n → removed room n at ≡ stored (shown_from room 0 at ++ rest_in room n (at + 1)) room
  removed-stored lt h =
      let j : 4 + 2 * at ≡ 2 + 2 * (at + 1) = omega arith in
      let z : 2 * n ≡ 2 + 2 * (n - 1) = omega arith in
      let k : 2 * (n - at) - 2 ≡ 2 * (n - (at + 1)) = omega arith in
      let b : take (2 * (n - at) - 2) (drop (4 + 2 * at) room) ≡ pairs (rest_in room n (at + 1)) =
      ap₂ (λ (x y : ℕ). take x (drop y room)) k j ∙ back_words room (at + 1) (n - (at + 1)) (omega arith) in
      stored_parts room (shown_from room 0 at) (rest_in room n (at + 1)) (get_or room 0 0) (n - 1) _ _ (drop (2 * n) room) m
      (omega (arith, length-append (shown_from room 0 at) (rest_in room n (at + 1)), length_from room 0 at, length_from room (at + 1) (n - (at + 1))))
      (front_words room at (omega arith))
      b
      (ap (λ (i : ℕ). drop i room) z)
