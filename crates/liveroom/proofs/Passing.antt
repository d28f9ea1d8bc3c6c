-- The pass over a room's records: what the first record and each later one add to the order and to the count of nodes.
use Prim.Native.Nat.{ℕ, ◌+◌, ◌≤◌, ◌<◌}
use mathlib.Core.Path.{◌≡◌, refl, sym, ap, ◌∙◌}
use mathlib.Core.Bool.{true, false, ◌&&◌}
use mathlib.Core.List.{List, [], ◌∷◌}
use native.Mathlib.Omega.{arith}
use lib.Dec.{leb}
use borrow.Author.Tests.{leb-true}
use Rattle.theory.specs.Routes.{Route}
use Rattle.records.specs.Sized.{route}
use Rattle.table.specs.SizedRules.{before}
use Rattle.nodecount.specs.Nodes.{nodes, new_nodes, bare, brought}
use Rattle.nodecount.proofs.NodeCount.{root, passed, nodes_pass}
use Rattle.nodecount.proofs.NodePass.{passed_bare}
use Rattle.liveroom.specs.Rooms.{route_in, shown_from, sound, after, lawful}
use Rattle.liveroom.specs.Inner.{passed_nodes}
use Rattle.liveroom.specs.Rooms.{Words}
use Rattle.liveroom.proofs.Reading.{rest_in, rest_next, rest_end, rest_all}
use Rattle.liveroom.proofs.Sound.{and-true, lawful_mapped, mapped_table, small-shown}

-- The hop of the route before is of no account.
after-bare : (p : Route) (t : List Route) → after p t ≡ after (bare p.addr p.len) t
after-bare p [] = refl
after-bare p (r ∷ t) = refl

-- The root and what the routes bring, where they are sound and in order.
pub no_records : (room : List ℕ) (n : ℕ) → n ≡ 0 → 1 ≡ passed_nodes room n
unfolding shown_from nodes brought
no_records room n e = rw e

pub passed_false : (room : List ℕ) (n : ℕ) → lawful (shown_from room 0 n) ≡ false → 0 ≡ passed_nodes room n
passed_false room n e = rw e

pub passed_true : (room : List ℕ) (n count : ℕ) → Words room → lawful (shown_from room 0 n) ≡ true
    → count ≡ 1 + passed 32 root (shown_from room 0 n) → count ≡ passed_nodes room n
passed_true room n count w e q =
    rw e (q ∙ sym (nodes_pass 32 (mapped_table (lawful_mapped (small-shown room 0 n w) e))))

-- Record i by what is read of it.
module _ (room : List ℕ) (n i a l h : ℕ) (lt : i < n) (ea : a ≡ (route_in room i).addr) (el : l ≡ (route_in room i).len) (eh : h ≡ (route_in room i).hop) where
  is_route : route a l h ≡ route_in room i
  is_route j = record { addr = ea j; len = el j; hop = eh j }

  next : rest_in room n i ≡ route a l h ∷ rest_in room n (i + 1)
  next = rest_next room n i lt ∙ ap (λ (r : Route). r ∷ rest_in room n (i + 1)) (sym is_route)

  pub next_good : (p : Route) → (before p (route a l h) && sound (route a l h)) ≡ true → after p (rest_in room n i) ≡ after (bare a l) (rest_in room n (i + 1))
  next_good p e = rw next (rw e (after-bare (route a l h) (rest_in room n (i + 1))))

  pub next_bad : (p : Route) → (before p (route a l h) && sound (route a l h)) ≡ false → after p (rest_in room n i) ≡ false
  next_bad p e = rw next (rw e refl)

  pub next-count : (p : Route) (count new total : ℕ) → new ≡ new_nodes 32 p (bare a l) → count + passed 32 p (rest_in room n i) ≡ total
      → count + new + passed 32 (bare a l) (rest_in room n (i + 1)) ≡ total
  unfolding passed
  next-count p count new total en e =
      let f : count + (new_nodes 32 p (bare a l) + passed 32 (route a l h) (rest_in room n (i + 1))) ≡ total = rw next at e in
      omega (arith, passed_bare 32 (route a l h) (rest_in room n (i + 1)))

  pub first_good : i ≡ 0 → sound (route a l h) ≡ true → lawful (shown_from room 0 n) ≡ after (bare a l) (rest_in room n (i + 1))
  first_good z e =
      let s : shown_from room 0 n ≡ route a l h ∷ rest_in room n (i + 1) = sym (rest_all room n i z) ∙ next in
      rw s (rw e (after-bare (route a l h) (rest_in room n (i + 1))))

  pub first_bad : i ≡ 0 → sound (route a l h) ≡ false → lawful (shown_from room 0 n) ≡ false
  first_bad z e =
      let s : shown_from room 0 n ≡ route a l h ∷ rest_in room n (i + 1) = sym (rest_all room n i z) ∙ next in
      rw s (rw e refl)

-- Behind the last record.
pub done_order : (room : List ℕ) (n i : ℕ) (p : Route) → n ≤ i → after p (rest_in room n i) ≡ true
done_order room n i p le = rw (rest_end room n i le)

pub done_count : (room : List ℕ) (n i : ℕ) (p : Route) → n ≤ i → passed 32 p (rest_in room n i) ≡ 0
unfolding passed
done_count room n i p le = rw (rest_end room n i le)

pub sound-short : (a l h : ℕ) → sound (route a l h) ≡ true → l ≤ 32
sound-short a l h e = leb-true l 32 (and-true {b = leb l 32} e).0

pub follows_short : (p : Route) (a l h : ℕ) → (before p (route a l h) && sound (route a l h)) ≡ true → l ≤ 32
follows_short p a l h e = sound-short a l h (and-true {b = before p (route a l h)} {c = sound (route a l h)} e).1
