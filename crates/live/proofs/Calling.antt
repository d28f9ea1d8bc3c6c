-- What is said and left past the first rules: of a put and of a take, in a room that holds a live map.
use Prim.Native.Nat.{ℕ, suc, ◌+◌, ◌≤◌, ◌<◌}
use mathlib.Core.Path.{◌≡◌, refl, sym, ap, ◌∙◌}
use mathlib.Core.Bool.{Bool, true, false}
use mathlib.Core.List.{List}
use native.Mathlib.Omega.{arith}
use lib.ListN.{length}
use borrow.Author.Tests.{le-leb, lt-leb}
use Rattle.theory.specs.Routes.{Route, Valid, Table}
use Rattle.refusals.specs.Rules.{Reply, gives, refuses, judge}
use Rattle.std.specs.Prelude.{Ok, Err}
use Rattle.refusals.specs.Numbers.{number_of}
use Rattle.refusals.specs.declared.Cause.{Cause}
use Rattle.refusals.specs.declared.Cause.TheVariants.{MapFull, WorkRoom}
use Rattle.records.specs.Sized.{route}
use Rattle.nodecount.specs.Nodes.{nodes, bare}
use Rattle.steps.specs.Steps.{putting, present, put}
use Rattle.steps.proofs.Tables.{table_step, length_new, length_old}
use Rattle.liveroom.specs.Rooms.{shown_from, shown, count_in, stored, fit, Words}
use Rattle.liveroom.specs.Inner.{Holds, InRange, Placed, is_at, with_at, written, inserted, removed}
use Rattle.liveroom.proofs.Changing.{inserted-stored, written-stored, removed-stored}
use Rattle.liveroom.proofs.Placing.{at_small, put_at, present_at, without_at, put_new, absent_at, without_none}
use Rattle.liveroom.proofs.Reading.{length-shown, shown_all}
use Rattle.liveroom.proofs.Sound.{Proper, Mapped, Live, live_mapped, mapped_table}
use Rattle.liveroom.proofs.Storing.{room-stored}
use Rattle.live.specs.Tables.{room_rules}
use Rattle.live.specs.Inner.{PutsKept, TakesKept}
use Rattle.live.proofs.Present.{nodes_old, nodes-hop, own-words}

module _ (room : List ℕ) (words : Words room) (l : Live room) where
  n : ℕ
  n = count_in room

  pub map_of : Mapped (shown room)
  map_of = live_mapped room words l

  pub table_of : Table 32 (shown room)
  table_of = mapped_table map_of

  pub table_from : Table 32 (shown_from room 0 (count_in room))
  unfolding shown
  table_from = table_of

  pub in_range : InRange room (count_in room)
  unfolding shown
  in_range i lt =
      let p = shown_all room 0 (count_in room) map_of.each i (omega arith) (omega arith) in
      (p.valid.short, p.hop_kept)

  -- ---- The replies of a put.

  abbrev room_reply : Route → Reply Bool
  room_reply r = judge (room_rules (fit room) (put r (shown room))) true

  reply_done : (r : Route) → length (put r (shown room)) ≤ 1024 → nodes 32 (put r (shown room)) ≤ fit room → gives true ≡ room_reply r
  unfolding judge
  reply_done r few fits = rw (le-leb _ _ few, le-leb _ _ fits)

  reply_17 : (r : Route) → 1024 < length (put r (shown room)) → refuses 17 0 ≡ room_reply r
  unfolding judge
  reply_17 r many = rw (lt-leb _ _ many)

  reply_10 : (r : Route) → length (put r (shown room)) ≤ 1024 → fit room < nodes 32 (put r (shown room)) → refuses 10 0 ≡ room_reply r
  unfolding judge
  reply_10 r few over = rw (le-leb _ _ few, lt-leb _ _ over)

  done : (r : Route) (after : List ℕ) → gives true ≡ room_reply r → after ≡ stored (put r (shown room)) room → PutsKept room r (Ok tt) after
  done r after e q = record { reply = e; left = q }

  refused : (r : Route) (c : Cause) → refuses (number_of c) 0 ≡ room_reply r → PutsKept room r (Err (record { cause = c; index = 0 })) room
  refused r c e = record { reply = e; left = refl }

  -- ---- At the place of the prefix.

  module _ (a k at : ℕ) (p : Placed room (count_in room) a k at) where
    -- It is present.
    module _ (e : is_at room (count_in room) at a k ≡ true) where
      there : present (shown room) a k ≡ true
      unfolding shown
      there = present_at room (count_in room) a k at 0 p table_from.order e

      pub small : at < count_in room
      small = at_small room (count_in room) a k at 0 p table_from.order e

      pub put_done_old : (h : ℕ) → Proper (route a k h) → PutsKept room (route a k h) (Ok tt) (written room at (route a k h))
      unfolding shown
      put_done_old h v =
          let r : Route = route a k h in
          done r (written room at r)
          (reply_done r (omega (arith, l.few, length-shown room, length_old table_of.order r there)) (omega (arith, l.fits, nodes_old table_of r v.valid there)))
          (written-stored room (count_in room) at l.marked r small refl l.holds
          ∙ ap (λ (t : List Route). stored t room) (sym (put_at room (count_in room) a k at h p table_from.order e)))

      pub take_done : TakesKept room a k true (removed room (count_in room) at)
      unfolding shown
      take_done =
          record {
            reply = sym there;
            left =
                removed-stored room (count_in room) at l.marked small l.holds
                ∙ ap (λ (t : List Route). stored t room) (sym (without_at room (count_in room) a k at 0 p table_from.order e));
          }

    -- It is absent.
    module _ (e : is_at room (count_in room) at a k ≡ false) where
      missing : present (shown room) a k ≡ false
      unfolding shown
      missing = absent_at room (count_in room) a k at 0 p table_from.order e

      pub take_absent : TakesKept room a k false room
      unfolding shown
      take_absent =
          record {
            reply = sym missing;
            left =
                room-stored room l.marked l.holds
                ∙ ap (λ (t : List Route). stored t room) (sym (without_none room (count_in room) a k at 0 p table_from.order e));
          }

      module _ (h : ℕ) (v : Proper (route a k h)) where
        plain : Valid 32 (route a k 0)
        plain = record { short = v.valid.short; clean = v.valid.clean; small = v.valid.small }

        one_more : length (put (route a k h) (shown room)) ≡ suc (count_in room)
        one_more = length_new table_of.order (route a k h) missing ∙ ap suc (length-shown room)

        is_with : (i : ℕ) → put (route a k i) (shown room) ≡ with_at room (count_in room) at (route a k i)
        unfolding shown
        is_with i = put_new room (count_in room) a k at i p table_from.order e

        pub with_table : Table 32 (with_at room (count_in room) at (bare a k))
        with_table = rw (is_with 0) at (table_step (putting (route a k 0)) plain table_of)

        pub put_17 : count_in room ≡ 1024 → PutsKept room (route a k h) (Err (record { cause = MapFull; index = 0 })) room
        put_17 full = refused (route a k h) MapFull (reply_17 (route a k h) (omega (arith, one_more)))

        module _ (few : count_in room ≡ 1024 → ⊥) (m : ℕ) (em : m ≡ nodes 32 (with_at room (count_in room) at (bare a k))) where
          counted : m ≡ nodes 32 (put (route a k h) (shown room))
          counted = em ∙ ap (nodes 32) (sym (is_with 0)) ∙ nodes-hop table_of a k 0 h plain v.valid

          room-left : length (put (route a k h) (shown room)) ≤ 1024
          room-left = let q = few in omega (arith, one_more, l.few)

          pub put_10 : fit room < m → PutsKept room (route a k h) (Err (record { cause = WorkRoom; index = 0 })) room
          put_10 over = refused (route a k h) WorkRoom (reply_10 (route a k h) room-left (omega (arith, counted)))

          module _ (le : m ≤ fit room) where
            pub more_holds : Holds room (count_in room + 1)
            more_holds = omega (arith, one_more, counted, own-words (table_step (putting (route a k h)) v.valid table_of))

            pub put_done_new : PutsKept room (route a k h) (Ok tt) (inserted room (count_in room) at (route a k h))
            put_done_new =
                done (route a k h) (inserted room (count_in room) at (route a k h))
                (reply_done (route a k h) room-left (omega (arith, counted)))
                (inserted-stored room (count_in room) at l.marked (route a k h) p.low more_holds ∙ ap (λ (t : List Route). stored t room) (sym (is_with h)))
