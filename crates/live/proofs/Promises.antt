-- The request's sentences, for any room of words and any answer of which a call's statement holds: which rooms are refused, what an answered call leaves, when a
-- put is refused for room, and what a take of an absent prefix does. Assumes nothing.
use Prim.Native.Nat.{ℕ, ◌-◌, ◌%◌, ◌^◌, ◌≤◌, ◌<◌}
use mathlib.Core.Path.{◌≡◌, refl, sym, ap, subst, ◌∙◌}
use mathlib.Core.Bool.{Bool, true, false, cond, not, ◌||◌, true≢false}
use mathlib.Core.List.{List, [], ◌∷◌}
use mathlib.Core.Logic.{◌↔◌}
use native.Mathlib.Omega.{arith}
use lib.Dec.{leb}
use lib.ListN.{length}
use borrow.Author.Tests.{le-leb, lt-leb, leb-true, leb-false, eq-eqb}
use Rattle.theory.specs.Routes.{Route, none, via, lookup, Table}
use Rattle.words.specs.Prefix.{host_clear}
use Rattle.words.proofs.PrefixLaws.{start_small}
use Rattle.refusals.specs.Rules.{Rule, rule, Reply, gives, refuses, judge}
use Rattle.std.specs.Prelude.{Option, Result, Ok}
use Rattle.refusals.specs.declared.Refusal.{Refusal}
use Rattle.refusals.proofs.Judged.{kept_next, broken-here}
use Rattle.records.specs.Sized.{route}
use Rattle.records.specs.declared.Form.{Form}
use Rattle.nodecount.specs.Nodes.{nodes}
use Rattle.lookup.specs.Calls.{lookup_says}
use Rattle.lookup.specs.declared.answers.Match.{Match as Found}
use Rattle.steps.specs.Steps.{same, entry, present, taking as takingStep}
use Rattle.steps.proofs.Entries.{entry-put, entry_step}
use Rattle.steps.proofs.Tables.{length_old}
use Rattle.liveroom.specs.Rooms.{shown, stored, fit, live, Words}
use Rattle.liveroom.proofs.Sound.{live_is, is_live, sound_proper}
use Rattle.live.specs.Tables.{masked, putting, taking, room_rules, table_put, table_take}
use Rattle.live.specs.Calls.{Done, done_says, Taken, kept_says, left_by, Makes, Puts, Takes, look_reply}
use Rattle.live.specs.Sequences.{kept_by}
use Rattle.live.specs.Conditions.{HoldsMap, Holding}
use Rattle.live.proofs.Calls.{done_same, is_dead, take_absent}
use Rattle.live.proofs.Demands.{gives_not, put-said, put_good, take-said, take_good, make_good}
use Rattle.live.proofs.Maps.{Good, live_holds, holds_live, holds_shown}
use Rattle.live.proofs.Present.{without_absent, nodes_old, nodes_less}
use Rattle.live.proofs.Replies.{masked-sound}

-- ---- A room that holds no live map is refused with 18, whatever else is asked.
module _ (room : List ℕ) (words : Words room) (other : Holding room → ⊥) where
  pub put_18 : {after : List ℕ} {form : Form} {a l h : ℕ} {k : Done} → Puts room form a l h k after → done_says k ≡ refuses 18 0
  put_18 ok = ok.reply ∙ broken-here true 18 0 _ (is_dead room words other)

  pub take_18 : {after : List ℕ} {form : Form} {a l : ℕ} {k : Taken} → Takes room form a l k after → kept_says k ≡ refuses 18 0
  take_18 {a = a} {l = l} ok = ok.reply ∙ broken-here (present (shown room) (masked a l) l) 18 0 _ (is_dead room words other)

  pub look_18 : (x : ℕ) (k : Result (Option Found) Refusal) → lookup_says k ≡ look_reply room x → lookup_says k ≡ refuses 18 0
  look_18 x k ok = ok ∙ broken-here (lookup 32 (shown room) x) 18 0 [] (is_dead room words other)

-- ---- What an answered call leaves.

-- A good room holds the map of its routes.
good_holds : {most : ℕ} {t : List Route} {room : List ℕ} → Good most t room → HoldsMap room t
good_holds {t = t} {room = room} g = subst (HoldsMap room) g.shows (live_holds room g.words (is_live room g.alive))

-- An empty map that is made is the map of no routes.
pub make_leaves : {room after : List ℕ} → Words room → Makes room (Ok tt) after → HoldsMap after []
make_leaves w ok = good_holds (make_good w ok)

-- An answer that gives a value is given in a room that holds a live map.
was_live : {A : Type 0} (a : A) (b : Bool) (rs : List Rule) {c : A} → judge (rule 18 0 b ∷ rs) a ≡ gives c → b ≡ true
unfolding judge
was_live a true rs e = refl
was_live a false rs e = gives_not e

module _ {room after : List ℕ} {form : Form} {a l h : ℕ} {k : Done} (words : Words room) (small : a < 2 ^ 32) (ok : Puts room form a l h k after)
    (done : k ≡ Ok tt) where
  pub put_was_live : HoldsMap room (shown room)
  put_was_live = live_holds room words (was_live true (live room) _ (sym ok.reply ∙ ap done_says done))

  good : Good (fit room) (shown room) room
  good =
      let e = holds_live (put_was_live) in
      record { words = words; alive = live_is room e; shows = refl; size = refl }

  -- A put leaves the map of the routes that were shown with its route put,
  pub put_leaves : HoldsMap after (putting (shown room) a l h)
  put_leaves =
      let e : table_put (fit room) (shown room) form a l h ≡ gives true =
      sym (put-said (fit room) (shown room) room good form a l h small k after ok) ∙ ap done_says done in
      subst (HoldsMap after) (ap (λ (x : Reply Bool). kept_by x (putting (shown room) a l h) (shown room)) e)
      (good_holds (put_good (fit room) (shown room) room good form a l h small k after ok))

  -- so the prefix has the new hop, and each other has what it had.
  pub put_entries : (b m : ℕ) → entry (shown after) b m ≡ cond (same (masked a l) l b m) (via h) (entry (shown room) b m)
  put_entries b m = ap (λ (t : List Route). entry t b m) (holds_shown put_leaves) ∙ entry-put (route (masked a l) l h) (shown room) b m

-- A take may answer that the prefix was absent, too.
module _ {room after : List ℕ} {form : Form} {a l : ℕ} {k : Taken} (words : Words room) (ok : Takes room form a l k after) {c : Bool}
    (given : kept_says k ≡ gives c) where
  pub take_was_live : HoldsMap room (shown room)
  take_was_live = live_holds room words (was_live (present (shown room) (masked a l) l) (live room) _ (sym ok.reply ∙ given))

  good_take : Good (fit room) (shown room) room
  good_take =
      let e = holds_live take_was_live in
      record { words = words; alive = live_is room e; shows = refl; size = refl }

  -- It leaves the map of the routes without the prefix,
  pub take_leaves : HoldsMap after (taking (shown room) a l)
  take_leaves =
      let e : table_take (shown room) form a l ≡ gives c =
      sym (take-said (fit room) (shown room) room good_take form a l k after ok) ∙ given in
      subst (HoldsMap after) (ap (λ (x : Reply Bool). kept_by x (taking (shown room) a l) (shown room)) e)
      (good_holds (take_good (fit room) (shown room) room good_take form a l k after ok))

  -- so the prefix has no hop, and each other has what it had.
  pub take_entries : (b m : ℕ) → entry (shown after) b m ≡ cond (same (masked a l) l b m) none (entry (shown room) b m)
  take_entries b m = ap (λ (t : List Route). entry t b m) (holds_shown take_leaves) ∙ entry_step (takingStep (masked a l) l) (shown room) b m

  -- There are no more nodes than before: what the taken prefix alone had is given up.
  pub take-nodes : nodes 32 (shown after) ≤ nodes 32 (shown room)
  take-nodes = rw (holds_shown take_leaves) (nodes_less take_was_live.lawful.table (masked a l) l)

-- ---- Taking an absent prefix changes nothing.
pub absent_left : {room after : List ℕ} {form : Form} {a l : ℕ} {k : Taken} → Words room → Takes room form a l k after → k ≡ Ok false → after ≡ room
absent_left {room} {after} {form} {a} {l} {k} words ok e =
    let f = (take_absent room words form a l k after ok).0 e in
    let h = take_was_live words ok (ap kept_says e) in
    ok.left
    ∙ ap (λ (x : Reply Bool). left_by x (taking (shown room) a l) room) (sym ok.reply ∙ ap kept_says e)
    ∙ ap (λ (t : List Route). stored t room) (without_absent (masked a l) l (shown room) f.1)
    ∙ sym h.is

-- ---- A put of a prefix and a hop in range into a live map: it is refused for room exactly when there would be too many records, or else too many nodes.

number : {m n i j : ℕ} → ◌≡◌ {A = Reply Bool} (refuses m i) (refuses n j) → m ≡ n
number e = cc

cases : (k : Done) (p q : Bool) → done_says k ≡ judge (rule 17 0 p ∷ rule 10 0 q ∷ []) true
    → (done_says k ≡ refuses 17 0 ↔ p ≡ false) × (done_says k ≡ refuses 10 0 ↔ ((p ≡ true) × (q ≡ false))) × (k ≡ Ok tt ↔ ((p ≡ true) × (q ≡ true)))
unfolding judge
cases k false q e = (
  (λ s. refl, λ s. e),
  (λ s. (let z : ◌≡◌ {A = ℕ} 17 10 = number (sym e ∙ s) in absurd (omega arith)), λ s. absurd (true≢false (sym s.0))),
  (λ s. gives_not (sym e ∙ ap done_says s), λ s. absurd (true≢false (sym s.0))),
)
cases k true false e = (
  (λ s. (let z : ◌≡◌ {A = ℕ} 10 17 = number (sym e ∙ s) in absurd (omega arith)), λ s. absurd (true≢false s)),
  (λ s. (refl, refl), λ s. e),
  (λ s. gives_not (sym e ∙ ap done_says s), λ s. absurd (true≢false (sym s.1))),
)
cases k true true e = (
  (λ s. gives_not (sym s ∙ e), λ s. absurd (true≢false s)),
  (λ s. gives_not (sym s ∙ e), λ s. absurd (true≢false s.1)),
  (λ s. (refl, refl), λ s. done_same k (Ok tt) e),
)

module _ {room after : List ℕ} {form : Form} {a l h : ℕ} {k : Done} (ok : Puts room form a l h k after) (alive : Holding room) (short : l ≤ 32)
    (clean : form.strict ≡ true → a % 2 ^ (32 - l) ≡ 0) (hop : h ≤ 63) where
  abbrev t : List Route
  t = putting (shown room) a l h

  kept_6 : (not form.strict || host_clear 32 a l) ≡ true
  kept_6 = go form.strict refl
    where
      go : (b : Bool) → form.strict ≡ b → (not b || host_clear 32 a l) ≡ true
      go true e = eq-eqb (a % 2 ^ (32 - l)) 0 (clean e)
      go false e = refl

  outcome : (done_says k ≡ refuses 17 0 ↔ leb (length t) 1024 ≡ false)
      × (done_says k ≡ refuses 10 0 ↔ ((leb (length t) 1024 ≡ true) × (leb (nodes 32 t) (fit room) ≡ false)))
      × (k ≡ Ok tt ↔ ((leb (length t) 1024 ≡ true) × (leb (nodes 32 t) (fit room) ≡ true)))
  outcome =
      cases k (leb (length t) 1024) (leb (nodes 32 t) (fit room))
      (ok.reply
      ∙ kept_next true 18 0 _ (holds_live alive.1)
      ∙ kept_next true 5 0 _ (le-leb l 32 short)
      ∙ kept_next true 6 0 _ kept_6
      ∙ kept_next true 7 0 (room_rules (fit room) t) (le-leb h 63 hop))

  pub put_17_exactly : done_says k ≡ refuses 17 0 ↔ 1024 < length t
  put_17_exactly = (λ e. leb-false (length t) 1024 (outcome.0.0 e), λ lt. outcome.0.1 (lt-leb (length t) 1024 lt))

  pub put_10_exactly : done_says k ≡ refuses 10 0 ↔ ((length t ≤ 1024) × (fit room < nodes 32 t))
  put_10_exactly = (
    λ e. let f = outcome.1.0 e in (leb-true (length t) 1024 f.0, leb-false (nodes 32 t) (fit room) f.1),
    λ f. outcome.1.1 (le-leb (length t) 1024 f.0, lt-leb (nodes 32 t) (fit room) f.1),
  )

  pub put_done_exactly : k ≡ Ok tt ↔ ((length t ≤ 1024) × (nodes 32 t ≤ fit room))
  put_done_exactly = (
    λ e. let f = outcome.2.0 e in (leb-true (length t) 1024 f.0, leb-true (nodes 32 t) (fit room) f.1),
    λ f. outcome.2.1 (le-leb (length t) 1024 f.0, le-leb (nodes 32 t) (fit room) f.1),
  )

  -- A present prefix is never refused for room: it gets the new hop.
  pub put_old : a < 2 ^ 32 → present (shown room) (masked a l) l ≡ true → k ≡ Ok tt
  put_old small there =
      let held = alive.1.lawful in
      let shows : shown room ≡ alive.0 = holds_shown alive.1 in
      let table : Table 32 (shown room) = subst (Table 32) (sym shows) held.table in
      let r : Route = route (masked a l) l h in
      let v = sound_proper r (start_small 32 (32 - l) a small) (masked-sound a l h short hop) in
      let few : length (shown room) ≤ 1024 = rw shows held.few in
      let fits : nodes 32 (shown room) ≤ fit room = rw shows alive.1.fits in
      put_done_exactly.1 (omega (arith, length_old table.order r there), omega (arith, nodes_old table r v.valid there))
