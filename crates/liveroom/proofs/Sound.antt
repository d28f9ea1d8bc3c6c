-- Sound routes in order are a table, and a table's routes are sound and in order.
use Prim.Native.Nat.{ℕ, ◌+◌, ◌-◌, ◌*◌, ◌/◌, ◌%◌, ◌^◌, ◌≤◌, ◌<◌}
use mathlib.Core.Path.{◌≡◌, refl, ap, ◌∙◌}
use mathlib.Core.Bool.{Bool, true, false, ◌&&◌, and-eq-true_iff}
use mathlib.Core.List.{List, ◌∷◌}
use native.Mathlib.Nat.{mul-mod_left}
use native.Mathlib.Omega.{arith}
use lib.ListN.{length, get_or}
use lib.Pow.{split}
use borrow.Author.Tests.{leb-true, le-leb, eqb-true, eq-eqb}
use Rattle.theory.specs.Routes.{Route, Valid, All, nil, cons, Before, Ascending, empty, first, Table}
use Rattle.theory.proofs.Lists.{all_map}
use Rattle.theory.proofs.Order.{before_trans}
use Rattle.refusals.proofs.Shown.{passes, proved}
use Rattle.table.specs.SizedRules.{before}
use Rattle.table.specs.Conditions.{Lawful}
use Rattle.table.proofs.SizedTested.{before-shown}
use Rattle.nodecount.specs.Nodes.{nodes}
use Rattle.liveroom.specs.Rooms.{mark, route_in, shown_from, shown, count_in, sound, after, lawful, fit, live}
use Rattle.liveroom.specs.Rooms.{Words}
use Rattle.liveroom.specs.Inner.{Holds}
use Rattle.liveroom.proofs.Reading.{all_shown}

pub and-true : {b c : Bool} → (b && c) ≡ true → (b ≡ true) × (c ≡ true)
and-true {b} {c} e = (and-eq-true_iff b c).0 e

pub true_and : {b c : Bool} → b ≡ true → c ≡ true → (b && c) ≡ true
true_and {b} {c} p q = (and-eq-true_iff b c).1 (p, q)

pub before_true : (r s : Route) → before r s ≡ true → Before r s
before_true r s e = proved (before-shown r s) e

pub true_before : (r s : Route) → Before r s → before r s ≡ true
true_before r s b = passes (before-shown r s) b

-- ---- One route.

-- A route of a map: valid, with a hop in range.
pub record Proper (r : Route) : Type 0 where
  pub valid : Valid 32 r
  pub hop_kept : r.hop ≤ 63

-- Routes that a map may hold.
pub record Mapped (t : List Route) : Type 0 where
  pub each : All Proper t
  pub order : Ascending t

abbrev pub Small : Route → Type 0
Small r = r.addr < 2 ^ 32

pub sound_proper : (r : Route) → Small r → sound r ≡ true → Proper r
sound_proper r s e =
    let a = and-true e in
    let b = and-true a.1 in
    let short : r.len ≤ 32 = leb-true r.len 32 a.0 in
    let z : r.addr % 2 ^ (32 - r.len) ≡ 0 = eqb-true _ 0 b.0 in
    let q = split r.addr (32 - r.len) in
    record {
      valid = record { short = short; clean = (r.addr / 2 ^ (32 - r.len), omega arith); small = s };
      hop_kept = leb-true r.hop 63 b.1;
    }

pub proper_sound : (r : Route) → Proper r → sound r ≡ true
proper_sound r p =
    let v = p.valid in
    let z : r.addr % 2 ^ (32 - r.len) ≡ 0 = ap (λ (a : ℕ). a % 2 ^ (32 - r.len)) v.clean.1 ∙ mul-mod_left v.clean.0 (2 ^ (32 - r.len)) in
    true_and (le-leb r.len 32 v.short) (true_and (eq-eqb _ 0 z) (le-leb r.hop 63 p.hop_kept))

-- ---- Routes in order.

after_table : (p : Route) {t : List Route} → All Small t → after p t ≡ true → All Proper t × Ascending (p ∷ t)
after_table p nil e = (nil, first nil empty)
after_table p (cons {r = r} {t = t} s ss) e =
    let a = and-true e in
    let b = and-true a.0 in
    let ih = after_table r ss a.1 in
    (cons (sound_proper r s b.1) ih.0, front (before_true p r b.0) ih.1)
  where
    front : Before p r → Ascending (r ∷ t) → Ascending (p ∷ r ∷ t)
    front lt (first bs o) = first (cons lt (all_map (λ u q. before_trans p r u lt q) bs)) (first bs o)

pub lawful_mapped : {t : List Route} → All Small t → lawful t ≡ true → Mapped t
lawful_mapped nil e = record { each = nil; order = empty }
lawful_mapped (cons {r = r} s ss) e =
    let a = and-true e in
    let z = after_table r ss a.1 in
    record { each = cons (sound_proper r s a.0) z.0; order = z.1 }

pub mapped_table : {t : List Route} → Mapped t → Table 32 t
mapped_table m = record { valid = all_map (λ r p. p.valid) m.each; order = m.order }

-- Mapped routes, if they are not too many, are such as an accepted map's table has.
pub mapped_is : {t : List Route} → Mapped t → length t ≤ 1024 → Lawful false t
mapped_is m few = record { table = mapped_table m; hops = all_map (λ r p. p.hop_kept) m.each; few = few }

pub is_mapped : {t : List Route} → Lawful false t → Mapped t
is_mapped k = record { each = both k.table.valid k.hops; order = k.table.order }
  where
    both : {t : List Route} → All (Valid 32) t → All (λ r. r.hop ≤ 63) t → All Proper t
    both nil nil = nil
    both (cons v vs) (cons h hs) = cons (record { valid = v; hop_kept = h }) (both vs hs)

mapped_after : (p : Route) {t : List Route} → All Proper t → All (Before p) t → Ascending t → after p t ≡ true
mapped_after p nil nil empty = refl
mapped_after p (cons {r = r} q qs) (cons b bs) (first c o) =
    true_and (true_and (true_before p r b) (proper_sound r q)) (mapped_after r qs c o)

pub mapped_lawful : {t : List Route} → Mapped t → lawful t ≡ true
mapped_lawful m = go m.each m.order
  where
    go : {t : List Route} → All Proper t → Ascending t → lawful t ≡ true
    go nil empty = refl
    go (cons {r = r} p ps) (first b o) = true_and (proper_sound r p) (mapped_after r ps b o)

-- ---- A room that holds a live map.

pub record Live (room : List ℕ) : Type 0 where
  pub marked : get_or room 0 0 ≡ mark
  pub few : count_in room ≤ 1024
  pub holds : Holds room (count_in room)
  pub kept : lawful (shown room) ≡ true
  pub fits : nodes 32 (shown room) ≤ fit room

pub live_is : (room : List ℕ) → live room ≡ true → Live room
unfolding live
live_is room e =
    let a = and-true e in
    let b = and-true a.1 in
    let c = and-true b.1 in
    let d = and-true c.1 in
    record {
      marked = eqb-true _ _ a.0;
      few = leb-true _ _ b.0;
      holds = leb-true _ _ c.0;
      kept = d.0;
      fits = leb-true _ _ d.1;
    }

pub is_live : (room : List ℕ) → Live room → live room ≡ true
unfolding live
is_live room l =
    true_and (eq-eqb _ _ l.marked)
    (true_and (le-leb _ _ l.few) (true_and (le-leb _ _ l.holds) (true_and l.kept (le-leb _ _ l.fits))))

-- The addresses that a room shows are words.
pub small-shown : (room : List ℕ) (i k : ℕ) → Words room → All Small (shown_from room i k)
unfolding route_in
small-shown room i k w = all_shown room i k (λ j l h. w (2 + 2 * j))

pub live_mapped : (room : List ℕ) → Words room → Live room → Mapped (shown room)
unfolding shown
live_mapped room w l = lawful_mapped (small-shown room 0 (count_in room) w) l.kept
