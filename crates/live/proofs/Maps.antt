-- Maps in rooms: a room holds one exactly when it passes the test, the words of a map stand in those of its nodes, and a room in which a map is stored
-- is a good room. Assumes nothing.
use Prim.{tt}
use Prim.Native.Nat.{ℕ, zero, suc, ◌+◌, ◌-◌, ◌*◌, ◌/◌, ◌^◌, ◌≤◌, ◌<◌}
use mathlib.Core.Path.{◌≡◌, sym, ap, ◌∙◌}
use mathlib.Core.Bool.{true, not}
use mathlib.Core.List.{List, ◌∷◌, ◌++◌}
use native.Mathlib.Omega.{arith}
use lib.ListN.{length, drop}
use lib.Seq.{get_or-drop, drop-append-add, drop-drop}
use Rattle.theory.specs.Routes.{Route, All, nil, cons, Table}
use Rattle.theory.proofs.Lists.{all_map}
use Rattle.theory.proofs.Parts.{all_part}
use Rattle.nodecount.specs.Nodes.{nodes}
use Rattle.steps.specs.Steps.{taking, same, put, without}
use Rattle.steps.proofs.Tables.{all_put, ascending_put, table_step}
use Rattle.liveroom.specs.Rooms.{mark, shown, pairs, words_of, stored, fit, live, Words}
use Rattle.liveroom.specs.Inner.{Holds}
use Rattle.liveroom.proofs.Reading.{length-shown, length_pairs}
use Rattle.liveroom.proofs.Sound.{Proper, Mapped, Live, live_is, is_live, live_mapped, mapped_table, mapped_is, is_mapped, mapped_lawful}
use Rattle.liveroom.proofs.Storing.{stored_is, stored-mark, stored-count, shown-stored, length-stored, room-stored, Narrow}
use Rattle.live.specs.Conditions.{HoldsMap}
use Rattle.live.proofs.Present.{own-words}

-- ---- Which rooms hold a map, said by the map.

narrow : {t : List Route} → Mapped t → All Narrow t
narrow m = all_map (λ r p. (let h : r.hop < 65536 = omega (arith, p.hop_kept) in h)) m.each

-- A room passes the test exactly when it holds the map of some routes, and those are the ones that it shows.
pub live_holds : (room : List ℕ) → Words room → live room ≡ true → HoldsMap room (shown room)
live_holds room w e =
    let l = live_is room e in
    record {
      lawful = mapped_is (live_mapped room w l) (omega (arith, l.few, length-shown room));
      fits = l.fits;
      is = room-stored room l.marked l.holds;
    }

pub holds_shown : {room : List ℕ} {t : List Route} → HoldsMap room t → shown room ≡ t
holds_shown {room} {t} h = ap shown h.is ∙ shown-stored t room (narrow (is_mapped h.lawful))

-- A map fits its room by its words where it does by its nodes.
words-fit : {t : List Route} (room : List ℕ) → Mapped t → nodes 32 t ≤ fit room → Holds room (length t)
words-fit {t} room m fits = omega (arith, own-words (mapped_table m))

stored-live : {t : List Route} (room : List ℕ) → Mapped t → length t ≤ 1024 → nodes 32 t ≤ fit room → Live (stored t room)
stored-live {t} room m few fits =
    let s = shown-stored t room (narrow m) in
    let n = stored-count t room in
    let len = length-stored t room (words-fit room m fits) in
    record {
      marked = stored-mark t room;
      few = omega arith;
      holds = omega (arith, words-fit room m fits);
      kept = rw s (mapped_lawful m);
      fits = rw (s, len) fits;
    }

pub holds_live : {room : List ℕ} {t : List Route} → HoldsMap room t → live room ≡ true
holds_live {room} {t} h = rw h.is (is_live (stored t room) (stored-live room (is_mapped h.lawful) h.lawful.few h.fits))

-- All that a map holds stands in the first 160 words for each of its nodes.
pub in_own_words : {t : List Route} → Table 32 t → length (words_of t) ≤ 160 * nodes 32 t
unfolding words_of
in_own_words {t} v = omega (arith, own-words v, length_pairs t)

-- So what is stored leaves the words behind its nodes as they were,
pub behind-nodes : {t : List Route} (room : List ℕ) → Table 32 t → drop (160 * nodes 32 t) (stored t room) ≡ drop (160 * nodes 32 t) room
unfolding stored
behind-nodes {t} room v =
    let a : ℕ = length (words_of t) in
    let n : ℕ = 160 * nodes 32 t in
    let e : n ≡ a + (n - a) = omega (arith, in_own_words v) in
    ap (λ (k : ℕ). drop k (words_of t ++ drop a room)) e
    ∙ drop-append-add (words_of t) (drop a room) (n - a)
    ∙ drop-drop (n - a) a room
    ∙ ap (λ (k : ℕ). drop k room) (sym e)

-- and the nodes of a map stand in its room.
pub nodes-fit : {room : List ℕ} {t : List Route} → HoldsMap room t → 160 * nodes 32 t ≤ length room
nodes-fit h = omega (arith, h.fits)

-- ---- What the calls leave. A room in which the words are words and a map is held.

words-cons : (x : ℕ) (u : List ℕ) → x < 2 ^ 32 → Words u → Words (x ∷ u)
words-cons x u p w zero = p
words-cons x u p w (suc k) = w k

words-drop : (n : ℕ) (u : List ℕ) → Words u → Words (drop n u)
words-drop n u w k = rw (get_or-drop n u k 0) (w (n + k))

words-pairs : {t : List Route} (u : List ℕ) → All Proper t → Words u → Words (pairs t ++ u)
unfolding pairs
words-pairs u nil w = w
words-pairs u (cons {r = r} {t = t} p ps) w =
    let h : r.len * 65536 + r.hop < 2 ^ 32 = omega (arith, p.valid.short, p.hop_kept) in
    words-cons r.addr ((r.len * 65536 + r.hop) ∷ (pairs t ++ u)) p.valid.small
    (words-cons (r.len * 65536 + r.hop) (pairs t ++ u) h (words-pairs u ps w))

words-stored : {t : List Route} (room : List ℕ) → Mapped t → length t ≤ 1024 → Words room → Words (stored t room)
words-stored {t} room m few w =
    let behind : List ℕ = drop (2 + 2 * length t) room in
    let held = words-pairs behind m.each (words-drop (2 + 2 * length t) room w) in
    rw (stored_is t room)
    (words-cons mark (length t ∷ (pairs t ++ behind)) (omega arith) (words-cons (length t) (pairs t ++ behind) (omega arith) held))

-- A good room shows the routes t, and so many nodes fit.
pub record Good (most : ℕ) (t : List Route) (room : List ℕ) : Type 0 where
  pub words : Words room
  pub alive : Live room
  pub shows : shown room ≡ t
  pub size : fit room ≡ most

pub good_stored : {most : ℕ} {t : List Route} (room : List ℕ) → Words room → fit room ≡ most → Mapped t → length t ≤ 1024
    → nodes 32 t ≤ most → Good most t (stored t room)
good_stored {most} {t} room w e m few fits =
    let f : nodes 32 t ≤ fit room = omega arith in
    record {
      words = words-stored room m few w;
      alive = stored-live room m few f;
      shows = shown-stored t room (narrow m);
      size = ap (λ (n : ℕ). n / 160) (length-stored t room (words-fit room m f)) ∙ e;
    }

-- A mapped table stays one.
pub put_mapped : {t : List Route} (r : Route) → Proper r → Mapped t → Mapped (put r t)
put_mapped r p m = record { each = all_put r p m.each; order = ascending_put r m.order }

pub take_mapped : {t : List Route} (a l : ℕ) → Mapped t → Mapped (without a l t)
take_mapped a l m =
    record {
      each = all_part (λ r. not (same r.addr r.len a l)) (λ r p q. p) m.each;
      order = (table_step (taking a l) tt (mapped_table m)).order;
    }
