-- What a room holds is what is stored in it, and what is stored is shown.
use Prim.Native.Nat.{ℕ, suc, ◌+◌, ◌*◌, ◌/◌, ◌%◌, ◌<◌}
use mathlib.Core.Path.{◌≡◌, refl, sym, ap, ap₂, ◌∙◌}
use mathlib.Core.List.{List, [], ◌∷◌, ◌++◌, append_assoc}
use native.Mathlib.Omega.{arith}
use lib.ListN.{length, get_or, drop, length-append, length-drop}
use lib.Seq.{drop-cons, get_or_at, get_or-append-add}
use Rattle.theory.specs.Routes.{Route, All, nil, cons}
use Rattle.liveroom.specs.Rooms.{mark, route_in, shown_from, shown, count_in, pairs, words_of, stored}
use Rattle.liveroom.specs.Inner.{Holds}
use Rattle.liveroom.proofs.Reading.{length_pairs, pairs_from, length-shown}

pub length-words : (t : List Route) → length (words_of t) ≡ 2 + 2 * length t
unfolding words_of
length-words t = omega (arith, length_pairs t)

-- The words of a stored map, one after another.
pub stored_is : (t : List Route) (room : List ℕ) → stored t room ≡ mark ∷ length t ∷ pairs t ++ drop (2 + 2 * length t) room
unfolding stored words_of
stored_is t room = ap (λ (n : ℕ). mark ∷ length t ∷ pairs t ++ drop n room) (length-words t)

-- A room with the mark whose records stand in it is the room with them stored.
pub room-stored : (room : List ℕ) → get_or room 0 0 ≡ mark → Holds room (count_in room) → room ≡ stored (shown room) room
unfolding shown
room-stored room m h =
    let e : drop 0 room ≡ get_or room 0 0 ∷ drop 1 room = drop-cons room 0 0 (omega arith) in
    let f : drop 1 room ≡ get_or room 1 0 ∷ drop 2 room = drop-cons room 1 0 (omega arith) in
    let g : drop 2 room ≡ pairs (shown_from room 0 (count_in room)) ++ drop (2 + 2 * (0 + count_in room)) room = pairs_from room 0 (count_in room) (omega arith) in
    let n : 2 + 2 * (0 + count_in room) ≡ 2 + 2 * length (shown room) = omega (arith, length-shown room) in
    let back : drop 2 room ≡ pairs (shown room) ++ drop (2 + 2 * length (shown room)) room =
    g ∙ ap (λ (k : ℕ). pairs (shown_from room 0 (count_in room)) ++ drop k room) n in
    e
    ∙ ap₂ (λ (a : ℕ) (u : List ℕ). a ∷ u) m (f ∙ ap₂ (λ (a : ℕ) (u : List ℕ). a ∷ u) (sym (length-shown room)) back)
    ∙ sym (stored_is (shown room) room)

-- A hop that has its half of a word.
abbrev pub Narrow : Route → Type 0
Narrow r = r.hop < 65536

-- The record behind the words before, where two words stand for r.
route_at : (before : List ℕ) (r : Route) (behind : List ℕ) (i : ℕ) → length before ≡ 2 + 2 * i → Narrow r
    → route_in (before ++ (r.addr ∷ (r.len * 65536 + r.hop) ∷ behind)) i ≡ r
unfolding route_in
route_at before r behind i e h =
    let room : List ℕ = before ++ (r.addr ∷ (r.len * 65536 + r.hop) ∷ behind) in
    let a : get_or room (2 + 2 * i) 0 ≡ r.addr = get_or_at before r.addr _ 0 (2 + 2 * i) e in
    let k : length before + 1 ≡ 3 + 2 * i = omega arith in
    let w : get_or room (3 + 2 * i) 0 ≡ r.len * 65536 + r.hop = rw k at (get_or-append-add before (r.addr ∷ (r.len * 65536 + r.hop) ∷ behind) 1 0) in
    let l : get_or room (3 + 2 * i) 0 / 65536 ≡ r.len = rw w (omega arith) in
    let p : get_or room (3 + 2 * i) 0 % 65536 ≡ r.hop = rw w (omega arith) in
    λ j. record { addr = a j; len = l j; hop = p j }

shown-pairs : (before : List ℕ) {t : List Route} (behind : List ℕ) (i : ℕ) → length before ≡ 2 + 2 * i → All Narrow t
    → shown_from (before ++ (pairs t ++ behind)) i (length t) ≡ t
unfolding shown_from pairs
shown-pairs before behind i e nil = refl
shown-pairs before behind i e (cons {r = r} {t = t} h hs) =
    let more : List ℕ = before ++ (r.addr ∷ (r.len * 65536 + r.hop) ∷ []) in
    let l : length more ≡ 2 + 2 * suc i = omega (arith, length-append before (r.addr ∷ (r.len * 65536 + r.hop) ∷ [])) in
    let same : before ++ (r.addr ∷ (r.len * 65536 + r.hop) ∷ (pairs t ++ behind)) ≡ more ++ (pairs t ++ behind) =
    sym (append_assoc before (r.addr ∷ (r.len * 65536 + r.hop) ∷ []) (pairs t ++ behind)) in
    ap₂ (λ (s : Route) (u : List Route). s ∷ u) (route_at before r (pairs t ++ behind) i e h)
    (ap (λ (room : List ℕ). shown_from room (suc i) (length t)) same ∙ shown-pairs more behind (suc i) l hs)

-- What is stored is shown.
pub shown-stored : (t : List Route) (room : List ℕ) → All Narrow t → shown (stored t room) ≡ t
unfolding shown
shown-stored t room h =
    ap (λ (u : List ℕ). shown_from u 0 (count_in u)) (stored_is t room)
    ∙ shown-pairs (mark ∷ length t ∷ []) (drop (2 + 2 * length t) room) 0 refl h

pub stored-mark : (t : List Route) (room : List ℕ) → get_or (stored t room) 0 0 ≡ mark
stored-mark t room = ap (λ (u : List ℕ). get_or u 0 0) (stored_is t room)

pub stored-count : (t : List Route) (room : List ℕ) → count_in (stored t room) ≡ length t
stored-count t room = ap count_in (stored_is t room)

-- It is as long as the room.
pub length-stored : (t : List Route) (room : List ℕ) → Holds room (length t) → length (stored t room) ≡ length room
unfolding stored
length-stored t room h =
    omega (arith, length-words t, length-append (words_of t) (drop (length (words_of t)) room), length-drop (length (words_of t)) room)
