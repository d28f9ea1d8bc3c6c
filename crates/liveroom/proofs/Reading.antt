-- The records of a room, one after another.
use Prim.Native.Nat.{ℕ, zero, suc, ◌+◌, ◌-◌, ◌*◌, ◌/◌, ◌%◌, ◌≤◌, ◌<◌}
use mathlib.Core.Path.{◌≡◌, refl, sym, ap, ap₂, subst, ◌∙◌}
use mathlib.Core.List.{List, [], ◌∷◌, ◌++◌}
use native.Mathlib.Nat.{div-add-mod'}
use native.Mathlib.Decide.{dec_lt}
use native.Mathlib.Numerals.{add-one}
use native.Mathlib.Omega.{arith}
use lib.ListN.{length, get_or, drop}
use lib.Seq.{drop-cons}
use Rattle.theory.specs.Routes.{Route, All, cons, Before, Ascending, Member}
use Rattle.theory.proofs.Numbered.{counted, numbered, member_numbered, all_numbered, before_numbered, none_numbered, first_numbered, split_numbered}
use Rattle.liveroom.specs.Rooms.{route_in, shown_from, shown, count_in, pairs}
use Rattle.liveroom.specs.Inner.{Holds}

-- Of n records, those from record i on.
abbrev pub rest_in : List ℕ → ℕ → ℕ → List Route
rest_in room n i = shown_from room i (n - i)

pub length_from : (room : List ℕ) (i k : ℕ) → length (shown_from room i k) ≡ k
unfolding shown_from
length_from room i zero = refl
length_from room i (suc k) = ap suc (length_from room (suc i) k)

pub length-shown : (room : List ℕ) → length (shown room) ≡ count_in room
unfolding shown
length-shown room = length_from room 0 (count_in room)

-- They are a list by number, and have the laws of such lists.
from_counted : (room : List ℕ) (i k : ℕ) → shown_from room i k ≡ counted (route_in room) i k
unfolding shown_from
from_counted room i zero = refl
from_counted room i (suc k) = ap (λ (t : List Route). route_in room i ∷ t) (from_counted room (suc i) k)

rest_numbered : (room : List ℕ) (n i : ℕ) → rest_in room n i ≡ numbered (route_in room) i n
rest_numbered room n i = from_counted room i (n - i)

pub rest_end : (room : List ℕ) (n i : ℕ) → n ≤ i → rest_in room n i ≡ []
rest_end room n i le = rest_numbered room n i ∙ none_numbered (route_in room) i n le

pub rest_next : (room : List ℕ) (n i : ℕ) → i < n → rest_in room n i ≡ route_in room i ∷ rest_in room n (i + 1)
rest_next room n i lt =
    rw add-one (rest_numbered room n i ∙ first_numbered (route_in room) i n lt ∙ ap (λ (t : List Route). route_in room i ∷ t) (sym (rest_numbered room n (suc i))))

pub rest_all : (room : List ℕ) (n i : ℕ) → i ≡ 0 → rest_in room n i ≡ shown_from room 0 n
rest_all room n i e = ap₂ (shown_from room) e (omega arith)

-- The first n records in two parts.
pub rest_split : (room : List ℕ) (n at : ℕ) → at ≤ n → shown_from room 0 n ≡ shown_from room 0 at ++ rest_in room n at
rest_split room n at le =
    sym (rest_all room n 0 refl)
    ∙ rest_numbered room n 0
    ∙ split_numbered (route_in room) 0 at n (omega arith) le
    ∙ ap₂ (λ (s t : List Route). s ++ t) (sym (rest_numbered room at 0) ∙ rest_all room at 0 refl) (sym (rest_numbered room n at))

-- Of records in order, the one of lower number stands before the other.
pub shown-before : (room : List ℕ) (n i j : ℕ) → Ascending (shown_from room 0 n) → i < j → j < n → Before (route_in room i) (route_in room j)
shown-before room n i j o lt le =
    before_numbered (route_in room) 0 n i j (subst Ascending (sym (rest_all room n 0 refl) ∙ rest_numbered room n 0) o) (omega arith) lt le

pub shown-member : (room : List ℕ) (n i : ℕ) → i < n → Member (route_in room i) (shown_from room 0 n)
shown-member room n i lt =
    subst (Member (route_in room i)) (sym (rest_numbered room n 0) ∙ rest_all room n 0 refl) (member_numbered (route_in room) 0 n i (omega arith) lt)

-- What holds of each record holds of all.
pub all_shown : {P : Route → Type 0} (room : List ℕ) (i k : ℕ) → ((j : ℕ) → i ≤ j → j < i + k → P (route_in room j)) → All P (shown_from room i k)
all_shown {P} room i k p =
    let e : i + k - i ≡ k = omega arith in
    subst (All P) (sym (from_counted room i k)) (rw e at (all_numbered (route_in room) {P = P} i (i + k) p))

-- And the other way.
pub shown_all : {P : Route → Type 0} (room : List ℕ) (i k : ℕ) → All P (shown_from room i k) → (j : ℕ) → i ≤ j → j < i + k → P (route_in room j)
unfolding shown_from
shown_all room i zero p j l h = absurd (omega arith)
shown_all {P} room i (suc k) (cons p ps) j l h = go (dec_lt i j) (λ q. shown_all room (suc i) k ps j q (omega arith))
  where
    go : Dec (i < j) → (suc i ≤ j → P (route_in room j)) → P (route_in room j)
    go (yes q) ih = ih (omega arith)
    go (no q) ih = let e : i ≡ j = omega arith in rw e at p

-- ---- Records as words.

pub length_pairs : (t : List Route) → length (pairs t) ≡ 2 * length t
unfolding pairs
length_pairs [] = refl
length_pairs (r ∷ t) = omega (arith, length_pairs t)

pub pairs-append : (s t : List Route) → pairs (s ++ t) ≡ pairs s ++ pairs t
unfolding pairs
pairs-append [] t = refl
pairs-append (r ∷ s) t = ap (λ (u : List ℕ). r.addr ∷ (r.len * 65536 + r.hop) ∷ u) (pairs-append s t)

-- A record's two words.
two-words : (room : List ℕ) (i : ℕ) → Holds room (i + 1)
    → drop (2 + 2 * i) room ≡ (route_in room i).addr ∷ ((route_in room i).len * 65536 + (route_in room i).hop) ∷ drop (4 + 2 * i) room
unfolding route_in
two-words room i h =
    let k : suc (2 + 2 * i) ≡ 3 + 2 * i = omega arith in
    let m : suc (3 + 2 * i) ≡ 4 + 2 * i = omega arith in
    let e : drop (2 + 2 * i) room ≡ get_or room (2 + 2 * i) 0 ∷ drop (3 + 2 * i) room = rw k at (drop-cons room (2 + 2 * i) 0 (omega arith)) in
    let f : drop (3 + 2 * i) room ≡ get_or room (3 + 2 * i) 0 ∷ drop (4 + 2 * i) room = rw m at (drop-cons room (3 + 2 * i) 0 (omega arith)) in
    let w : ℕ = get_or room (3 + 2 * i) 0 in
    let g : w / 65536 * 65536 + w % 65536 ≡ w = div-add-mod' w 65536 in
    rw g (e ∙ ap (λ (u : List ℕ). get_or room (2 + 2 * i) 0 ∷ u) f)

-- The words of k records from record i on.
pub pairs_from : (room : List ℕ) (i k : ℕ) → Holds room (i + k) → drop (2 + 2 * i) room ≡ pairs (shown_from room i k) ++ drop (2 + 2 * (i + k)) room
unfolding shown_from pairs
pairs_from room i zero h = let e : i + 0 ≡ i = omega arith in rw e
pairs_from room i (suc k) h =
    let e : 4 + 2 * i ≡ 2 + 2 * suc i = omega arith in
    let f : i + suc k ≡ suc i + k = omega arith in
    two-words room i (omega arith)
    ∙ ap (λ (u : List ℕ). (route_in room i).addr ∷ ((route_in room i).len * 65536 + (route_in room i).hop) ∷ u)
    (ap (λ (m : ℕ). drop m room) e ∙ pairs_from room (suc i) k (omega arith) ∙ ap (λ (m : ℕ). pairs (shown_from room (suc i) k) ++ drop (2 + 2 * m) room) (sym f))
