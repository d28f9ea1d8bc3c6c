-- A prefix at its place among a room's records: what a put and a take make of them.
use Prim.Native.Nat.{ℕ, ◌+◌, ◌≤◌, ◌<◌}
use mathlib.Core.Path.{◌≡◌, refl, sym, ap, ap₂, ◌∙◌}
use mathlib.Core.Bool.{Bool, true, false, cond, not, true≢false}
use mathlib.Core.List.{List, [], ◌∷◌, ◌++◌}
use mathlib.Core.Logic.{◌⊎◌, inl, inr}
use native.Mathlib.Nat.{eq-or-lt_of_le}
use native.Mathlib.Decide.{dec_lt}
use native.Mathlib.Omega.{arith}
use lib.Dec.{ltb}
use borrow.Author.Tests.{lt-ltb, ltb-true}
use Rattle.theory.specs.Routes.{Route, Answer, none, via, All, nil, cons, Before, Ascending, first}
use Rattle.theory.specs.Shapes.{routed}
use Rattle.theory.proofs.Lists.{all_append, all_map, all_member}
use Rattle.theory.proofs.Parts.{part-append, part-whole}
use Rattle.theory.proofs.Order.{before_trans}
use Rattle.records.specs.Sized.{route}
use Rattle.table.specs.SizedRules.{before}
use Rattle.nodecount.specs.Nodes.{bare}
use Rattle.steps.specs.Steps.{same, entry, present, precedes, put, without}
use Rattle.positions.specs.Runs.{or_else}
use Rattle.steps.proofs.Entries.{same_true, true_same, same_false, same_sym, entry-append, order}
use Rattle.liveroom.specs.Rooms.{route_in, shown_from}
use Rattle.liveroom.specs.Inner.{Placed, is_at, with_at}
use Rattle.liveroom.proofs.Reading.{rest_in, rest_next, rest_end, rest_split, shown-before, all_shown}
use Rattle.liveroom.proofs.Sound.{and-true, before_true, true_before}

clash : {b : Bool} → b ≡ true → b ≡ false → ⊥
clash p q = true≢false (sym p ∙ q)

-- ---- Records in order, before a prefix and not before it.

module _ (room : List ℕ) (n k a l : ℕ) (o : Ascending (shown_from room 0 n)) where
  -- Where record k stands before the prefix, so does every record up to it.
  pub before-below : k < n → before (route_in room k) (bare a l) ≡ true → (i : ℕ) → i ≤ k → before (route_in room i) (bare a l) ≡ true
  before-below lt e i le = go (eq-or-lt_of_le le)
    where
      go : (i ≡ k) ⊎ (i < k) → before (route_in room i) (bare a l) ≡ true
      go (inl q) = rw q e
      go (inr h) =
          true_before (route_in room i) (bare a l)
          (before_trans (route_in room i) (route_in room k) (bare a l) (shown-before room n i k o h lt) (before_true (route_in room k) (bare a l) e))

  -- Where it does not, no record from it on does.
  pub before_above : before (route_in room k) (bare a l) ≡ false → (i : ℕ) → k ≤ i → i < n → before (route_in room i) (bare a l) ≡ false
  before_above e i le lt = go (eq-or-lt_of_le le) (before (route_in room i) (bare a l)) refl
    where
      go : (k ≡ i) ⊎ (k < i) → (b : Bool) → before (route_in room i) (bare a l) ≡ b → b ≡ false
      go (inl q) b f = sym f ∙ ap (λ (j : ℕ). before (route_in room j) (bare a l)) (sym q) ∙ e
      go (inr h) true f =
          absurd (clash (true_before (route_in room k) (bare a l)
          (before_trans (route_in room k) (route_in room i) (bare a l) (shown-before room n k i o h lt) (before_true (route_in room i) (bare a l) f))) e)
      go (inr h) false f = refl

-- ---- Routes that stand before r.

behind_not : (r s : Route) → Before s r → precedes r s ≡ false
behind_not r s lt = go (precedes r s) refl
  where
    twice : Before s r → Before r s → ⊥
    twice (inl p) (inl q) = omega arith
    twice (inl p) (inr q) = omega arith
    twice (inr p) (inl q) = omega arith
    twice (inr p) (inr q) = omega arith

    go : (b : Bool) → precedes r s ≡ b → b ≡ false
    go true e = absurd (twice lt (before_true r s e))
    go false e = refl

before_other : (r s : Route) → Before s r → same r.addr r.len s.addr s.len ≡ false
before_other r s (inl p) = same_false r.addr r.len s.addr s.len (λ e q. omega arith)
before_other r s (inr p) = same_false r.addr r.len s.addr s.len (λ e q. omega arith)

pub put_front : (r : Route) {s : List Route} (t : List Route) → All (λ u. Before u r) s → put r (s ++ t) ≡ s ++ put r t
put_front r t nil = refl
put_front r t (cons {r = u} {t = s} b bs) = rw (behind_not r u b, before_other r u b) (ap (λ (v : List Route). u ∷ v) (put_front r t bs))

-- ---- The parts of a list in order.

pub ascending_back : (s : List Route) {t : List Route} → Ascending (s ++ t) → Ascending t
ascending_back [] o = o
ascending_back (r ∷ s) (first b o) = ascending_back s o

-- The routes that are not the prefix stay.
stay : (a l : ℕ) (t : List Route) → All (λ u. same u.addr u.len a l ≡ false) t → without a l t ≡ t
stay a l t h = part-whole (λ u. not (same u.addr u.len a l)) t (λ u m. ap not (all_member h m))

-- ---- At a place.

module _ (room : List ℕ) (n a l at h : ℕ) (p : Placed room n a l at) (o : Ascending (shown_from room 0 n)) where
  r : Route
  r = route a l h

  xs : List Route
  xs = shown_from room 0 at

  whole : shown_from room 0 n ≡ xs ++ rest_in room n at
  unfolding xs
  whole = rest_split room n at p.low

  fronts : All (λ u. Before u r) xs
  unfolding xs r
  fronts = all_shown room 0 at (λ j z lt. before_true (route_in room j) (bare a l) (p.over j (omega arith)))

  others : {t : List Route} → All (λ u. Before u r) t → All (λ u. same u.addr u.len a l ≡ false) t
  unfolding r
  others bs = all_map (λ u b. same_sym u.addr u.len a l ∙ before_other (route a l h) u b) bs

  backs : {t : List Route} → All (Before r) t → All (λ u. same u.addr u.len a l ≡ false) t
  unfolding r
  backs bs = all_map (λ u b. before_other u (route a l h) b) bs

  -- The prefix is there.
  module _ (e : is_at room n at a l ≡ true) where
    pub at_small : at < n
    at_small = ltb-true at n (and-true {b = ltb at n} e).0

    is : ((route_in room at).addr ≡ a) × ((route_in room at).len ≡ l)
    is = same_true _ _ _ _ (and-true {b = ltb at n} {c = same (route_in room at).addr (route_in room at).len a l} e).1

    here : same (route_in room at).addr (route_in room at).len a l ≡ true
    here = (and-true {b = ltb at n} {c = same (route_in room at).addr (route_in room at).len a l} e).1

    next : rest_in room n at ≡ route_in room at ∷ rest_in room n (at + 1)
    next = rest_next room n at at_small

    later_ones : All (Before r) (rest_in room n (at + 1))
    unfolding r xs
    later_ones = go (rw next at (ascending_back (shown_from room 0 at) (rw whole at o)))
      where
        go : Ascending (route_in room at ∷ rest_in room n (at + 1)) → All (Before (route a l h)) (rest_in room n (at + 1))
        go (first b _) = all_map (λ u q. rw (sym is.0, sym is.1) q) b

    pub put_at : put (route a l h) (shown_from room 0 n) ≡ shown_from room 0 at ++ (route a l h ∷ rest_in room n (at + 1))
    unfolding r xs
    put_at =
        ap (put (route a l h)) (whole ∙ ap (λ (t : List Route). shown_from room 0 at ++ t) next)
        ∙ put_front (route a l h) (route_in room at ∷ rest_in room n (at + 1)) fronts
        ∙ ap (λ (t : List Route). shown_from room 0 at ++ t) replaced
      where
        replaced : put (route a l h) (route_in room at ∷ rest_in room n (at + 1)) ≡ route a l h ∷ rest_in room n (at + 1)
        replaced = go (precedes (route a l h) (route_in room at)) refl
          where
            go : (b : Bool) → precedes (route a l h) (route_in room at) ≡ b
                → cond b (route a l h ∷ route_in room at ∷ rest_in room n (at + 1))
                (cond (same a l (route_in room at).addr (route_in room at).len) (route a l h ∷ rest_in room n (at + 1))
                (route_in room at ∷ put (route a l h) (rest_in room n (at + 1)))) ≡ route a l h ∷ rest_in room n (at + 1)
            go true q = absurd (never (before_true (route a l h) (route_in room at) q))
              where
                never : Before (route a l h) (route_in room at) → ⊥
                never (inl z) = omega (arith, is.0)
                never (inr z) = omega (arith, is.1)
            go false q = rw (same_sym a l (route_in room at).addr (route_in room at).len, here)

    pub present_at : present (shown_from room 0 n) a l ≡ true
    unfolding r xs
    present_at =
        ap (λ (t : List Route). present t a l) (whole ∙ ap (λ (t : List Route). shown_from room 0 at ++ t) next)
        ∙ ap routed (entry-append (shown_from room 0 at) (route_in room at ∷ rest_in room n (at + 1)) a l)
        ∙ any (entry (shown_from room 0 at) a l)
      where
        any : (v : Answer)
            → routed (or_else v (cond (same (route_in room at).addr (route_in room at).len a l) (via (route_in room at).hop) (entry (rest_in room n (at + 1)) a l))) ≡ true
        any none = rw here
        any (via i) = refl

    pub without_at : without a l (shown_from room 0 n) ≡ shown_from room 0 at ++ rest_in room n (at + 1)
    unfolding r xs
    without_at =
        ap (without a l) (whole ∙ ap (λ (t : List Route). shown_from room 0 at ++ t) next)
        ∙ part-append _ (shown_from room 0 at) (route_in room at ∷ rest_in room n (at + 1))
        ∙ ap₂ (λ (s t : List Route). s ++ t) (stay a l _ (others fronts)) (rw here (stay a l _ (backs later_ones)))

  -- The prefix is not there.
  module _ (e : is_at room n at a l ≡ false) where
    rests : All (Before r) (rest_in room n at)
    unfolding r xs
    rests = go (dec_lt at n)
      where
        ahead : at < n → Before (route a l h) (route_in room at)
        ahead lt = pick (order (route a l h) (route_in room at))
          where
            q : same (route_in room at).addr (route_in room at).len a l ≡ false
            q = rw (lt-ltb at n lt) at e

            pick : Before (route a l h) (route_in room at) ⊎ (Before (route_in room at) (route a l h) ⊎ ((a ≡ (route_in room at).addr) × (l ≡ (route_in room at).len)))
                → Before (route a l h) (route_in room at)
            pick (inl b) = b
            pick (inr (inl b)) = absurd (clash (true_before (route_in room at) (bare a l) b) (p.stops lt))
            pick (inr (inr z)) = absurd (clash (true_same _ _ _ _ (sym z.0) (sym z.1)) q)

        go : Dec (at < n) → All (Before (route a l h)) (rest_in room n at)
        go (yes lt) = put_in (rw (rest_next room n at lt) at (ascending_back (shown_from room 0 at) (rw whole at o)))
          where
            put_in : Ascending (route_in room at ∷ rest_in room n (at + 1)) → All (Before (route a l h)) (rest_in room n at)
            put_in (first b _) = rw (rest_next room n at lt) (cons (ahead lt) (all_map (λ u q. before_trans (route a l h) (route_in room at) u (ahead lt) q) b))
        go (no ge) = rw (rest_end room n at (omega arith)) nil

    pub put_new : put (route a l h) (shown_from room 0 n) ≡ with_at room n at (route a l h)
    unfolding r xs
    put_new =
        ap (put (route a l h)) whole
        ∙ put_front (route a l h) (rest_in room n at) fronts
        ∙ ap (λ (t : List Route). shown_from room 0 at ++ t) (made rests)
      where
        made : {t : List Route} → All (Before (route a l h)) t → put (route a l h) t ≡ route a l h ∷ t
        made nil = refl
        made (cons {r = s} b bs) = rw (true_before (route a l h) s b)

    all_other : All (λ u. same u.addr u.len a l ≡ false) (shown_from room 0 n)
    unfolding r xs
    all_other = rw whole (all_append (others fronts) (backs rests))

    pub absent_at : present (shown_from room 0 n) a l ≡ false
    absent_at = ap routed (go all_other)
      where
        go : {t : List Route} → All (λ u. same u.addr u.len a l ≡ false) t → entry t a l ≡ none
        go nil = refl
        go (cons k ks) = rw k (go ks)

    pub without_none : without a l (shown_from room 0 n) ≡ shown_from room 0 n
    without_none = stay a l _ all_other
