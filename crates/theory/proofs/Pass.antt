-- One pass over a table in order counts the addresses that it holds: no prefix straddles the end of one before it, so a prefix that starts before the
-- end of the last one counted lies in it.
use Prim.Native.Nat.{ℕ, ◌+◌, ◌-◌, ◌^◌, ◌≤◌, ◌<◌}
use mathlib.Core.Path.{◌≡◌, refl, sym, ap, ◌∙◌}
use mathlib.Core.Bool.{Bool, true, false, cond, ◌||◌, ◌&&◌, and-true, and-false, true≢false}
use mathlib.Core.List.{List, [], ◌∷◌}
use mathlib.Core.Logic.{◌⊎◌, inl, inr}
use native.Mathlib.Decide.{dec_le, dec_lt}
use native.Mathlib.Omega.{arith}
use lib.Dec.{leb, ltb}
use borrow.Author.Tests.{le-leb, lt-leb, lt-ltb, le-ltb}
use Rattle.theory.specs.Routes.{Route, matches, held, Valid, All, nil, cons, Before, Ascending, empty, first, Table, Member}
use Rattle.theory.specs.Results.{In}
use Rattle.theory.specs.Reach.{how_many, reach}
use Rattle.theory.proofs.Blocks.{aligned_down, aligned_next, next-block}
use Rattle.theory.proofs.HowMany.{many-agree, many-apart, many_none, many_matched}
use Rattle.theory.proofs.Lists.{all_member, member_all}
use Rattle.theory.proofs.LongestMatch.{lookup-member}
use Rattle.theory.proofs.Routed.{matches_in, held-lookup}

module _ (w : ℕ) where
  -- The first address past the prefix of a route.
  abbrev pub end_of : Route → ℕ
  end_of r = r.addr + 2 ^ (w - r.len)

  -- What a pass counts of the routes, where `end` is the first address past what it has counted: the prefixes that start at or past it.
  unfoldable pub count_from : ℕ → List Route → ℕ
  count_from end [] = 0
  count_from end (r ∷ t) = cond (ltb r.addr end) (count_from end t) (2 ^ (w - r.len) + count_from (end_of r) t)

  -- At the last route.
  pub count_none : (end : ℕ) → count_from end [] ≡ 0
  unfolding count_from
  count_none end = refl

  -- A route that starts before the end.
  pub count-inside : (end : ℕ) (r : Route) (t : List Route) → r.addr < end → count_from end (r ∷ t) ≡ count_from end t
  unfolding count_from
  count-inside end r t lt = rw (lt-ltb r.addr end lt)

  -- A route that starts at or past it.
  pub count_past : (end : ℕ) (r : Route) (t : List Route) → end ≤ r.addr → count_from end (r ∷ t) ≡ 2 ^ (w - r.len) + count_from (end_of r) t
  unfolding count_from
  count_past end r t le = rw (le-ltb r.addr end le)

  -- ---- No prefix straddles the end of one before it.

  -- The route lies on one side of the address.
  abbrev Clear : ℕ → Route → Type 0
  Clear end r = (end ≤ r.addr) ⊎ (end_of r ≤ end)

  clear : (r s : Route) → Valid w r → Valid w s → Before r s → Clear (end_of r) s
  clear r s v u b = go b (dec_lt s.addr (end_of r)) (dec_le (w - s.len) (w - r.len))
    where
      -- A prefix that is no wider and starts inside ends inside.
      inner : w - s.len ≤ w - r.len → s.addr < end_of r → end_of s ≤ end_of r
      inner le lt =
          next-block (w - s.len) s.addr (end_of r) u.clean
          (aligned_down (w - s.len) (w - r.len) (end_of r) le (aligned_next (w - r.len) r.addr v.clean)) lt

      go : Before r s → Dec (s.addr < end_of r) → Dec (w - s.len ≤ w - r.len) → Clear (end_of r) s
      go b (no ge) d = inl (omega arith)
      go b (yes lt) (yes le) = inr (inner le lt)
      go (inl less) (yes lt) (no wider) =
          inl (next-block (w - r.len) r.addr s.addr v.clean (aligned_down (w - r.len) (w - s.len) s.addr (omega arith) u.clean) less)
      go (inr longer) (yes lt) (no wider) = absurd (omega arith)

  -- ---- The count is that of the addresses held from the end on.

  abbrev held_from : ℕ → List Route → ℕ → Bool
  held_from end t x = held w t x && leb end x

  -- A table that holds an address has a route that matches it.
  held_by : (t : List Route) (x : ℕ) → held w t x ≡ true → (r : Route) × (Member r t × (matches w r x ≡ true))
  held_by t x e =
      let h = (held-lookup w x t).0 e in
      let m = lookup-member w t x h.1.1 in
      (m.0, (m.1, m.2))

  -- A route that ends there or before adds none.
  held-inside : (end : ℕ) (r : Route) (t : List Route) → Valid w r → end_of r ≤ end → (x : ℕ) → held_from end (r ∷ t) x ≡ held_from end t x
  held-inside end r t v le x = go (matches w r x) refl
    where
      go : (m : Bool) → matches w r x ≡ m → ((m || held w t x) && leb end x) ≡ (held w t x && leb end x)
      go true e = rw (lt-leb end x (omega (arith, (matches_in w v x).0 e))) (sym (and-false (held w t x)))
      go false e = refl

  -- A route that starts there or later adds its own; the later ones, those from its own end on.
  module _ (end : ℕ) (r : Route) (t : List Route) (v : Valid w r) (vs : All (Valid w) t) (bs : All (Before r) t) (le : end ≤ r.addr) where
    -- An address that is held by a later route, and not by r, is past r.
    held-past : (x : ℕ) → held w t x ≡ true → matches w r x ≡ false → end_of r ≤ x
    held-past x h e =
        let m = held_by t x h in
        let b : Before r m.0 = all_member bs m.1.0 in
        let u : Valid w m.0 = all_member vs m.1.0 in
        let i : In (w - m.0.len) m.0.addr x = (matches_in w u x).0 m.1.1 in
        go m.0 b i (clear r m.0 v u b)
      where
        go : (s : Route) → Before r s → In (w - s.len) s.addr x → Clear (end_of r) s → end_of r ≤ x
        go s b i (inl past) = omega arith
        go s (inl less) i (inr inner) = absurd (true≢false (sym ((matches_in w v x).1 (omega arith)) ∙ e))
        go s (inr longer) i (inr inner) = absurd (true≢false (sym ((matches_in w v x).1 (omega arith)) ∙ e))

    held_more : (x : ℕ) → held_from end (r ∷ t) x ≡ (matches w r x || held_from (end_of r) t x)
    held_more x = go (matches w r x) refl (held w t x) refl
      where
        go : (m : Bool) → matches w r x ≡ m → (h : Bool) → held w t x ≡ h → ((m || h) && leb end x) ≡ (m || (h && leb (end_of r) x))
        go true e h f = le-leb end x (omega (arith, (matches_in w v x).0 e))
        go false e true f = let past = held-past x f e in le-leb end x (omega arith) ∙ sym (le-leb (end_of r) x past)
        go false e false f = refl

    -- No address is both.
    held-once : (x : ℕ) → (matches w r x && held_from (end_of r) t x) ≡ false
    held-once x = go (matches w r x) refl
      where
        go : (m : Bool) → matches w r x ≡ m → (m && held_from (end_of r) t x) ≡ false
        go true e = rw (lt-leb (end_of r) x ((matches_in w v x).0 e).1) (and-false (held w t x))
        go false e = refl

    many_more : how_many (held_from end (r ∷ t)) w 0 ≡ 2 ^ (w - r.len) + how_many (held_from (end_of r) t) w 0
    many_more =
        many-agree (held_from end (r ∷ t)) (λ x. matches w r x || held_from (end_of r) t x) w 0 (λ x i. held_more x)
        ∙ many-apart (matches w r) (held_from (end_of r) t) w 0 (λ x i. held-once x)
        ∙ ap (λ (n : ℕ). n + how_many (held_from (end_of r) t) w 0) (many_matched w v)

  count_held : (end : ℕ) {t : List Route} → All (Valid w) t → Ascending t → All (Clear end) t → count_from end t ≡ how_many (held_from end t) w 0
  count_held end nil empty nil = count_none end ∙ sym (many_none (held_from end []) w 0 (λ x i. refl))
  count_held end (cons {r = r} {t = t} v vs) (first bs os) (cons c cs) =
      go (dec_lt r.addr end) c (count_held end vs os cs)
      (count_held (end_of r) vs os (member_all t (λ s m. clear r s v (all_member vs m) (all_member bs m))))
    where
      go : Dec (r.addr < end) → Clear end r → count_from end t ≡ how_many (held_from end t) w 0
          → count_from (end_of r) t ≡ how_many (held_from (end_of r) t) w 0 → count_from end (r ∷ t) ≡ how_many (held_from end (r ∷ t)) w 0
      go (yes lt) (inl past) inside later = absurd (omega arith)
      go (yes lt) (inr before) inside later =
          count-inside end r t lt
          ∙ inside
          ∙ sym (many-agree (held_from end (r ∷ t)) (held_from end t) w 0 (λ x i. held-inside end r t v before x))
      go (no ge) c inside later =
          count_past end r t (omega arith)
          ∙ ap (λ (n : ℕ). 2 ^ (w - r.len) + n) later
          ∙ sym (many_more end r t v vs bs (omega arith))

  -- So a pass from the first address on counts the addresses held.
  pub count-reach : {t : List Route} → Table w t → count_from 0 t ≡ reach w t
  count-reach {t} ok =
      count_held 0 ok.valid ok.order (member_all t (λ r m. inl (omega arith)))
      ∙ many-agree (held_from 0 t) (held w t) w 0 (λ x i. rw (le-leb 0 x (omega arith)) (and-true (held w t x)))
