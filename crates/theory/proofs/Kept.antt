-- Mode 3 keeps or leaves out each entry by the nearest one above it. Which entries it lists; that they answer as the table does; that a second
-- time changes nothing.
use Prim.Native.Nat.{ℕ, zero, suc, ◌<◌}
use mathlib.Core.Path.{◌≡◌, refl, sym, ap, ◌∙◌}
use mathlib.Core.Bool.{Bool, true, false, not, true≢false}
use mathlib.Core.List.{List}
use mathlib.Core.Logic.{◌↔◌}
use native.Mathlib.Nat.{le_refl}
use native.Mathlib.Omega.{arith}
use lib.Dec.{eqb, ltb}
use borrow.Author.Tests.{lt-ltb, ltb-true, ltb-false, eqb-true, eqb-false, ne_eqb, not-true, not-false}
use Rattle.theory.specs.Longest.{IsLongest, IsAbove, IsNearest}
use Rattle.theory.specs.Results.{part, nearest, is_other, aggregate_consistent_map, result}
use Rattle.theory.specs.Routes.{Route, matches, Match, miss, hit, lookup, none, via, under, answer, Table, Member}
use Rattle.theory.proofs.Lists.{member_all}
use Rattle.theory.proofs.LongestMatch.{lookup-found, lookup_none, lookup-bits, one_prefix, lookup_is}
use Rattle.theory.proofs.Parts.{rest, lookup-part, member-part, member_rest, table-part, part-agree, part-whole, part_swap, part_twice}

-- Is the route shorter than k?
abbrev pub is_shorter : ℕ → Route → Bool
is_shorter k s = ltb s.len k

-- Is a route kept: has the nearest entry above it, if there is one, another hop?
abbrev pub is_kept : ℕ → List Route → Route → Bool
is_kept w t r = is_other r.hop (nearest w t r)

-- The routes that are.
abbrev pub kept : ℕ → List Route → List Route
kept w t = part (is_kept w t) t

module _ (w : ℕ) where
  module _ (t : List Route) where
    -- The nearest entry above r is the longest match of any address that r matches, among the shorter routes.
    pub nearest_alike : (r : Route) (x : ℕ) → matches w r x ≡ true → lookup w (part (is_shorter r.len) t) x ≡ nearest w t r
    nearest_alike r x q =
        lookup-bits w r.len x r.addr (member_all (part (is_shorter r.len) t) (λ s m.
        omega (arith, ltb-true s.len r.len ((member-part (is_shorter r.len) t).0 m).1))) (eqb-true _ _ q)

    -- The entries above r are the shorter routes that match its address, and the nearest the longest of them.
    above : (r s : Route) → (Member s (part (is_shorter r.len) t) × (matches w s r.addr ≡ true)) ↔ IsAbove w t r s
    above r s = (
      λ z. let m = (member-part (is_shorter r.len) t).0 z.0 in
          record { member = m.0; shorter = ltb-true s.len r.len m.1; matching = z.1 },
      λ a. ((member-part (is_shorter r.len) t).1 (a.member, lt-ltb s.len r.len a.shorter), a.matching),
    )

    longest-nearest : (r s : Route) → IsLongest w (part (is_shorter r.len) t) r.addr s ↔ IsNearest w t r s
    longest-nearest r s = (
      λ i. record { above = (above r s).0 (i.member, i.matching); closest = λ u a. let z = (above r u).1 a in i.longest u z.0 z.1 },
      λ i. let z = (above r s).1 i.above in
          record { member = z.0; matching = z.1; longest = λ u m q. i.closest u ((above r u).0 (m, q)) },
    )

    -- The nearest entry is one, by its length and hop; in a table there is no second.
    pub nearest-found : (r : Route) {k h : ℕ} → nearest w t r ≡ hit k h → (s : Route) × IsNearest w t r s × (s.len ≡ k) × (s.hop ≡ h)
    nearest-found r e =
        let z = lookup-found w (part (is_shorter r.len) t) r.addr e in
        (z.0, (longest-nearest r z.0).0 z.1, z.2, z.3)

    pub nearest_is : Table w t → (r s : Route) → IsNearest w t r s → nearest w t r ≡ hit s.len s.hop
    nearest_is table r s i = lookup_is w (table-part w (is_shorter r.len) table) r.addr ((longest-nearest r s).1 i)

  -- What is kept of the shorter routes is what is shorter of the kept ones.
  kept-shorter : (k : ℕ) (t : List Route) → part (is_shorter k) (kept w t) ≡ kept w (part (is_shorter k) t)
  kept-shorter k t =
      part_swap (is_shorter k) (is_kept w t) t
      ∙ part-agree (is_kept w t) (is_kept w (part (is_shorter k) t)) (part (is_shorter k) t) (λ r m.
      ap (λ (u : List Route). is_other r.hop (lookup w u r.addr)) (sym (part_twice (is_shorter r.len) (is_shorter k) t (λ s e.
      lt-ltb s.len k (omega (arith, ltb-true s.len r.len e, ltb-true r.len k ((member-part (is_shorter k) t).0 m).1))))))

  -- Where no route of a table matches, none of a part does.
  pub part-miss : (p : Route → Bool) (t : List Route) (x : ℕ) → lookup w t x ≡ miss → lookup w (part p t) x ≡ miss
  part-miss p t x e = (lookup_none w (part p t) x).1 (λ r m q. (lookup_none w t x).0 e r ((member-part p t).0 m).0 q)

  -- A route left out by its hop has the nearest entry's.
  other_hit : (h : ℕ) (m : Match) → is_other h m ≡ false → (k : ℕ) × (m ≡ hit k h)
  other_hit h miss e = absurd (true≢false e)
  other_hit h (hit k i) e = (k, ap (hit k) (eqb-true i h (not-false (eqb i h) e)))

  -- By the length of the match: a route left out has the hop of the nearest entry, which is shorter.
  kept-finds : (n : ℕ) {t : List Route} → Table w t → (x : ℕ) {k h : ℕ} → k < n → lookup w t x ≡ hit k h → answer w (kept w t) x ≡ via h
  kept-finds zero table x lt e = absurd (omega arith)
  kept-finds (suc n) {t} table x {k} {h} lt e =
      go (is_kept w t r) refl (λ j. kept-finds n (table-part w (is_shorter r.len) table) x)
    where
      z : (r : Route) × IsLongest w t x r × (r.len ≡ k) × (r.hop ≡ h)
      z = lookup-found w t x e

      r : Route
      r = z.0

      i : IsLongest w t x r
      i = z.1

      up : List Route
      up = part (is_shorter r.len) t

      go : (b : Bool) → is_kept w t r ≡ b
          → ((j : ℕ) → j < n → lookup w up x ≡ hit j r.hop → answer w (kept w up) x ≡ via r.hop)
          → answer w (kept w t) x ≡ via h
      go true q ih =
          ap (under none) (lookup_is w (table-part w (is_kept w t) table) x (record {
            member = (member-part (is_kept w t) t).1 (i.member, q);
            matching = i.matching;
            longest = λ s m p. i.longest s ((member-part (is_kept w t) t).0 m).0 p;
          }))
          ∙ ap via z.3
      go false q ih =
          let o = other_hit r.hop (nearest w t r) q in
          let a = nearest-found t r o.1 in
          ap (under none) (lookup-part w x (is_shorter r.len) (kept w t) none_longer
          ∙ ap (λ (u : List Route). lookup w u x) (kept-shorter r.len t))
          ∙ ih o.0 (omega (arith, a.1.above.shorter, a.2, z.2)) (nearest_alike t r x i.matching ∙ o.1)
          ∙ ap via z.3
        where
          none_longer : lookup w (rest (is_shorter r.len) (kept w t)) x ≡ miss
          none_longer =
              (lookup_none w (rest (is_shorter r.len) (kept w t)) x).1 (λ s m p.
              let u = member_rest (is_shorter r.len) (kept w t) m in
              let v = (member-part (is_kept w t) t).0 u.0 in
              let e : s.len ≡ r.len = omega (arith, ltb-false s.len r.len u.1, i.longest s v.0 p) in
              let same : s ≡ r = one_prefix w table x v.0 i.member e p i.matching in
              true≢false (sym v.1 ∙ ap (is_kept w t) same ∙ q))

  -- On a table, leaving out the routes that repeat the nearest entry's hop changes no answer.
  pub kept-answers : {t : List Route} → Table w t → (x : ℕ) → answer w (kept w t) x ≡ answer w t x
  kept-answers {t} table x = go (lookup w t x) refl
    where
      go : (m : Match) → lookup w t x ≡ m → answer w (kept w t) x ≡ under none m
      go miss e = ap (under none) (part-miss (is_kept w t) t x e)
      go (hit k h) e = kept-finds (suc k) table x (le_refl _) e

none_via : {h : ℕ} → none ≡ via h → ⊥
none_via e = let z : ◌≡◌ {A = ℕ} 0 1 = cc in absurd (omega arith)

-- The test of mode 3 reads a match's hop alone.
other_alike : (h : ℕ) (m l : Match) → under none m ≡ under none l → is_other h m ≡ is_other h l
other_alike h miss miss e = refl
other_alike h miss (hit k i) e = absurd (none_via e)
other_alike h (hit k i) miss e = absurd (none_via (sym e))
other_alike h (hit k i) (hit j g) e = let same : i ≡ g = cc in rw same

module _ (choose : List ℕ → ℕ) (w : ℕ) where
  -- Mode 3 answers as its table does.
  pub consistent_map_answers : {t : List Route} → Table w t → (x : ℕ) → answer w (result choose w aggregate_consistent_map t) x ≡ answer w t x
  unfolding result
  consistent_map_answers table x = kept-answers w table x

  -- A second time changes nothing: each kept route passes again, since what is kept of the shorter routes answers as all of them.
  pub consistent_map_again : {t : List Route} → Table w t
      → result choose w aggregate_consistent_map (result choose w aggregate_consistent_map t) ≡ result choose w aggregate_consistent_map t
  unfolding result
  consistent_map_again {t} table =
      part-whole (is_kept w (kept w t)) (kept w t) (λ r m.
      ap (λ (u : List Route). is_other r.hop (lookup w u r.addr)) (kept-shorter w r.len t)
      ∙ other_alike r.hop (lookup w (kept w (part (is_shorter r.len) t)) r.addr) (nearest w t r)
      (kept-answers w (table-part w (is_shorter r.len) table) r.addr)
      ∙ ((member-part (is_kept w t) t).0 m).1)

  -- The result is a table, of routes of the table that came.
  pub consistent_map_table : {t : List Route} → Table w t → Table w (result choose w aggregate_consistent_map t)
  unfolding result
  consistent_map_table {t} table = table-part w (is_kept w t) table

  pub consistent_map_members : (t : List Route) (r : Route) → Member r (result choose w aggregate_consistent_map t) → Member r t
  unfolding result
  consistent_map_members t r m = ((member-part (is_kept w t) t).0 m).0

  -- Mode 3 lists the routes whose hop is not that of the nearest one above them.
  pub consistent_map_listed : {t : List Route} → Table w t → (r : Route)
      → Member r (result choose w aggregate_consistent_map t) ↔ (Member r t × ((s : Route) → IsNearest w t r s → s.hop ≡ r.hop → ⊥))
  unfolding result
  consistent_map_listed {t} table r = (
    λ m. let z = (member-part (is_kept w t) t).0 m in
        (z.0, λ s i. eqb-false s.hop r.hop (not-true _ (sym (ap (is_other r.hop) (nearest_is w t table r s i)) ∙ z.1))),
    λ z. (member-part (is_kept w t) t).1 (z.0, go (nearest w t r) refl z.1),
  )
    where
      go : (m : Match) → nearest w t r ≡ m → ((s : Route) → IsNearest w t r s → s.hop ≡ r.hop → ⊥) → is_other r.hop m ≡ true
      go miss e k = refl
      go (hit j h) e k =
          let z = nearest-found w t r e in
          ap not (ne_eqb h r.hop (λ q. k z.0 z.1 (z.3 ∙ q)))
