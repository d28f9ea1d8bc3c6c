-- What it is to lie in a range, said of addresses; and which record of a table is the first that does. Assumes nothing.
use mathlib.Core.Path.{◌≡◌, refl, sym, ap, ◌∙◌, subst}
use mathlib.Core.Bool.{Bool, true, false, cond, ◌||◌, and-eq-true_iff, or-true, true≢false}
use mathlib.Core.List.{List, ◌∷◌}
use mathlib.Core.Logic.{◌↔◌, ⊎_elim}
use Prim.Native.Nat.{ℕ, zero, suc, ◌+◌, ◌-◌, ◌/◌, ◌^◌, ◌≤◌, ◌<◌}
use native.Mathlib.Decide.{dec_le, dec_lt}
use native.Mathlib.Nat.{eq-or-lt_of_le}
use native.Mathlib.Omega.{arith}
use lib.Dec.{leb}
use lib.Pow.{pow-lt}
use borrow.Author.Tests.{leb-true, le-leb, eqb-true, eq-eqb}
use Rattle.theory.specs.Routes.{Route, matches, Valid, All, nil, cons, head, later}
use Rattle.theory.proofs.Blocks.{pow_pos, fewer_bits}
use Rattle.theory.proofs.Routed.{matches_in}
use Rattle.records.specs.Wire.{route_at, routes_from, records, routes}
use Rattle.records.specs.Sized.{routes_from_in, routes_in}
use Rattle.special.specs.Ranges.{lies_in, is_special, Place, nowhere, at, first_from, first_special, LiesInOne, IsFirst}

-- ---- One range: s is no longer than r and matches its address exactly when it has every address of r.
module _ (w : ℕ) {s r : Route} (vs : Valid w s) (vr : Valid w r) where
  pub lies-exactly : (lies_in w s r ≡ true) ↔ ((x : ℕ) → matches w r x ≡ true → matches w s x ≡ true)
  lies-exactly = (to, from)
    where
      to : lies_in w s r ≡ true → (x : ℕ) → matches w r x ≡ true → matches w s x ≡ true
      to e x m =
          let both = (and-eq-true_iff (leb s.len r.len) (matches w s r.addr)).0 e in
          eq-eqb _ _ (fewer_bits w s.len r.len x r.addr (leb-true _ _ both.0) (eqb-true _ _ m) ∙ eqb-true _ _ both.1)

      -- A longer range ends before r does.
      no_longer : ((x : ℕ) → matches w r x ≡ true → matches w s x ≡ true) → Dec (s.len ≤ r.len) → s.len ≤ r.len
      no_longer h (yes le) = le
      no_longer h (no gt) =
          let size = pow-lt {i = w - s.len} {j = w - r.len} (omega (arith, vs.short)) in
          let last = (matches_in w vs (r.addr + 2 ^ (w - s.len))).0 (h _ ((matches_in w vr _).1 (omega arith))) in
          let first = (matches_in w vs r.addr).0 (h _ ((matches_in w vr _).1 (omega (arith, pow_pos (w - r.len))))) in
          absurd (omega arith)

      from : ((x : ℕ) → matches w r x ≡ true → matches w s x ≡ true) → lies_in w s r ≡ true
      from h =
          (and-eq-true_iff (leb s.len r.len) (matches w s r.addr)).1
          (le-leb _ _ (no_longer h (dec_le s.len r.len)), h r.addr (eq-eqb (r.addr / 2 ^ (w - r.len)) (r.addr / 2 ^ (w - r.len)) refl))

-- ---- A list of ranges.
special_one : (w : ℕ) {ranges : List Route} {r : Route} → All (Valid w) ranges → Valid w r → is_special w ranges r ≡ true → LiesInOne w ranges r
special_one w nil vr e = let z : ◌≡◌ {A = ℕ} 0 1 = cc in absurd (omega arith)
special_one w {r = r} (cons {r = s} {t = ranges} v vs) vr e = go (lies_in w s r) refl e (special_one w vs vr)
  where
    go : (b : Bool) → lies_in w s r ≡ b → (b || is_special w ranges r) ≡ true → (is_special w ranges r ≡ true → LiesInOne w ranges r)
        → LiesInOne w (s ∷ ranges) r
    go true q f more = (s, (head, (lies-exactly w v vr).0 q))
    go false q f more = let m = more f in (m.0, (later m.1.0, m.1.1))

one_special : (w : ℕ) {ranges : List Route} {r : Route} → All (Valid w) ranges → Valid w r → LiesInOne w ranges r → is_special w ranges r ≡ true
one_special w {r = r} nil vr (u, (m, k)) = elim m [ ]
one_special w (cons {r = s} {t = ranges} v vs) vr (u, (head, k)) = rw ((lies-exactly w v vr).1 k)
one_special w {r = r} (cons {r = s} {t = ranges} v vs) vr (u, (later m, k)) =
    ap (λ (b : Bool). lies_in w s r || b) (one_special w vs vr (u, (m, k))) ∙ or-true (lies_in w s r)

-- ---- The first record.
module _ (ranges : List Route) (t : List ℕ) where
  lies : ℕ → Bool
  lies j = is_special 32 ranges (route_at t j)

  -- The place is that of the first of k records from record i on that passes the test.
  abbrev FirstOf : ℕ → ℕ → Place → Type 0
  FirstOf i k nowhere = (j : ℕ) → i ≤ j → j < i + k → lies j ≡ false
  FirstOf i k (at n) = (n < i + k) × (lies n ≡ true) × ((j : ℕ) → i ≤ j → j < n → lies j ≡ false)

  first_of : (i k : ℕ) → FirstOf i k (first_from 32 ranges i (routes_from t i k))
  unfolding first_from routes_from_in lies
  first_of i zero = λ j l h. absurd (omega arith)
  first_of i (suc k) = go (lies i) refl (first_from 32 ranges (suc i) (routes_from t (suc i) k)) (first_of (suc i) k)
    where
      here : lies i ≡ false → (j : ℕ) → i ≤ j → (suc i ≤ j → lies j ≡ false) → lies j ≡ false
      here e j l more = ⊎_elim (λ q. ap lies (sym q) ∙ e) more (eq-or-lt_of_le l)

      go : (b : Bool) → lies i ≡ b → (p : Place) → FirstOf (suc i) k p → FirstOf i (suc k) (cond b (at i) p)
      go true e p f = (omega arith, e, λ j l h. absurd (omega arith))
      go false e nowhere f = λ j l h. here e j l (λ m. f j m (omega arith))
      go false e (at n) f = (omega (arith, f.0), f.1, λ j l h. here e j l (λ m. f.2 j m h))

  -- There is one such place.
  place_one : (p q : Place) → IsFirst ranges t p → IsFirst ranges t q → p ≡ q
  place_one nowhere nowhere f g = refl
  place_one nowhere (at i) f g = absurd (f i g.0 g.1)
  place_one (at i) nowhere f g = absurd (g i f.0 f.1)
  place_one (at i) (at j) f g = go (dec_lt i j) (dec_lt j i)
    where
      go : Dec (i < j) → Dec (j < i) → at i ≡ at j
      go (yes l) d = absurd (g.2 i l f.1)
      go (no n) (yes l) = absurd (f.2 j l g.1)
      go (no n) (no m) = let e : i ≡ j = omega arith in ap at e

  module _ (valid : All (Valid 32) ranges) (each : (j : ℕ) → j < records t → Valid 32 (route_at t j)) where
    lies_not : (j : ℕ) → j < records t → lies j ≡ false → LiesInOne 32 ranges (route_at t j) → ⊥
    unfolding lies
    lies_not j h e l = true≢false (sym (one_special 32 valid (each j h) l) ∙ e)

    first_is : (p : Place) → FirstOf 0 (records t) p → IsFirst ranges t p
    unfolding lies
    first_is nowhere f = λ j h. lies_not j h (f j (omega arith) (omega arith))
    first_is (at n) f =
        let lt : n < records t = omega (arith, f.0) in
        (lt, special_one 32 valid (each n lt) f.1, λ j h. lies_not j (omega arith) (f.2 j (omega arith) h))

    -- The place that is answered is that of the first record that lies in one of the ranges.
    pub first-exactly : (p : Place) → (first_special 32 ranges (routes t) ≡ p) ↔ IsFirst ranges t p
    unfolding routes_in
    first-exactly p =
        let is = first_is (first_special 32 ranges (routes t)) (first_of 0 (records t)) in
        (λ e. subst (IsFirst ranges t) e is, λ f. place_one (first_special 32 ranges (routes t)) p is f)
