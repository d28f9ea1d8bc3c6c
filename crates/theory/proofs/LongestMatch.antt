-- The lookup is the longest match of RFC 4632: of the routes that match an address, one that none exceeds in length.
use Prim.Native.Nat.{ℕ, ◌-◌, ◌/◌, ◌^◌, ◌≤◌}
use mathlib.Core.Path.{◌≡◌, refl, sym, ap, ap₂, ◌∙◌}
use mathlib.Core.Bool.{Bool, true, false, cond, not, ◌||◌, ◌&&◌}
use mathlib.Core.List.{List, [], ◌∷◌}
use mathlib.Core.Logic.{◌⊎◌, inl, inr, ⊎_elim, ◌↔◌}
use native.Mathlib.Nat.{le_refl}
use native.Mathlib.Omega.{arith}
use lib.Dec.{ltb}
use borrow.Author.Tests.{ltb-true, ltb-false, eqb-true}
use Rattle.theory.specs.Longest.{IsLongest}
use Rattle.theory.specs.Results.{is_miss}
use Rattle.theory.specs.Routes.{Route, matches, held, Match, miss, hit, longer, tried, lookup, Valid, All, Ascending, first, Table, Member, head, later}
use Rattle.theory.proofs.Blocks.{same_block, fewer_bits}
use Rattle.theory.proofs.Lists.{all_map, all_member}
use Rattle.theory.proofs.Parts.{lookup_alike}

hit_same : {k h j g : ℕ} → hit k h ≡ hit j g → (k ≡ j) × (h ≡ g)
hit_same e = (cc, cc)

pub miss-hit : {k h : ℕ} → miss ≡ hit k h → ⊥
miss-hit e = let z : ◌≡◌ {A = ℕ} 0 1 = cc in absurd (omega arith)

longer_either : (m l : Match) {k h : ℕ} → longer m l ≡ hit k h → (m ≡ hit k h) ⊎ (l ≡ hit k h)
longer_either miss l e = inr e
longer_either (hit i g) miss e = inl e
longer_either (hit i g) (hit j f) {k} {h} e = go (ltb j i) e
  where
    go : (b : Bool) → cond b (hit i g) (hit j f) ≡ hit k h → (hit i g ≡ hit k h) ⊎ (hit j f ≡ hit k h)
    go true q = inl q
    go false q = inr q

-- The match m is at least as long as k.
abbrev Reaches : ℕ → Match → Type 0
Reaches k m = (j : ℕ) × (h : ℕ) × (m ≡ hit j h) × (k ≤ j)

longer-left : (k h : ℕ) (m : Match) → Reaches k (longer (hit k h) m)
longer-left k h miss = (k, h, refl, le_refl k)
longer-left k h (hit l i) = go (ltb l k) refl
  where
    go : (b : Bool) → ltb l k ≡ b → Reaches k (cond b (hit k h) (hit l i))
    go true e = (k, h, refl, le_refl k)
    go false e = (l, i, refl, ltb-false l k e)

longer-right : (m : Match) (k h : ℕ) → Reaches k (longer m (hit k h))
longer-right miss k h = (k, h, refl, le_refl k)
longer-right (hit l i) k h = go (ltb k l) refl
  where
    go : (b : Bool) → ltb k l ≡ b → Reaches k (cond b (hit l i) (hit k h))
    go true e = (l, i, refl, omega (arith, ltb-true k l e))
    go false e = (k, h, refl, le_refl k)

is_miss-longer : (m l : Match) → is_miss (longer m l) ≡ (is_miss m && is_miss l)
is_miss-longer miss l = refl
is_miss-longer (hit i g) miss = refl
is_miss-longer (hit i g) (hit j f) = go (ltb j i)
  where
    go : (b : Bool) → is_miss (cond b (hit i g) (hit j f)) ≡ false
    go true = refl
    go false = refl

-- Two routes of a table with one prefix are one route.
pub same_prefix : {t : List Route} {r s : Route} → Ascending t → Member r t → Member s t → r.addr ≡ s.addr → r.len ≡ s.len → r ≡ s
same_prefix {r = r} {s = s} Rattle.theory.specs.Routes.empty m n e q = elim m [ ]
same_prefix (first b o) head head e q = refl
same_prefix (first b o) head (later n) e q = ⊎_elim (λ lt. absurd (omega arith)) (λ p. absurd (omega arith)) (all_member b n)
same_prefix (first b o) (later m) head e q = ⊎_elim (λ lt. absurd (omega arith)) (λ p. absurd (omega arith)) (all_member b m)
same_prefix (first b o) (later m) (later n) e q = same_prefix o m n e q

module _ (w : ℕ) where
  tried-hit : (r : Route) (x : ℕ) {k h : ℕ} → tried w r x ≡ hit k h → (matches w r x ≡ true) × (r.len ≡ k) × (r.hop ≡ h)
  tried-hit r x {k} {h} e = go (matches w r x) e
    where
      go : (b : Bool) → cond b (hit r.len r.hop) miss ≡ hit k h → (b ≡ true) × (r.len ≡ k) × (r.hop ≡ h)
      go true p = (refl, (hit_same p).0, (hit_same p).1)
      go false p = absurd (miss-hit p)

  -- A lookup answers the length and the hop of a route of the table that matches.
  pub lookup-member : (t : List Route) (x : ℕ) {k h : ℕ} → lookup w t x ≡ hit k h
      → (r : Route) × Member r t × (matches w r x ≡ true) × (r.len ≡ k) × (r.hop ≡ h)
  lookup-member [] x e = absurd (miss-hit e)
  lookup-member (r ∷ t) x e =
      ⊎_elim (λ p. let q = tried-hit r x p in (r, head, q.0, q.1, q.2))
      (λ p. let q = lookup-member t x p in (q.0, later q.1, q.2, q.3, q.4)) (longer_either (tried w r x) (lookup w t x) e)

  -- No route of the table that matches is longer.
  pub lookup-longest : {r : Route} {t : List Route} (x : ℕ) → Member r t → matches w r x ≡ true
      → (k : ℕ) × (h : ℕ) × (lookup w t x ≡ hit k h) × (r.len ≤ k)
  lookup-longest {r} x (head {t = t}) e = rw e (longer-left r.len r.hop (lookup w t x))
  lookup-longest x (later {s = s} {t = t} m) e =
      let q = lookup-longest x m e in
      let z = longer-right (tried w s x) q.0 q.1 in
      (z.0, z.1, ap (longer (tried w s x)) q.2 ∙ z.2, omega arith)

  -- The two together: a lookup answers the length and the hop of a longest match.
  pub lookup-found : (t : List Route) (x : ℕ) {k h : ℕ} → lookup w t x ≡ hit k h → (r : Route) × IsLongest w t x r × (r.len ≡ k) × (r.hop ≡ h)
  lookup-found t x e =
      let z = lookup-member t x e in
      let most : (s : Route) → Member s t → matches w s x ≡ true → s.len ≤ z.0.len =
      λ s m q. let y = lookup-longest x m q in omega (arith, (hit_same (sym e ∙ y.2)).0) in
      (z.0, record { member = z.1; matching = z.2; longest = most }, z.3, z.4)

  -- There is no match exactly where no route of the table matches.
  pub lookup_none : (t : List Route) (x : ℕ) → (lookup w t x ≡ miss) ↔ ((r : Route) → Member r t → matches w r x ≡ true → ⊥)
  lookup_none t x = (
    λ e r m q. let z = lookup-longest x m q in miss-hit (sym e ∙ z.2),
    λ k. go (lookup w t x) refl k,
  )
    where
      go : (m : Match) → lookup w t x ≡ m → ((r : Route) → Member r t → matches w r x ≡ true → ⊥) → m ≡ miss
      go miss e k = refl
      go (hit l h) e k = let z = lookup-member t x e in absurd (k z.0 z.1 z.2)

  -- There is a match exactly where the address is under some route of the table.
  pub lookup-held : (t : List Route) (x : ℕ) → is_miss (lookup w t x) ≡ not (held w t x)
  lookup-held [] x = refl
  lookup-held (r ∷ t) x =
      is_miss-longer (tried w r x) (lookup w t x) ∙ ap (λ (b : Bool). is_miss (tried w r x) && b) (lookup-held t x) ∙ go (matches w r x) (held w t x)
    where
      go : (b c : Bool) → (is_miss (cond b (hit r.len r.hop) miss) && not c) ≡ not (b || c)
      go true c = refl
      go false c = refl

  -- A route of at most k bits matches both or neither of two addresses that share their first k bits.
  pub matches-bits : (k x y : ℕ) (r : Route) → r.len ≤ k → x / 2 ^ (w - k) ≡ y / 2 ^ (w - k) → matches w r x ≡ matches w r y
  matches-bits k x y r le e = rw (fewer_bits w r.len k x y le e)

  -- So the longest match among such routes is settled by the first k bits.
  pub lookup-bits : (k x y : ℕ) {t : List Route} → All (λ r. r.len ≤ k) t → x / 2 ^ (w - k) ≡ y / 2 ^ (w - k) → lookup w t x ≡ lookup w t y
  lookup-bits k x y lens e = lookup_alike w x y (all_map (λ r le. matches-bits k x y r le e) lens)

  -- Two valid routes of one length that match one address have one address themselves.
  same_address : {r s : Route} (x : ℕ) → Valid w r → Valid w s → r.len ≡ s.len → matches w r x ≡ true → matches w s x ≡ true
      → r.addr ≡ s.addr
  same_address {r} {s} x v u e p q =
      let other : x / 2 ^ (w - r.len) ≡ s.addr / 2 ^ (w - r.len) = rw e (eqb-true _ _ q) in
      same_block (w - r.len) r.addr s.addr v.clean (rw e u.clean) (sym (eqb-true _ _ p) ∙ other)

  module _ {t : List Route} (table : Table w t) where
    -- Of each length one route at most matches.
    pub one_prefix : {r s : Route} (x : ℕ) → Member r t → Member s t → r.len ≡ s.len → matches w r x ≡ true → matches w s x ≡ true → r ≡ s
    one_prefix x m n e p q =
        same_prefix table.order m n (same_address x (all_member table.valid m) (all_member table.valid n) e p q) e

    -- So the longest match settles the lookup.
    pub lookup_is : {r : Route} (x : ℕ) → IsLongest w t x r → lookup w t x ≡ hit r.len r.hop
    lookup_is {r} x i =
        let q = lookup-longest x i.member i.matching in
        let z = lookup-member t x q.2 in
        let e : r.len ≡ z.0.len = omega (arith, i.longest z.0 z.1 z.2) in
        let same : r ≡ z.0 = one_prefix x i.member z.1 e i.matching z.2 in
        q.2 ∙ ap₂ hit (sym z.3) (sym z.4) ∙ ap (λ (s : Route). hit s.len s.hop) (sym same)

    -- A lookup answers a length and a hop exactly where a longest match has them.
    pub lookup-exact : (x : ℕ) {k h : ℕ} → (lookup w t x ≡ hit k h) ↔ ((r : Route) × IsLongest w t x r × (r.len ≡ k) × (r.hop ≡ h))
    lookup-exact x = (λ e. lookup-found t x e, λ z. lookup_is x z.1 ∙ ap₂ hit z.2 z.3)
