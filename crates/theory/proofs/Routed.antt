-- What a route matches, what a longest match inherits from the routes, whether a table holds an address; and tables whose hops are all 0.
use Prim.Native.Nat.{ℕ, suc, ◌-◌}
use mathlib.Core.Path.{◌≡◌, refl, sym, ap, ap₂, ◌∙◌}
use mathlib.Core.Bool.{Bool, true, false, cond, ◌||◌}
use mathlib.Core.List.{List, [], ◌∷◌}
use mathlib.Core.Logic.{◌↔◌}
use lib.Dec.{ltb}
use lib.ListN.{length}
use borrow.Author.Tests.{eq-eqb, eqb-true}
use native.Mathlib.Bridge.{le_prop}
use native.Mathlib.Omega.{arith}
use Rattle.theory.specs.Shapes.{routed}
use Rattle.theory.specs.Results.{In, unhopped}
use Rattle.theory.specs.Routes.{Route, matches, held, Match, miss, hit, longer, tried, lookup, Answer, none, via, under, answer, Valid, All, nil, cons}
use Rattle.theory.proofs.Blocks.{aligned_prop, in→block, block→in}

-- ---- Valid routes.

-- A route is valid in one way only.
pub valid_prop : (w : ℕ) (r : Route) → IsProp (Valid w r)
valid_prop w r u v =
    λ i.
    record {
      short = le_prop u.short v.short i;
      clean = aligned_prop (w - r.len) r.addr u.clean v.clean i;
      small = le_prop u.small v.small i;
    }

module _ (w : ℕ) {r : Route} (v : Valid w r) where
  -- It matches the addresses of its position.
  pub matches_in : (x : ℕ) → (matches w r x ≡ true) ↔ In (w - r.len) r.addr x
  matches_in x = (
    λ e. block→in (w - r.len) r.addr x v.clean (eqb-true _ _ e),
    λ i. eq-eqb _ _ (in→block (w - r.len) r.addr x v.clean i),
  )

-- ---- What holds of every route's length and hop holds of the longest match's.

module _ (P : ℕ → ℕ → Type 0) where
  -- P holds of the match, if there is one.
  abbrev pub Every : Match → Type 0
  Every miss = Unit {0}
  Every (hit k h) = P k h

  every_longer : (m l : Match) → Every m → Every l → Every (longer m l)
  every_longer miss l p q = q
  every_longer (hit i h) miss p q = p
  every_longer (hit i h) (hit j g) p q = go (ltb j i)
    where
      go : (b : Bool) → Every (cond b (hit i h) (hit j g))
      go true = p
      go false = q

  pub lookup_every : (w x : ℕ) {t : List Route} → All (λ r. P r.len r.hop) t → Every (lookup w t x)
  lookup_every w x nil = tt
  lookup_every w x (cons {r = r} {t = t} p ps) = every_longer (tried w r x) (lookup w t x) (go (matches w r x)) (lookup_every w x ps)
    where
      go : (b : Bool) → Every (cond b (hit r.len r.hop) miss)
      go true = p
      go false = tt

-- ---- Held: a hop is said.

routed-longer : (m l : Match) → routed (under none (longer m l)) ≡ (routed (under none m) || routed (under none l))
routed-longer miss l = refl
routed-longer (hit k h) miss = refl
routed-longer (hit k h) (hit l i) = go (ltb l k)
  where
    go : (b : Bool) → routed (under none (cond b (hit k h) (hit l i))) ≡ true
    go true = refl
    go false = refl

routed-tried : (b : Bool) (k h : ℕ) → routed (under none (cond b (hit k h) miss)) ≡ b
routed-tried true k h = refl
routed-tried false k h = refl

-- A table holds an address exactly when it answers it with a hop.
pub held-answer : (w x : ℕ) (t : List Route) → held w t x ≡ routed (answer w t x)
held-answer w x [] = refl
held-answer w x (r ∷ t) =
    ap₂ ◌||◌ (sym (routed-tried (matches w r x) r.len r.hop)) (held-answer w x t) ∙ sym (routed-longer (tried w r x) (lookup w t x))

-- Exactly when there is a match.
pub held-lookup : (w x : ℕ) (t : List Route) → (held w t x ≡ true) ↔ ((k : ℕ) × ((h : ℕ) × (lookup w t x ≡ hit k h)))
held-lookup w x t = (
  λ e. hits (lookup w t x) refl (sym (held-answer w x t) ∙ e),
  λ z. held-answer w x t ∙ ap (λ (m : Match). routed (under none m)) z.1.1,
)
  where
    hits : (m : Match) → lookup w t x ≡ m → routed (under none (lookup w t x)) ≡ true → (k : ℕ) × ((h : ℕ) × (lookup w t x ≡ hit k h))
    hits miss e q = let z : ◌≡◌ {A = ℕ} 0 1 = cc in absurd (omega arith)
    hits (hit k h) e q = (k, (h, e))

-- ---- Sets: tables whose hops are all 0.

-- What a set says of an address.
abbrev pub marked : Bool → Answer
marked b = cond b (via 0) none

pub routed-marked : (b : Bool) → routed (marked b) ≡ b
routed-marked true = refl
routed-marked false = refl

-- The route's hop is 0.
abbrev pub Bare : Route → Type 0
Bare r = r.hop ≡ 0

-- A set says hop 0 of exactly the addresses that it holds.
pub answer-bare : (w x : ℕ) {t : List Route} → All Bare t → answer w t x ≡ marked (held w t x)
answer-bare w x {t} h = zero-hop (lookup w t x) (lookup_every (λ k i. i ≡ 0) w x h) ∙ ap marked (sym (held-answer w x t))
  where
    zero-hop : (m : Match) → Every (λ k i. i ≡ 0) m → under none m ≡ marked (routed (under none m))
    zero-hop miss e = refl
    zero-hop (hit k i) e = ap via e

pub all_unhopped : (t : List Route) → All Bare (unhopped t)
all_unhopped [] = nil
all_unhopped (r ∷ t) = cons refl (all_unhopped t)

-- A set without its hops is itself.
pub unhopped-bare : {t : List Route} → All Bare t → unhopped t ≡ t
unhopped-bare nil = refl
unhopped-bare (cons {r = r} h hs) = ap₂ ◌∷◌ (ap (λ (k : ℕ). record { addr = r.addr; len = r.len; hop = k }) (sym h)) (unhopped-bare hs)

-- Hops do not matter to what a table holds.
pub held-unhopped : (w x : ℕ) (t : List Route) → held w (unhopped t) x ≡ held w t x
held-unhopped w x [] = refl
held-unhopped w x (r ∷ t) = ap (λ (b : Bool). matches w r x || b) (held-unhopped w x t)

-- Without their hops routes are as many.
pub length-unhopped : (t : List Route) → length (unhopped t) ≡ length t
length-unhopped [] = refl
length-unhopped (r ∷ t) = ap suc (length-unhopped t)
