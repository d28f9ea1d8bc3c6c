-- The rewrite answers as the function that it was made from.
use Prim.Native.Nat.{ℕ, zero, suc, ◌+◌, ◌-◌, ◌/◌, ◌^◌, ◌≤◌, ◌<◌}
use mathlib.Core.Path.{◌≡◌, refl, sym, ap, ap₂, ◌∙◌}
use mathlib.Core.Bool.{Bool, true, false, cond, ◌||◌}
use mathlib.Core.List.{List, [], ◌∷◌, ◌++◌, append-nil}
use native.Mathlib.Nat.{pow-suc, le_refl}
use native.Mathlib.Decide.{dec_lt}
use native.Mathlib.Omega.{arith}
use lib.Dec.{eqb, ltb}
use borrow.Author.Tests.{eq-eqb, eqb-true, le-ltb}
use Rattle.theory.specs.Shapes.{Within}
use Rattle.theory.specs.Results.{In, has, Cand, hole, of, leaf, combine, sets, allowed, Chooses, assigned, here, ortc}
use Rattle.theory.specs.Routes.{Route, matches, Match, miss, hit, longer, tried, lookup, Answer, none, via, under, answer, Aligned, All, nil, cons}
use Rattle.theory.proofs.Blocks.{aligned-zero, aligned-left, aligned-right, in→block, block→in}
use Rattle.theory.proofs.Lists.{all_append, all_map}
use Rattle.theory.proofs.Routed.{Every, lookup_every}

pub within-left : (w n a : ℕ) (r : Route) → Within w n a r → Within w (suc n) a r
within-left w n a r i =
    record { low = i.low; high = omega (arith, pow-suc 2 n); deep = omega arith; short = i.short; aligned = i.aligned }

pub within-right : (w n a : ℕ) (r : Route) → Within w n (a + 2 ^ n) r → Within w (suc n) a r
within-right w n a r i =
    record { low = omega arith; high = omega (arith, pow-suc 2 n); deep = omega arith; short = i.short; aligned = i.aligned }

pub match_in : (w n a x : ℕ) (r : Route) → Within w n a r → matches w r x ≡ true → In n a x
match_in w n a x r i e =
    let j : In (w - r.len) r.addr x = block→in (w - r.len) r.addr x i.aligned (eqb-true _ _ e) in
    omega arith

-- No route within a position matches an address outside it.
pub lookup_outside : (w n a x : ℕ) {t : List Route} → All (Within w n a) t → (In n a x → ⊥) → lookup w t x ≡ miss
lookup_outside w n a x nil out = refl
lookup_outside w n a x (cons {r = r} {t = t} p ps) out = go (matches w r x) refl (lookup_outside w n a x ps out)
  where
    go : (b : Bool) → matches w r x ≡ b → lookup w t x ≡ miss → longer (cond b (hit r.len r.hop) miss) (lookup w t x) ≡ miss
    go true e ih = absurd (out (match_in w n a x r p e))
    go false e ih = ih

-- A match is at least so long.
abbrev pub Deep : ℕ → Match → Type 0
Deep k m = Every (λ l h. k ≤ l) m

pub lookup-deep : (w n a x : ℕ) {t : List Route} → All (Within w n a) t → Deep (w - n) (lookup w t x)
lookup-deep w n a x h = lookup_every (λ l h. w - n ≤ l) w x (all_map (λ r i. i.deep) h)

pub lookup-append-left : (w x : ℕ) (s t : List Route) → lookup w t x ≡ miss → lookup w (s ++ t) x ≡ lookup w s x
lookup-append-left w x [] t e = e
lookup-append-left w x (r ∷ s) t e = ap (longer (tried w r x)) (lookup-append-left w x s t e)

pub longer-miss : (m l : Match) → longer m l ≡ miss → (m ≡ miss) × (l ≡ miss)
longer-miss miss l e = (refl, e)
longer-miss (hit i h) miss e = (e, refl)
longer-miss (hit i h) (hit j g) e = go (ltb j i) e
  where
    go : (b : Bool) → cond b (hit i h) (hit j g) ≡ miss → (hit i h ≡ miss) × (hit j g ≡ miss)
    go true p = let z : ◌≡◌ {A = ℕ} 0 1 = cc in absurd (omega arith)
    go false p = let z : ◌≡◌ {A = ℕ} 0 1 = cc in absurd (omega arith)

pub lookup-append-right : (w x : ℕ) (s t : List Route) → lookup w s x ≡ miss → lookup w (s ++ t) x ≡ lookup w t x
lookup-append-right w x [] t e = refl
lookup-append-right w x (r ∷ s) t e =
    let both : (tried w r x ≡ miss) × (lookup w s x ≡ miss) = longer-miss (tried w r x) (lookup w s x) e in
    ap₂ longer both.0 (lookup-append-right w x s t both.1)

pub has_one : (h k : ℕ) → has h (k ∷ []) ≡ true → h ≡ k
has_one h k e = eqb-true h k (or-false (eqb h k) ∙ e)
  where
    or-false : (b : Bool) → b ≡ (b || false)
    or-false true = refl
    or-false false = refl

pub back : (w n : ℕ) → n ≤ w → w - (w - n) ≡ n
back w n le = omega arith

module _ (choose : List ℕ → ℕ) (w : ℕ) where
  pub here-within : (S : Cand) (n a : ℕ) (above : Answer) → n ≤ w → Aligned n a → All (Within w n a) (here choose w S n a above)
  here-within hole n a above le d = nil
  here-within (of s) n a above le d = go (allowed above s)
    where
      one : Within w n a (record { addr = a; len = w - n; hop = choose s })
      one =
          record {
            low = le_refl a;
            high = rw (back w n le) (le_refl (a + 2 ^ n));
            deep = le_refl (w - n);
            short = omega arith;
            aligned = rw (back w n le) d;
          }

      go : (b : Bool) → All (Within w n a) (cond b [] (record { addr = a; len = w - n; hop = choose s } ∷ []))
      go true = nil
      go false = cons one nil

  pub ortc-within : (f : ℕ → Answer) (n a : ℕ) (above : Answer) → n ≤ w → Aligned n a → All (Within w n a) (ortc choose w f n a above)
  unfolding ortc
  ortc-within f zero a above le d = here-within (sets f zero a) zero a above le d
  ortc-within f (suc n) a above le d =
      let g : Answer = assigned choose (sets f (suc n) a) above in
      all_append (here-within (sets f (suc n) a) (suc n) a above le d)
      (all_append (all_map (within-left w n a) (ortc-within f n a g (omega arith) (aligned-left n a d)))
      (all_map (within-right w n a) (ortc-within f n (a + 2 ^ n) g (omega arith) (aligned-right n a d))))

  here_match : (n a x h : ℕ) → n ≤ w → Aligned n a → In n a x → matches w (record { addr = a; len = w - n; hop = h }) x ≡ true
  here_match n a x h le d i = rw (back w n le) (eq-eqb (x / 2 ^ n) (a / 2 ^ n) (in→block n a x d i))

  -- One step of the walk down: below a position its assigned hop stands for what is above.
  here_step : (S : Cand) (n a x : ℕ) (above : Answer) (inner : List Route) → n ≤ w → Aligned n a → In n a x → (S ≡ hole → above ≡ none)
      → Deep (w - n) (lookup w inner x)
      → under above (lookup w (here choose w S n a above ++ inner) x) ≡ under (assigned choose S above) (lookup w inner x)
  here_step hole n a x above inner le d i inv deep = rw (inv refl)
  here_step (of s) n a x above inner le d i inv deep = go (allowed above s)
    where
      last : (m : Match) → Deep (w - n) m → under above (longer (hit (w - n) (choose s)) m) ≡ under (via (choose s)) m
      last miss q = refl
      last (hit k h) q = rw (le-ltb k (w - n) q)

      go : (b : Bool) → under above (lookup w (cond b [] (record { addr = a; len = w - n; hop = choose s } ∷ []) ++ inner) x)
          ≡ under (cond b above (via (choose s))) (lookup w inner x)
      go true = refl
      go false = rw (here_match n a x (choose s) le d i) (last (lookup w inner x) deep)

  pub leaf-assigned : Chooses choose → (v above : Answer) → assigned choose (leaf v) above ≡ v
  leaf-assigned law none above = refl
  leaf-assigned law (via h) none = ap via (has_one _ h (law h []))
  leaf-assigned law (via h) (via k) = go (has k (h ∷ [])) refl
    where
      go : (b : Bool) → has k (h ∷ []) ≡ b → cond b (via k) (via (choose (h ∷ []))) ≡ via h
      go true e = ap via (has_one k h e)
      go false e = ap via (has_one _ h (law h []))

  -- Nothing is assigned above a hole.
  pub hole-left : (S R : Cand) (above : Answer) → S ≡ hole → assigned choose (combine S R) above ≡ none
  hole-left S R above e = rw e

  pub hole-right : (S R : Cand) (above : Answer) → R ≡ hole → assigned choose (combine S R) above ≡ none
  hole-right hole R above e = refl
  hole-right (of s) R above e = rw e

  pub preserve : Chooses choose → (f : ℕ → Answer) (n a : ℕ) (above : Answer) → n ≤ w → Aligned n a → (sets f n a ≡ hole → above ≡ none)
      → (x : ℕ) → In n a x → under above (lookup w (ortc choose w f n a above) x) ≡ f x
  unfolding ortc sets
  preserve law f zero a above le d inv x i =
      ap (λ (t : List Route). under above (lookup w t x)) (sym (append-nil (here choose w (sets f zero a) zero a above)))
      ∙ here_step (sets f zero a) zero a x above [] le d i inv tt
      ∙ leaf-assigned law (f a) above
      ∙ ap f (omega arith)
  preserve law f (suc n) a above le d inv x i =
      here_step (sets f (suc n) a) (suc n) a x above (l ++ r) le d i inv deep ∙ side (dec_lt x (a + 2 ^ n))
      (preserve law f n a g (omega arith) (aligned-left n a d) (hole-left (sets f n a) (sets f n (a + 2 ^ n)) above) x)
      (preserve law f n (a + 2 ^ n) g (omega arith) (aligned-right n a d) (hole-right (sets f n a) (sets f n (a + 2 ^ n)) above) x)
    where
      g : Answer
      g = assigned choose (sets f (suc n) a) above

      l : List Route
      l = ortc choose w f n a g

      r : List Route
      r = ortc choose w f n (a + 2 ^ n) g

      lw : All (Within w n a) l
      lw = ortc-within f n a g (omega arith) (aligned-left n a d)

      rw' : All (Within w n (a + 2 ^ n)) r
      rw' = ortc-within f n (a + 2 ^ n) g (omega arith) (aligned-right n a d)

      deep : Deep (w - suc n) (lookup w (l ++ r) x)
      deep = lookup-deep w (suc n) a x (all_append (all_map (within-left w n a) lw) (all_map (within-right w n a) rw'))

      side : Dec (x < a + 2 ^ n) → (In n a x → under g (lookup w l x) ≡ f x) → (In n (a + 2 ^ n) x → under g (lookup w r x) ≡ f x)
          → under g (lookup w (l ++ r) x) ≡ f x
      side (yes lt) p q =
          ap (under g) (lookup-append-left w x l r (lookup_outside w n (a + 2 ^ n) x rw' (λ j. omega arith))) ∙ p (omega arith)
      side (no ge) p q =
          ap (under g) (lookup-append-right w x l r (lookup_outside w n a x lw (λ j. omega arith))) ∙ q (omega (arith, pow-suc 2 n))

  -- The rewrite of the whole answers as f at each address.
  pub answers : Chooses choose → (f : ℕ → Answer) (x : ℕ) → x < 2 ^ w → answer w (ortc choose w f w 0 none) x ≡ f x
  answers law f x lt = preserve law f w 0 none (le_refl w) (aligned-zero w) (λ e. refl) x (omega arith)
