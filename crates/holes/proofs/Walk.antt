-- The holes of a position, by its run: all of it where no route lies in it, none where it has a route of its own, else those of its halves. Over the width.
-- Assumes nothing.
use Prim.Native.Nat.{ℕ, zero, suc, ◌+◌, ◌-◌, ◌/◌, ◌^◌}
use mathlib.Core.Path.{◌≡◌, refl, sym, ap, ap₂, ◌∙◌}
use mathlib.Core.Bool.{Bool, true, false, not, ◌||◌}
use mathlib.Core.List.{List, [], ◌∷◌, ◌++◌}
use mathlib.Core.Logic.{inl, inr, ⊎_elim}
use native.Mathlib.Omega.{arith}
use borrow.Author.Tests.{eq-eqb}
use Rattle.theory.specs.Results.{In, is_miss, throughout, prefix, maximal}
use Rattle.theory.specs.Routes.{Route, held, Match, miss, hit, lookup, none, Member}
use Rattle.theory.specs.Shapes.{routed}
use Rattle.theory.proofs.Blocks.{in_left, in_right, in_halves, pow_pos}
use Rattle.theory.proofs.Lists.{all_member}
use Rattle.theory.proofs.LongestMatch.{lookup-held, lookup_none}
use Rattle.theory.proofs.Maximal.{throughout-each, maximal-agree}
use Rattle.positions.specs.Runs.{inside, Run, own}
use Rattle.positions.proofs.Runs.{Half, half_held, one_held}
use Rattle.holes.specs.Holes.{is_unrouted, holes_in}

-- ---- Maximal prefixes of a position.
module _ (w : ℕ) (p : ℕ → Bool) where
  -- All of it.
  maximal-whole : (n a : ℕ) → throughout p n a ≡ true → maximal w p n a ≡ prefix w n a ∷ []
  unfolding maximal throughout
  maximal-whole zero a e = rw e
  maximal-whole (suc n) a e = rw e

  -- Those of its halves, where p does not hold throughout.
  maximal_halves : (n a : ℕ) → throughout p (suc n) a ≡ false → maximal w p (suc n) a ≡ maximal w p n a ++ maximal w p n (a + 2 ^ n)
  unfolding maximal
  maximal_halves n a e = rw e

  -- A position with an address that has not p is not covered.
  not_throughout : (n a x : ℕ) → In n a x → p x ≡ false → throughout p n a ≡ false
  not_throughout n a x i f = go (throughout p n a) refl
    where
      go : (b : Bool) → throughout p n a ≡ b → b ≡ false
      go true e = let q = (throughout-each p n a).0 e x i in let z : ◌≡◌ {A = ℕ} 0 1 = cc in absurd (omega arith)
      go false e = refl

  -- None, where p holds nowhere.
  pub maximal_none : (n a : ℕ) → ((x : ℕ) → In n a x → p x ≡ false) → maximal w p n a ≡ []
  maximal_none zero a h = unfold maximal in rw (h a (omega arith))
  maximal_none (suc n) a h =
      maximal_halves n a (not_throughout (suc n) a a (omega (arith, pow_pos (suc n))) (h a (omega (arith, pow_pos (suc n)))))
      ∙ ap₂ ◌++◌ (maximal_none n a (λ x i. h x (in_left n a x i))) (maximal_none n (a + 2 ^ n) (λ x i. h x (in_right n a x i)))

-- ---- Holes.

-- An address has no route exactly where no member holds it.
pub unrouted-held : (w x : ℕ) (t : List Route) → is_unrouted w t x ≡ not (held w t x)
unrouted-held w x t = lookup-held w t x

-- Tables that hold the same addresses of a position have the same holes in it.
pub holes-agree : (w n a : ℕ) (s t : List Route) → ((x : ℕ) → In n a x → held w s x ≡ held w t x) → holes_in w s n a ≡ holes_in w t n a
unfolding holes_in
holes-agree w n a s t h =
    maximal-agree (is_unrouted w s) (is_unrouted w t) w n a (λ x i. unrouted-held w x s ∙ ap not (h x i) ∙ sym (unrouted-held w x t))

-- Without routes the position is a hole.
pub holes-empty : (w n a : ℕ) → holes_in w [] n a ≡ prefix w n a ∷ []
unfolding holes_in
holes-empty w n a = maximal-whole w (is_unrouted w []) n a ((throughout-each (is_unrouted w []) n a).1 (λ x i. refl))

-- Where every address has a route there is none.
pub holes_none : (w n a : ℕ) (t : List Route) → ((x : ℕ) → In n a x → held w t x ≡ true) → holes_in w t n a ≡ []
unfolding holes_in
holes_none w n a t h = maximal_none w (is_unrouted w t) n a (λ x i. unrouted-held w x t ∙ ap not (h x i))

-- So none where the position has a route of its own.
pub holes-own : {w n a : ℕ} {t : List Route} → Run w n a t → routed (own w n a t) ≡ true → holes_in w t n a ≡ []
holes-own {w} {n = zero} {a} {t} run e = holes_none w zero a t (λ x i. let q : x ≡ a = omega arith in ap (held w t) q ∙ one_held run ∙ e)
holes-own {w} {n = suc n} {a} {t} run e = holes_none w (suc n) a t (λ x i. ⊎_elim (by a (inl refl) x) (by (a + 2 ^ n) (inr refl) x) (in_halves n a x i))
  where
    by : (b : ℕ) → Half n a b → (x : ℕ) → In n b x → held w t x ≡ true
    by b h x i = half_held run b x h i ∙ ap (λ (c : Bool). c || held w (inside w n b t) x) e

-- A position that is no hole has the holes of its halves.
no_hole : (w n a : ℕ) (t : List Route) → throughout (is_unrouted w t) (suc n) a ≡ false
    → holes_in w t (suc n) a ≡ holes_in w t n a ++ holes_in w t n (a + 2 ^ n)
unfolding holes_in
no_hole w n a t e = maximal_halves w (is_unrouted w t) n a e

-- With routes in it, and none of its own, it has the holes of its halves.
pub holes_halves : {w n a : ℕ} {t : List Route} {r : Route} → Run w (suc n) a t → Member r t → own w (suc n) a t ≡ none
    → holes_in w t (suc n) a ≡ holes_in w (inside w n a t) n a ++ holes_in w (inside w n (a + 2 ^ n) t) n (a + 2 ^ n)
holes_halves {w} {n} {a} {t} {r} run member e =
    no_hole w n a t (not_throughout w (is_unrouted w t) (suc n) a r.addr here has-route)
    ∙ ap₂ ◌++◌ (half a (inl refl)) (half (a + 2 ^ n) (inr refl))
  where
    here : In (suc n) a r.addr
    here = let i = all_member run.within member in omega (arith, i.low, i.high, pow_pos (w - r.len))

    has-route : is_unrouted w t r.addr ≡ false
    has-route = go (lookup w t r.addr) refl
      where
        go : (m : Match) → lookup w t r.addr ≡ m → is_miss m ≡ false
        go miss q = absurd ((lookup_none w t r.addr).0 q r member (eq-eqb (r.addr / 2 ^ (w - r.len)) (r.addr / 2 ^ (w - r.len)) refl))
        go (hit k h) q = refl

    half : (b : ℕ) → Half n a b → holes_in w t n b ≡ holes_in w (inside w n b t) n b
    half b h = holes-agree w n b t (inside w n b t) (λ x i. half_held run b x h i ∙ ap (λ v. routed v || held w (inside w n b t) x) e)
