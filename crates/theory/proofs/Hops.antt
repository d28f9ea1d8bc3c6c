-- Membership in sets of hops, and the hops of a position: those that one of its addresses has.
use Prim.Native.Nat.{ℕ, zero, suc, ◌+◌, ◌^◌}
use mathlib.Core.Path.{◌≡◌, refl, sym, ap, ◌∙◌}
use mathlib.Core.Bool.{Bool, true, false, cond, ◌||◌, ◌&&◌}
use mathlib.Core.List.{List, [], ◌∷◌}
use mathlib.Core.Logic.{◌⊎◌, inl, inr, ⊎_elim}
use native.Mathlib.Omega.{arith}
use lib.Dec.{eqb, ltb}
use borrow.Author.Tests.{eqb-true}
use Rattle.theory.specs.Shapes.{Some}
use Rattle.theory.specs.Results.{In, has, insert, union, common, Cand, hole, of, leaf, or_union, combine, sets, Chooses}
use Rattle.theory.specs.Routes.{Answer, none, via}
use Rattle.theory.proofs.Blocks.{in_left, in_right}
use Rattle.theory.proofs.Preserve.{has_one}

or_again : (p q : Bool) → (p || q) ≡ (p || (p || q))
or_again true q = refl
or_again false q = refl

or_swap : (p q r : Bool) → (p || (q || r)) ≡ (q || (p || r))
or_swap true true r = refl
or_swap true false r = refl
or_swap false q r = refl

or_assoc : (p q r : Bool) → (p || (q || r)) ≡ ((p || q) || r)
or_assoc true q r = refl
or_assoc false q r = refl

and-false : (p : Bool) → (p && false) ≡ false
and-false true = refl
and-false false = refl

pub has-insert : (x h : ℕ) (s : List ℕ) → has x (insert h s) ≡ (eqb x h || has x s)
has-insert x h [] = refl
has-insert x h (k ∷ s) = go (ltb h k) (eqb h k) refl (has-insert x h s)
  where
    go : (b c : Bool) → eqb h k ≡ c → has x (insert h s) ≡ (eqb x h || has x s)
        → has x (cond b (h ∷ k ∷ s) (cond c (k ∷ s) (k ∷ insert h s))) ≡ (eqb x h || (eqb x k || has x s))
    go true c e ih = refl
    go false true e ih = rw (eqb-true h k e) (or_again (eqb x k) (has x s))
    go false false e ih = ap (λ (b : Bool). eqb x k || b) ih ∙ or_swap (eqb x k) (eqb x h) (has x s)

pub has-union : (x : ℕ) (s t : List ℕ) → has x (union s t) ≡ (has x s || has x t)
has-union x [] t = refl
has-union x (h ∷ s) t =
    has-insert x h (union s t) ∙ ap (λ (b : Bool). eqb x h || b) (has-union x s t) ∙ or_assoc (eqb x h) (has x s) (has x t)

pub has-common : (x : ℕ) (s t : List ℕ) → has x (common s t) ≡ (has x s && has x t)
has-common x [] t = refl
has-common x (h ∷ s) t = go (has h t) refl (eqb x h) refl (has-common x s t)
  where
    go : (b : Bool) → has h t ≡ b → (c : Bool) → eqb x h ≡ c → has x (common s t) ≡ (has x s && has x t)
        → has x (cond b (h ∷ common s t) (common s t)) ≡ ((c || has x s) && has x t)
    go true e true q ih = rw (q, eqb-true x h q, e)
    go true e false q ih = rw q ih
    go false e true q ih =
        let n : has x t ≡ false = rw (eqb-true x h q) e in
        ih ∙ rw n (and-false (has x s))
    go false e false q ih = ih

pub some-chosen : (choose : List ℕ → ℕ) → Chooses choose → (s : List ℕ) → Some s → has (choose s) s ≡ true
some-chosen choose law [] p = absurd p
some-chosen choose law (h ∷ s) p = law h s

some-insert : (h : ℕ) (s : List ℕ) → Some (insert h s)
some-insert h [] = tt
some-insert h (k ∷ s) = go (ltb h k) (eqb h k)
  where
    go : (b c : Bool) → Some (cond b (h ∷ k ∷ s) (cond c (k ∷ s) (k ∷ insert h s)))
    go true c = tt
    go false true = tt
    go false false = tt

-- A union with a set that is not empty is not empty.
pub some-union : (s t : List ℕ) → Some s → Some (union s t)
some-union [] t p = absurd p
some-union (h ∷ s) t p = some-insert h (union s t)

-- A candidate set is not empty, and each of its hops is some address's.
abbrev pub Held : (ℕ → Answer) → ℕ → ℕ → Cand → Type 0
Held f n a hole = (x : ℕ) × (In n a x × (f x ≡ none))
Held f n a (of s) = Some s × ((h : ℕ) → has h s ≡ true → (x : ℕ) × (In n a x × (f x ≡ via h)))

pub or_cases : (p q : Bool) → (p || q) ≡ true → (p ≡ true) ⊎ (q ≡ true)
or_cases true q e = inl refl
or_cases false q e = inr e

-- What holds with another holds.
pub and_left : (p q : Bool) → (p && q) ≡ true → p ≡ true
and_left true q e = refl
and_left false q e = e

module _ (f : ℕ → Answer) where
  held-leaf : (a : ℕ) (v : Answer) → f a ≡ v → Held f zero a (leaf v)
  held-leaf a none e = (a, (omega arith, e))
  held-leaf a (via h) e = (tt, λ k q. (a, (omega arith, e ∙ ap via (sym (has_one k h q)))))

  held-combine : (n a : ℕ) (S R : Cand) → Held f n a S → Held f n (a + 2 ^ n) R → Held f (suc n) a (combine S R)
  held-combine n a hole R p q = (p.0, (in_left n a p.0 p.1.0, p.1.1))
  held-combine n a (of s) hole p q = (q.0, (in_right n a q.0 q.1.0, q.1.1))
  held-combine n a (of s) (of t) p q = go (common s t) refl
    where
      left : (h : ℕ) → has h s ≡ true → (x : ℕ) × (In (suc n) a x × (f x ≡ via h))
      left h e = let z = p.1 h e in (z.0, (in_left n a z.0 z.1.0, z.1.1))

      right : (h : ℕ) → has h t ≡ true → (x : ℕ) × (In (suc n) a x × (f x ≡ via h))
      right h e = let z = q.1 h e in (z.0, (in_right n a z.0 z.1.0, z.1.1))

      go : (c : List ℕ) → common s t ≡ c → Held f (suc n) a (of (or_union c s t))
      go [] e = (some-union s t p.0, λ h m. ⊎_elim (left h) (right h) (or_cases (has h s) (has h t) (sym (has-union h s t) ∙ m)))
      go (k ∷ c) e = (tt, λ h m. left h (and_left (has h s) (has h t) (sym (has-common h s t) ∙ ap (has h) e ∙ m)))

  pub sets-held : (n a : ℕ) → Held f n a (sets f n a)
  unfolding sets
  sets-held zero a = held-leaf a (f a) refl
  sets-held (suc n) a = held-combine n a (sets f n a) (sets f n (a + 2 ^ n)) (sets-held n a) (sets-held n (a + 2 ^ n))
