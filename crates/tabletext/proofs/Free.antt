-- Laws of lists that are free of a byte: what stands before it and behind it where they are joined. Assumes nothing.
use mathlib.Core.Path.{◌≡◌, refl, ap, subst, ◌∙◌}
use mathlib.Core.Bool.{Bool, true, false, cond, ◌&&◌}
use mathlib.Core.List.{List, [], ◌∷◌, ◌++◌}
use Prim.Native.Nat.{ℕ, zero, suc, ◌+◌, ◌-◌, ◌<◌}
use native.Mathlib.Omega.{arith}
use borrow.Author.Tests.{lt-ltb, le-ltb, ltb-true, eqb-true}
use lib.Dec.{ltb, eqb}
use lib.ListN.{length, get_or, take, length-append, drop_of_length-le}
use lib.Seq.{take_all, take_at, drop-append-add}
use Rattle.tabletext.specs.Pieces.{is, place, has, up_to, behind, unblank}
use Rattle.tabletext.specs.Lines.{returns, unreturned}

-- No element is the byte b.
pub data Free (b : ℕ) : List ℕ → Type 0 where
  nil : Free b []
  cons : {x : ℕ} {s : List ℕ} → is b x ≡ false → Free b s → Free b (x ∷ s)

pub free_append : {b : ℕ} {s t : List ℕ} → Free b s → Free b t → Free b (s ++ t)
free_append nil q = q
free_append (cons e p) q = cons e (free_append p q)

-- An element is not it.
pub free_at : {b : ℕ} {s : List ℕ} (k : ℕ) → Free b s → k < length s → is b (get_or s k 0) ≡ false
free_at k nil h = absurd (omega arith)
free_at zero (cons e p) h = e
free_at (suc k) (cons e p) h = free_at k p (omega arith)

module _ (b : ℕ) where
  -- Its place is behind what is free of it.
  pub place_free : (s t : List ℕ) → Free b s → place b (s ++ t) ≡ length s + place b t
  unfolding place
  place_free [] t nil = omega arith
  place_free (x ∷ s) t (cons e p) = rw e (ap suc (place_free s t p) ∙ omega arith)

  place_stop : (x : ℕ) (t : List ℕ) → is b x ≡ true → place b (x ∷ t) ≡ 0
  unfolding place
  place_stop x t e = rw e

  -- Its place where it stands there.
  pub place-joined : (s : List ℕ) (x : ℕ) (t : List ℕ) → Free b s → is b x ≡ true → place b (s ++ (x ∷ t)) ≡ length s
  place-joined s x t p e = place_free s (x ∷ t) p ∙ rw (place_stop x t e) (omega arith)

  -- Its place where it does not stand at all.
  pub place_all : (s : List ℕ) → Free b s → place b s ≡ length s
  unfolding place
  place_all [] nil = refl
  place_all (x ∷ s) (cons e p) = rw e (ap suc (place_all s p))

  pub up_to-joined : (s : List ℕ) (x : ℕ) (t : List ℕ) → Free b s → is b x ≡ true → up_to b (s ++ (x ∷ t)) ≡ s
  unfolding up_to
  up_to-joined s x t p e = rw (place-joined s x t p e) (take_at s (x ∷ t) (length s) refl)

  pub up_to_all : (s : List ℕ) → Free b s → up_to b s ≡ s
  unfolding up_to
  up_to_all s p = rw (place_all s p) (take_all (length s) s (omega arith))

  pub behind-joined : (s : List ℕ) (x : ℕ) (t : List ℕ) → Free b s → is b x ≡ true → behind b (s ++ (x ∷ t)) ≡ t
  unfolding behind
  behind-joined s x t p e = rw (place-joined s x t p e) (drop-append-add s (x ∷ t) 1)

  pub behind_all : (s : List ℕ) → Free b s → behind b s ≡ []
  unfolding behind
  behind_all s p = rw (place_all s p) (drop_of_length-le s {i = length s + 1} (omega arith))

  pub has-joined : (s : List ℕ) (x : ℕ) (t : List ℕ) → Free b s → is b x ≡ true → has b (s ++ (x ∷ t)) ≡ true
  has-joined s x t p e =
      lt-ltb (place b (s ++ (x ∷ t))) (length (s ++ (x ∷ t))) (omega (arith, place-joined s x t p e, length-append s (x ∷ t)))

  pub has_none : (s : List ℕ) → Free b s → has b s ≡ false
  has_none s p = le-ltb (place b s) (length s) (omega (arith, place_all s p))

-- What begins without a blank is kept.
pub unblank-kept : (x : ℕ) (s : List ℕ) → is 32 x ≡ false → unblank (x ∷ s) ≡ x ∷ s
unfolding unblank
unblank-kept x s e = rw e

-- A line without a carriage return is kept.
pub unreturned_free : (l : List ℕ) → Free 13 l → unreturned l ≡ l
unfolding unreturned
unreturned_free l p = go (returns l) refl
  where
    first : (a b : Bool) → (a && b) ≡ true → (a ≡ true) × (b ≡ true)
    first true b e = (refl, e)
    first false b e = let z : ◌≡◌ {A = ℕ} 0 1 = cc in absurd (omega arith)

    go : (t : Bool) → returns l ≡ t → cond t (take (length l - 1) l) l ≡ l
    go true e =
        let both = first (ltb 0 (length l)) (eqb (get_or l (length l - 1) 0) 13) e in
        let some = ltb-true 0 (length l) both.0 in
        let free = free_at (length l - 1) p (omega arith) in
        let is_it : is 13 13 ≡ false = subst (λ (x : ℕ). is 13 x ≡ false) (eqb-true (get_or l (length l - 1) 0) 13 both.1) free in
        let z : ◌≡◌ {A = ℕ} 0 1 = cc in
        absurd (omega arith)
    go false e = refl
