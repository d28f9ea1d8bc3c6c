-- Answers at each length that are an old table's or a new one's up to some length, and above it new's, or old's where new has none:
-- the best of them is old's or new's.
use Prim.Native.Nat.{ℕ, zero, suc, ◌≤◌, ◌<◌}
use mathlib.Core.Path.{◌≡◌, ap, ◌∙◌}
use mathlib.Core.Logic.{◌⊎◌, inl, inr}
use native.Mathlib.Decide.{dec_lt}
use native.Mathlib.Nat.{eq-or-lt_of_le}
use native.Mathlib.Omega.{arith}
use Rattle.theory.specs.Routes.{Answer, none, via}
use Rattle.positions.specs.Runs.{or_else}
use Rattle.steps.specs.Views.{best}
use Rattle.steps.proofs.Rungs.{best_alike}

pick : (v u m : Answer) → m ≡ or_else v u → (m ≡ u) ⊎ (m ≡ v)
pick none u m e = inl e
pick (via h) u m e = inr e

lift : (v u m i j k : Answer) → m ≡ or_else v u → (k ≡ i) ⊎ (k ≡ j) → (or_else m k ≡ or_else u i) ⊎ (or_else m k ≡ or_else v j)
lift (via h) u m i j k e ih = inr (ap (λ (a : Answer). or_else a k) e)
lift none (via h) m i j k e ih = inl (ap (λ (a : Answer). or_else a k) e)
lift none none m i j k e (inl p) = inl (ap (λ (a : Answer). or_else a k) e ∙ p)
lift none none m i j k e (inr p) = inr (ap (λ (a : Answer). or_else a k) e ∙ p)

module _ (old new m base : ℕ → Answer) (is : (base ≡ old) ⊎ (base ≡ new)) where
  alike : (n : ℕ) → best m n ≡ best base n → (best m n ≡ best old n) ⊎ (best m n ≡ best new n)
  alike n e = go is
    where
      go : (base ≡ old) ⊎ (base ≡ new) → (best m n ≡ best old n) ⊎ (best m n ≡ best new n)
      go (inl p) = inl (e ∙ ap (λ (f : ℕ → Answer). best f n) p)
      go (inr p) = inr (e ∙ ap (λ (f : ℕ → Answer). best f n) p)

  from : (c n : ℕ) → ((l : ℕ) → l < c → m l ≡ base l) → ((l : ℕ) → c ≤ l → m l ≡ or_else (new l) (old l))
      → (best m n ≡ best old n) ⊎ (best m n ≡ best new n)
  from c zero low high = go (dec_lt zero c)
    where
      go : Dec (zero < c) → (m zero ≡ old zero) ⊎ (m zero ≡ new zero)
      go (yes lt) = alike zero (low zero lt)
      go (no ge) = pick (new zero) (old zero) (m zero) (high zero (omega arith))
  from c (suc n) low high = go (dec_lt (suc n) c) (from c n low high)
    where
      go : Dec (suc n < c) → (best m n ≡ best old n) ⊎ (best m n ≡ best new n) → (best m (suc n) ≡ best old (suc n)) ⊎ (best m (suc n) ≡ best new (suc n))
      go (yes lt) ih = alike (suc n) (best_alike m base (suc n) (λ l le. low l (omega arith)))
      go (no ge) ih = lift (new (suc n)) (old (suc n)) (m (suc n)) (best old n) (best new n) (best m n) (high (suc n) (omega arith)) ih

  -- At the length k itself it may be either.
  pub blend : (k n : ℕ) → ((l : ℕ) → l < k → m l ≡ base l) → ((l : ℕ) → k < l → m l ≡ or_else (new l) (old l))
      → (m k ≡ base k) ⊎ (m k ≡ or_else (new k) (old k)) → (best m n ≡ best old n) ⊎ (best m n ≡ best new n)
  blend k n low high (inl e) = from (suc k) n (λ l lt. go l (eq-or-lt_of_le lt)) (λ l le. high l le)
    where
      go : (l : ℕ) → (suc l ≡ suc k) ⊎ (suc l < suc k) → m l ≡ base l
      go l (inl q) = let z : l ≡ k = omega arith in rw z e
      go l (inr lt) = low l (omega arith)
  blend k n low high (inr e) = from k n low (λ l le. go l (eq-or-lt_of_le le))
    where
      go : (l : ℕ) → (k ≡ l) ⊎ (k < l) → m l ≡ or_else (new l) (old l)
      go l (inl q) = rw q at e
      go l (inr lt) = high l lt
