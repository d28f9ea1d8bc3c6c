-- How many routes a rewrite has: at each position one where the hop above is no candidate; and what is assigned there is best for its halves.
use Prim.Native.Nat.{ℕ, ◌+◌, ◌-◌, ◌≤◌}
use mathlib.Core.Path.{◌≡◌, refl, ap}
use mathlib.Core.Bool.{Bool, true, false, cond, ◌||◌, ◌&&◌}
use mathlib.Core.List.{List, [], ◌∷◌}
use native.Mathlib.Omega.{arith}
use lib.ListN.{length}
use borrow.Author.Tests.{eq-eqb}
use Rattle.theory.specs.Shapes.{Some}
use Rattle.theory.specs.Results.{union, common, Cand, hole, of, leaf, or_union, combine, allowed, Chooses, assigned, here}
use Rattle.theory.specs.Routes.{Route, Answer, none, via}
use Rattle.theory.proofs.Hops.{has-union, has-common, some-chosen, Held}

-- 1 for a test that fails.
abbrev cost : Bool → ℕ
cost b = cond b 0 1

-- 1 where the hop above is no candidate.
abbrev pub missing : Answer → Cand → ℕ
missing g hole = 0
missing g (of s) = cost (allowed g s)

-- A test costs 1 at most.
cost_most : (b : Bool) → cost b ≤ 1
cost_most true = omega arith
cost_most false = omega arith

-- Two tests cost what either and both cost, and either costs no more than both.
cost_sum : (p q : Bool) → cost p + cost q ≡ cost (p || q) + cost (p && q)
cost_sum true q = refl
cost_sum false true = refl
cost_sum false false = refl

cost_or : (p q : Bool) → cost (p || q) ≤ cost (p && q)
cost_or true q = omega arith
cost_or false q = cost_most q

-- So does a hop.
pub missing_most : (g : Answer) (S : Cand) → missing g S ≤ 1
missing_most g hole = omega arith
missing_most g (of s) = cost_most (allowed g s)

-- A hop is its own candidate.
pub missing_leaf : (v : Answer) → missing v (leaf v) ≡ 0
missing_leaf none = refl
missing_leaf (via h) = rw (eq-eqb h h refl)

-- A hop is in a union where it is in either set, and in an intersection where it is in both.
allowed-union : (g : Answer) (s t : List ℕ) → allowed g (union s t) ≡ (allowed g s || allowed g t)
allowed-union none s t = refl
allowed-union (via h) s t = has-union h s t

allowed-common : (g : Answer) (s t : List ℕ) → allowed g (common s t) ≡ (allowed g s && allowed g t)
allowed-common none s t = refl
allowed-common (via h) s t = has-common h s t

-- Of two sets a hop misses what it misses of their union and their intersection c, and of the union no more than of c.
module _ (g : Answer) (s t c : List ℕ) (e : common s t ≡ c) where
  missing_sum : missing g (of s) + missing g (of t) ≡ missing g (of (union s t)) + missing g (of c)
  missing_sum = rw (← e, allowed-union g s t, allowed-common g s t) (cost_sum (allowed g s) (allowed g t))

  missing_or : missing g (of (union s t)) ≤ missing g (of c)
  missing_or = rw (← e, allowed-union g s t, allowed-common g s t) (cost_or (allowed g s) (allowed g t))

-- It misses the empty set.
missing_empty : (g : Answer) → missing g (of []) ≡ 1
missing_empty none = refl
missing_empty (via h) = refl

module _ (choose : List ℕ → ℕ) where
  -- A position has an entry where the hop above is missing.
  pub here-length : (w : ℕ) (S : Cand) (n a : ℕ) (above : Answer) → length (here choose w S n a above) ≡ missing above S
  here-length w hole n a above = refl
  here-length w (of s) n a above = go (allowed above s)
    where
      go : (b : Bool) → length {A = Route} (cond b [] (record { addr = a; len = w - n; hop = choose s } ∷ [])) ≡ cost b
      go true = refl
      go false = refl

  module _ (law : Chooses choose) where
    -- The hop assigned is a candidate.
    taken : (s : List ℕ) (above : Answer) → Some s → missing (assigned choose (of s) above) (of s) ≡ 0
    taken s above p = go (allowed above s) refl
      where
        go : (b : Bool) → allowed above s ≡ b → cost (allowed (cond b above (via (choose s))) s) ≡ 0
        go true e = ap cost e
        go false e = ap cost (some-chosen choose law s p)

    -- No hop g is better for the two halves than the one assigned: g misses of them what that misses of them, and what g misses of the whole.
    pub assigned-best : (f : ℕ → Answer) (n a : ℕ) (S R : Cand) (above g : Answer) → Held f n a (combine S R) → (combine S R ≡ hole → g ≡ none)
        → missing g (combine S R) + (missing (assigned choose (combine S R) above) S + missing (assigned choose (combine S R) above) R)
        ≤ missing g S + missing g R
    assigned-best f n a hole R above g h none' = rw (none' refl) (omega arith)
    assigned-best f n a (of s) hole above g h none' = rw (none' refl) (omega arith)
    assigned-best f n a (of s) (of t) above g h none' = go (common s t) refl h.0
      where
        go : (c : List ℕ) → common s t ≡ c → Some (or_union c s t)
            → missing g (of (or_union c s t))
            + (missing (assigned choose (of (or_union c s t)) above) (of s) + missing (assigned choose (of (or_union c s t)) above) (of t))
            ≤ missing g (of s) + missing g (of t)
        go [] e p =
            let u : Answer = assigned choose (of (union s t)) above in
            omega (arith, taken (union s t) above p, missing_sum u s t [] e, missing_sum g s t [] e, missing_empty u, missing_empty g)
        go (k ∷ c) e p =
            let u : Answer = assigned choose (of (k ∷ c)) above in
            omega (arith, taken (k ∷ c) above p, missing_sum u s t (k ∷ c) e, missing_or u s t (k ∷ c) e, missing_sum g s t (k ∷ c) e)
