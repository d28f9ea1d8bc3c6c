-- A number that is waived: its rules are taken as kept, and whatever it does not refuse is answered as before. Assumes nothing.
use mathlib.Core.Path.{◌≡◌, refl, sym, ap, ◌∙◌}
use mathlib.Core.Bool.{Bool, true, false, ◌||◌}
use mathlib.Core.List.{List, [], ◌∷◌, ◌++◌}
use Prim.Native.Nat.{ℕ}
use lib.Dec.{eqb}
use borrow.Author.Tests.{eqb-true}
use Rattle.refusals.specs.Rules.{Rule, rule, Reply, refuses, judge}

-- The rules with those of number n taken as kept.
abbrev pub waived : ℕ → List Rule → List Rule
waived n [] = []
waived n (r ∷ rs) = rule r.number r.index (eqb r.number n || r.kept) ∷ waived n rs

-- Lists of rules, one behind the other.
pub waived_append : (n : ℕ) (rs qs : List Rule) → waived n (rs ++ qs) ≡ waived n rs ++ waived n qs
waived_append n [] qs = refl
waived_append n (r ∷ rs) qs = ap (λ (l : List Rule). rule r.number r.index (eqb r.number n || r.kept) ∷ l) (waived_append n rs qs)

-- A reply that does not refuse by the number stays.
pub waived_judge : {A : Type 0} (n : ℕ) (rs : List Rule) (a : A) → ((i : ℕ) → judge rs a ≡ refuses n i → ⊥) → judge (waived n rs) a ≡ judge rs a
unfolding judge
waived_judge n [] a h = refl
waived_judge {A} n (r ∷ rs) a h = go r.kept refl (eqb r.number n) refl (waived_judge n rs a)
  where
    go : (k : Bool) → r.kept ≡ k → (b : Bool) → eqb r.number n ≡ b
        → (((i : ℕ) → judge rs a ≡ refuses n i → ⊥) → judge (waived n rs) a ≡ judge rs a)
        → judge (waived n (r ∷ rs)) a ≡ judge (r ∷ rs) a
    go true p true q more = rw (p, q) (more (λ i e. h i (rw p e)))
    go true p false q more = rw (p, q) (more (λ i e. h i (rw p e)))
    go false p true q more = absurd (h r.index (rw (p, eqb-true r.number n q)))
    go false p false q more = rw (p, q)

-- Any call whose answers say the reply of judging by a list of rules: where it does not refuse by the number, the call with that number waived
-- answers the same.
module _ {R A : Type 0} (says : R → Reply A) (same : (b c : R) → says b ≡ says c → b ≡ c) (n : ℕ) (rs : List Rule) (a : A) (r q : R)
    (one : says r ≡ judge rs a) (other : says q ≡ judge (waived n rs) a) where
  pub waived_answer : ((i : ℕ) → says r ≡ refuses n i → ⊥) → q ≡ r
  waived_answer h = same q r (other ∙ waived_judge n rs a (λ i e. h i (one ∙ e)) ∙ sym one)
