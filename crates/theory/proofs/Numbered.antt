-- Lists of routes by number: what such a list says of each number, a list taken apart, and the part of one that is one itself.
use Prim.Native.Nat.{ℕ, zero, suc, ◌+◌, ◌-◌, ◌≤◌, ◌<◌}
use mathlib.Core.Path.{◌≡◌, refl, sym, ap, ap₂, subst, ◌∙◌}
use mathlib.Core.Bool.{Bool, true, false}
use mathlib.Core.List.{List, [], ◌∷◌, ◌++◌, append-nil}
use mathlib.Core.Logic.{◌⊎◌, inl, inr}
use native.Mathlib.Decide.{dec_lt}
use native.Mathlib.Nat.{zero-add, suc-add, add-zero, add-suc, eq-or-lt_of_le}
use native.Mathlib.Omega.{arith}
use Rattle.theory.specs.Results.{part}
use Rattle.theory.specs.Routes.{Route, All, nil, cons, Before, Ascending, Member, head, later}
use Rattle.theory.specs.Falling.{Ordered, next}
use Rattle.theory.proofs.Lists.{all_member}
use Rattle.theory.proofs.Ordered.{no_member, ascending_ordered, OneWay}
use Rattle.theory.proofs.Parts.{part-whole, part_none, part-append}

-- The routes of k numbers from lo on.
abbrev pub counted : (ℕ → Route) → ℕ → ℕ → List Route
counted at lo zero = []
counted at lo (suc k) = at lo ∷ counted at (suc lo) k

-- The routes of the numbers lo..hi.
abbrev pub numbered : (ℕ → Route) → ℕ → ℕ → List Route
numbered at lo hi = counted at lo (hi - lo)

module _ (at : ℕ → Route) where
  -- ---- By how many they are.
  member-counted : (lo k i : ℕ) → lo ≤ i → i < lo + k → Member (at i) (counted at lo k)
  member-counted lo zero i le lt = absurd (omega arith)
  member-counted lo (suc k) i le lt = go (eq-or-lt_of_le le) (member-counted (suc lo) k i)
    where
      go : (lo ≡ i) ⊎ (lo < i) → (suc lo ≤ i → i < suc lo + k → Member (at i) (counted at (suc lo) k))
          → Member (at i) (at lo ∷ counted at (suc lo) k)
      go (inl e) more = subst (λ (n : ℕ). Member (at n) (at lo ∷ counted at (suc lo) k)) e head
      go (inr h) more = later (more h (omega arith))

  all_counted : {P : Route → Type 0} (lo k : ℕ) → ((i : ℕ) → lo ≤ i → i < lo + k → P (at i)) → All P (counted at lo k)
  all_counted lo zero p = nil
  all_counted lo (suc k) p = cons (p lo (omega arith) (omega arith)) (all_counted (suc lo) k (λ i l h. p i (omega arith) (omega arith)))

  counted-member : (lo k : ℕ) {r : Route} → Member r (counted at lo k) → (i : ℕ) × (lo ≤ i) × (i < lo + k) × (at i ≡ r)
  counted-member lo zero m = absurd (no_member m)
  counted-member lo (suc k) head = (lo, omega arith, omega arith, refl)
  counted-member lo (suc k) (later m) = let z = counted-member (suc lo) k m in (z.0, omega (arith, z.1), omega (arith, z.2), z.3)

  ordered_counted : {Goes : Route → Route → Type 0} (lo k i j : ℕ) → Ordered Goes (counted at lo k) → lo ≤ i → i < j → j < lo + k → Goes (at i) (at j)
  ordered_counted lo zero i j o le lt h = absurd (omega arith)
  ordered_counted {Goes} lo (suc k) i j (next b o) le lt h = go (eq-or-lt_of_le le) (λ l. ordered_counted (suc lo) k i j o l lt (omega arith))
    where
      go : (lo ≡ i) ⊎ (lo < i) → (suc lo ≤ i → Goes (at i) (at j)) → Goes (at i) (at j)
      go (inl e) more = subst (λ (n : ℕ). Goes (at n) (at j)) e (all_member b (member-counted (suc lo) k j (omega arith) (omega arith)))
      go (inr l) more = more l

  append-counted : (lo k n : ℕ) → counted at lo (k + n) ≡ counted at lo k ++ counted at (lo + k) n
  append-counted lo zero n = rw (zero-add, add-zero)
  append-counted lo (suc k) n =
      rw (suc-add k n) (ap (λ (u : List Route). at lo ∷ u) (append-counted (suc lo) k n ∙ rw (suc-add lo k, add-suc lo k)))

  -- ---- By the first number and the one after the last.

  -- The route of each number is a member.
  pub member_numbered : (lo hi i : ℕ) → lo ≤ i → i < hi → Member (at i) (numbered at lo hi)
  member_numbered lo hi i le lt = member-counted lo (hi - lo) i le (omega arith)

  -- Each member is the route of a number.
  pub numbered_member : (lo hi : ℕ) {r : Route} → Member r (numbered at lo hi) → (i : ℕ) × (lo ≤ i) × (i < hi) × (at i ≡ r)
  numbered_member lo hi m = let z = counted-member lo (hi - lo) m in (z.0, z.1, omega (arith, z.1, z.2), z.3)

  -- What holds of the route of each number holds of all.
  pub all_numbered : {P : Route → Type 0} (lo hi : ℕ) → ((i : ℕ) → lo ≤ i → i < hi → P (at i)) → All P (numbered at lo hi)
  all_numbered lo hi p = all_counted lo (hi - lo) (λ i l h. p i l (omega arith))

  -- Routes in an order stand by their numbers.
  pub ordered_numbered : {Goes : Route → Route → Type 0} (lo hi i j : ℕ) → Ordered Goes (numbered at lo hi) → lo ≤ i → i < j → j < hi → Goes (at i) (at j)
  ordered_numbered lo hi i j o le lt h = ordered_counted lo (hi - lo) i j o le lt (omega arith)

  -- So do ascending ones.
  pub before_numbered : (lo hi i j : ℕ) → Ascending (numbered at lo hi) → lo ≤ i → i < j → j < hi → Before (at i) (at j)
  before_numbered lo hi i j o = ordered_numbered lo hi i j (ascending_ordered o)

  -- Each of them has one number alone.
  pub numbered_once : {Goes : Route → Route → Type 0} → OneWay Goes → (lo hi i j : ℕ) → Ordered Goes (numbered at lo hi)
      → lo ≤ i → i < hi → lo ≤ j → j < hi → at i ≡ at j → i ≡ j
  numbered_once {Goes} way lo hi i j o li hi' lj hj e = go (dec_lt i j) (dec_lt j i)
    where
      both : (a b : Route) → a ≡ b → Goes a b → ⊥
      both a b e g = let here : Goes b b = subst (λ (u : Route). Goes u b) e g in way b b here here

      go : Dec (i < j) → Dec (j < i) → i ≡ j
      go (yes lt) d = absurd (both (at i) (at j) e (ordered_numbered lo hi i j o li lt hj))
      go (no p) (yes lt) = absurd (both (at j) (at i) (sym e) (ordered_numbered lo hi j i o lj lt hi'))
      go (no p) (no q) = omega arith

  -- A list that ends where it starts, or before, is empty.
  pub none_numbered : (lo hi : ℕ) → hi ≤ lo → numbered at lo hi ≡ []
  none_numbered lo hi le = let e : hi - lo ≡ 0 = omega arith in rw e

  -- One that does not has its first.
  pub first_numbered : (lo hi : ℕ) → lo < hi → numbered at lo hi ≡ at lo ∷ numbered at (suc lo) hi
  first_numbered lo hi lt = let e : hi - lo ≡ suc (hi - suc lo) = omega arith in rw e

  -- A list is its routes up to a number between, then those from there.
  pub split_numbered : (lo i hi : ℕ) → lo ≤ i → i ≤ hi → numbered at lo hi ≡ numbered at lo i ++ numbered at i hi
  split_numbered lo i hi le ge =
      let e : hi - lo ≡ (i - lo) + (hi - i) = omega arith in
      let f : lo + (i - lo) ≡ i = omega arith in
      ap (counted at lo) e ∙ append-counted lo (i - lo) (hi - i) ∙ ap (λ (n : ℕ). counted at lo (i - lo) ++ counted at n (hi - i)) f

  -- ---- The part of a list that is one.

  module _ (p : Route → Bool) where
    part_numbered_none : (lo hi : ℕ) → ((i : ℕ) → lo ≤ i → i < hi → p (at i) ≡ false) → part p (numbered at lo hi) ≡ []
    part_numbered_none lo hi h = part_none p (numbered at lo hi) (λ r m. all_member (all_numbered {P = λ s. p s ≡ false} lo hi h) m)

    -- A test that the routes of i..j pass, and no others.
    pub part_numbered : (lo i j hi : ℕ) → lo ≤ i → i ≤ j → j ≤ hi → ((k : ℕ) → i ≤ k → k < j → p (at k) ≡ true)
        → ((k : ℕ) → lo ≤ k → k < hi → ((i ≤ k) × (k < j) → ⊥) → p (at k) ≡ false) → part p (numbered at lo hi) ≡ numbered at i j
    part_numbered lo i j hi a b c pass fail =
        ap (part p) (split_numbered lo i hi a (omega arith) ∙ ap (λ (u : List Route). numbered at lo i ++ u) (split_numbered i j hi b c))
        ∙ part-append p (numbered at lo i) (numbered at i j ++ numbered at j hi)
        ∙ ap₂ ◌++◌ (part_numbered_none lo i (λ k l h. fail k l (omega arith) (λ z. omega arith))) (part-append p (numbered at i j) (numbered at j hi))
        ∙ ap₂ ◌++◌ (part-whole p (numbered at i j) (λ r m. all_member (all_numbered {P = λ s. p s ≡ true} i j pass) m))
        (part_numbered_none j hi (λ k l h. fail k (omega arith) h (λ z. omega arith)))
        ∙ append-nil (numbered at i j)
