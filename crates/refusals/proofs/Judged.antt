-- Judging by a list of rules that stand in the order of the checks: it refuses by the first condition that holds, and gives where none holds.
-- Assumes nothing.
use mathlib.Core.Path.{◌≡◌, refl, sym, ap, ◌∙◌}
use mathlib.Core.Bool.{Bool, true, false}
use mathlib.Core.List.{List, [], ◌∷◌, ◌++◌}
use mathlib.Core.Logic.{◌⊎◌, inl, inr, ⊎_elim, ◌↔◌}
use Prim.Native.Nat.{ℕ, ◌<◌}
use native.Mathlib.Omega.{arith}
use Rattle.refusals.specs.Rules.{Rule, rule, gives, refuses, judge}
use Rattle.refusals.specs.Order.{rank, Earlier, First, None}

-- A rule of the list with number n and index i is not kept.
abbrev pub Broken : List Rule → ℕ → ℕ → Type 0
Broken [] n i = ⊥
Broken (r ∷ rs) n i = ((r.kept ≡ false) × (r.number ≡ n) × (r.index ≡ i)) ⊎ Broken rs n i

-- Of two rules that are not kept, the one in front is checked first.
abbrev pub InOrder : List Rule → Type 0
InOrder [] = Unit {0}
InOrder (r ∷ rs) = (r.kept ≡ false → (n i : ℕ) → Broken rs n i → Earlier r.number r.index n i) × InOrder rs

-- Of two, only one is before the other.
earlier_one : (p q i j m n : ℕ) → (p < q) ⊎ ((p ≡ q) × ((i < j) ⊎ ((i ≡ j) × (m < n)))) → (q < p) ⊎ ((q ≡ p) × ((j < i) ⊎ ((j ≡ i) × (n < m)))) → ⊥
earlier_one p q i j m n (inl a) (inl b) = omega arith
earlier_one p q i j m n (inl a) (inr b) = omega (arith, b.0)
earlier_one p q i j m n (inr a) (inl b) = omega (arith, a.0)
earlier_one p q i j m n (inr (a, inl c)) (inr (b, inl d)) = omega arith
earlier_one p q i j m n (inr (a, inl c)) (inr (b, inr d)) = omega arith
earlier_one p q i j m n (inr (a, inr c)) (inr (b, inl d)) = omega arith
earlier_one p q i j m n (inr (a, inr c)) (inr (b, inr d)) = omega arith

pub earlier_not : (m i n j : ℕ) → Earlier m i n j → Earlier n j m i → ⊥
earlier_not m i n j = earlier_one (rank m) (rank n) i j m n

module _ {A : Type 0} (a : A) where
  -- A list gives exactly when all its rules are kept.
  gives→none : (rs : List Rule) {b : A} → judge rs a ≡ gives b → None (Broken rs)
  unfolding judge
  gives→none [] e n i z = z
  gives→none (r ∷ rs) {b} e n i z = go r.kept refl z (λ q. gives→none rs q n i)
    where
      go : (k : Bool) → r.kept ≡ k → Broken (r ∷ rs) n i → (judge rs a ≡ gives b → Broken rs n i → ⊥) → ⊥
      go true p (inl h) more = let y : ◌≡◌ {A = ℕ} 0 1 = cc h.0 in omega arith
      go true p (inr h) more = more (rw p at e) h
      go false p h more = let y : ◌≡◌ {A = ℕ} 0 1 = cc (rw p at e) in omega arith

  none→gives : (rs : List Rule) → None (Broken rs) → judge rs a ≡ gives a
  unfolding judge
  none→gives [] h = refl
  none→gives (r ∷ rs) h = go r.kept refl (none→gives rs (λ n i b. h n i (inr b)))
    where
      go : (k : Bool) → r.kept ≡ k → judge rs a ≡ gives a → judge (r ∷ rs) a ≡ gives a
      go true p more = rw p more
      go false p more = absurd (h r.number r.index (inl (p, refl, refl)))

  -- It refuses by a rule exactly when that is the first that is not kept.
  refuses→first : (rs : List Rule) → InOrder rs → (n i : ℕ) → judge rs a ≡ refuses n i → First (Broken rs) n i
  unfolding judge
  refuses→first [] o n i e = let y : ◌≡◌ {A = ℕ} 0 1 = cc in absurd (omega arith)
  refuses→first (r ∷ rs) (later, o) n i e = go r.kept refl (refuses→first rs o n i)
    where
      go : (k : Bool) → r.kept ≡ k → (judge rs a ≡ refuses n i → First (Broken rs) n i) → First (Broken (r ∷ rs)) n i
      go true p more =
          let f = more (rw p at e) in
          (inr f.0, λ m j l b. ⊎_elim (λ h. let y : ◌≡◌ {A = ℕ} 0 1 = cc h.0 in omega arith) (f.1 m j l) b)
      go false p more =
          let f = rw p at e in
          let en : r.number ≡ n = cc in
          let ei : r.index ≡ i = cc in (
            inl (p, en, ei),
            λ m j l b.
                ⊎_elim (λ h. earlier_not n i n i (here m j l (sym h.1 ∙ en) (sym h.2 ∙ ei)) (here m j l (sym h.1 ∙ en) (sym h.2 ∙ ei)))
                (λ h. earlier_not m j n i l (rw (en, ei) at (later p m j h))) b,
          )
        where
          here : (m j : ℕ) → Earlier m j n i → m ≡ n → j ≡ i → Earlier n i n i
          here m j l q s = rw (q, s) at l

  first→refuses : (rs : List Rule) → InOrder rs → (n i : ℕ) → First (Broken rs) n i → judge rs a ≡ refuses n i
  unfolding judge
  first→refuses [] o n i f = absurd f.0
  first→refuses (r ∷ rs) (later, o) n i f = go r.kept refl f.0 (first→refuses rs o n i)
    where
      go : (k : Bool) → r.kept ≡ k → Broken (r ∷ rs) n i → (First (Broken rs) n i → judge rs a ≡ refuses n i) → judge (r ∷ rs) a ≡ refuses n i
      go true p (inl h) more = let y : ◌≡◌ {A = ℕ} 0 1 = cc h.0 in absurd (omega arith)
      go true p (inr h) more = rw p (more (h, λ m j l b. f.1 m j l (inr b)))
      go false p (inl h) more = rw (p, h.1, h.2)
      go false p (inr h) more = absurd (f.1 r.number r.index (later p n i h) (inl (p, refl, refl)))

-- ---- The same by what the rules are about: `Holds` are the conditions that the rules test.
module _ {Holds : ℕ → ℕ → Type 0} (rs : List Rule) (tests : (n i : ℕ) → Broken rs n i ↔ Holds n i) {A : Type 0} (a : A) where
  -- It gives the value exactly when no condition holds.
  pub gives-exactly : {b : A} → judge rs a ≡ gives b ↔ (None Holds × (a ≡ b))
  gives-exactly {b} = (
    λ e.
        let none = gives→none a rs e in
        let f = none→gives a rs none in
        (λ n i h. none n i ((tests n i).1 h), cc),
    λ h. none→gives a rs (λ n i b. h.0 n i ((tests n i).0 b)) ∙ ap gives h.1,
  )

  -- It refuses exactly by the first condition that holds.
  pub refuses-exactly : InOrder rs → (n i : ℕ) → judge rs a ≡ refuses n i ↔ First Holds n i
  refuses-exactly order n i = (
    λ e. let f = refuses→first a rs order n i e in ((tests n i).0 f.0, λ m j l h. f.1 m j l ((tests m j).1 h)),
    λ f. first→refuses a rs order n i ((tests n i).1 f.0, λ m j l b. f.1 m j l ((tests m j).0 b)),
  )

-- ---- Any list of rules: whether it refuses, and how, does not depend on the value.
-- One value given, any is given.
pub gives_any : {A B : Type 0} (rs : List Rule) (a c : A) (b : B) → judge rs a ≡ gives c → judge rs b ≡ gives b
unfolding judge
gives_any [] a c b e = refl
gives_any (r ∷ rs) a c b e = go r.kept refl (gives_any rs a c b)
  where
    go : (k : Bool) → r.kept ≡ k → (judge rs a ≡ gives c → judge rs b ≡ gives b) → judge (r ∷ rs) b ≡ gives b
    go true p more = rw p (more (rw p at e))
    go false p more = let z : ◌≡◌ {A = ℕ} 0 1 = cc (rw p at e) in absurd (omega arith)

-- One value refused, any is refused alike.
pub refuses_any : {A B : Type 0} (rs : List Rule) (a : A) (b : B) (n i : ℕ) → judge rs a ≡ refuses n i → judge rs b ≡ refuses n i
unfolding judge
refuses_any [] a b n i e = let z : ◌≡◌ {A = ℕ} 0 1 = cc in absurd (omega arith)
refuses_any (r ∷ rs) a b n i e = go r.kept refl (refuses_any rs a b n i)
  where
    go : (k : Bool) → r.kept ≡ k → (judge rs a ≡ refuses n i → judge rs b ≡ refuses n i) → judge (r ∷ rs) b ≡ refuses n i
    go true p more = rw p (more (rw p at e))
    go false p more = let f = rw p at e in rw p (cc)

-- ---- Judging by some rules and then by more.

module _ {A : Type 0} (a : A) where
  -- A rule that is kept is passed.
  pub kept_next : {b : Bool} (n i : ℕ) (rs : List Rule) → b ≡ true → judge (rule n i b ∷ rs) a ≡ judge rs a
  unfolding judge
  kept_next n i rs e = rw e

  -- One that is not refuses.
  pub broken-here : {b : Bool} (n i : ℕ) (rs : List Rule) → b ≡ false → judge (rule n i b ∷ rs) a ≡ refuses n i
  unfolding judge
  broken-here n i rs e = rw e

  module _ {B : Type 0} (b : B) where
    -- Rules that are all kept are passed.
    pub all_next : {c : B} (rs more : List Rule) → judge rs b ≡ gives c → judge (rs ++ more) a ≡ judge more a
    unfolding judge
    all_next [] more e = refl
    all_next {c} (r ∷ rs) more e = go r.kept refl (all_next {c = c} rs more)
      where
        go : (k : Bool) → r.kept ≡ k → (judge rs b ≡ gives c → judge (rs ++ more) a ≡ judge more a) → judge (r ∷ (rs ++ more)) a ≡ judge more a
        go true p on = rw p (on (rw p at e))
        go false p on = let z : ◌≡◌ {A = ℕ} 0 1 = cc (rw p at e) in absurd (omega arith)

    -- Rules that refuse do so whatever follows.
    pub some-here : (n i : ℕ) (rs more : List Rule) → judge rs b ≡ refuses n i → judge (rs ++ more) a ≡ refuses n i
    unfolding judge
    some-here n i [] more e = let z : ◌≡◌ {A = ℕ} 0 1 = cc in absurd (omega arith)
    some-here n i (r ∷ rs) more e = go r.kept refl (some-here n i rs more)
      where
        go : (k : Bool) → r.kept ≡ k → (judge rs b ≡ refuses n i → judge (rs ++ more) a ≡ refuses n i) → judge (r ∷ (rs ++ more)) a ≡ refuses n i
        go true p on = rw p (on (rw p at e))
        go false p on = let f = rw p at e in rw p (cc)
