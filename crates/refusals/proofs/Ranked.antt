-- How a call's rules are shown to stand in the order of the checks, and to test their conditions: list by list, whatever their lengths. Assumes nothing.
use mathlib.Core.Path.{◌≡◌, refl, subst}
use mathlib.Core.Bool.{Bool, true, false, ◌||◌, ◌&&◌, and-eq-true_iff}
use mathlib.Core.List.{List, [], ◌∷◌, ◌++◌}
use mathlib.Core.Logic.{◌⊎◌, inl, inr, ⊎_elim}
use Prim.Native.Nat.{ℕ, suc, ◌≤◌, ◌<◌}
use native.Mathlib.Omega.{arith}
use lib.Dec.{leb, ltb, eqb}
use borrow.Author.Tests.{leb-true, ltb-true, eqb-true}
use Rattle.refusals.specs.Rules.{Rule}
use Rattle.refusals.specs.Order.{rank, Earlier}
use Rattle.refusals.proofs.Judged.{Broken, InOrder}

-- What holds of a number and an index holds of equal ones.
pub at : (Holds : ℕ → ℕ → Type 0) {m n i j : ℕ} → m ≡ n → i ≡ j → Holds m i → Holds n j
at Holds {m} {n} {i} {j} p q h = subst (Holds n) q (subst (λ (k : ℕ). Holds k i) p h)

-- ---- Lists of rules, one behind the other.
pub broken-append : (rs qs : List Rule) (n i : ℕ) → Broken (rs ++ qs) n i → Broken rs n i ⊎ Broken qs n i
broken-append [] qs n i b = inr b
broken-append (r ∷ rs) qs n i (inl b) = inl (inl b)
broken-append (r ∷ rs) qs n i (inr b) = ⊎_elim (λ c. inl (inr c)) (λ c. inr c) (broken-append rs qs n i b)

pub broken-left : (rs qs : List Rule) (n i : ℕ) → Broken rs n i → Broken (rs ++ qs) n i
broken-left [] qs n i b = absurd b
broken-left (r ∷ rs) qs n i (inl b) = inl b
broken-left (r ∷ rs) qs n i (inr b) = inr (broken-left rs qs n i b)

pub broken-right : (rs qs : List Rule) (n i : ℕ) → Broken qs n i → Broken (rs ++ qs) n i
broken-right [] qs n i b = b
broken-right (r ∷ rs) qs n i b = inr (broken-right rs qs n i b)

pub in_order_append : (rs qs : List Rule) → InOrder rs → InOrder qs → ((m i n j : ℕ) → Broken rs m i → Broken qs n j → Earlier m i n j) → InOrder (rs ++ qs)
in_order_append [] qs a b h = b
in_order_append (r ∷ rs) qs (front, a) b h = (
  λ p n j c. ⊎_elim (front p n j) (h r.number r.index n j (inl (p, refl, refl))) (broken-append rs qs n j c),
  in_order_append rs qs a b (λ m i n j c d. h m i n j (inr c) d),
)

-- ---- Their conditions.
-- Each rule that is not kept has a condition that holds.
abbrev pub Sound : (ℕ → ℕ → Type 0) → List Rule → Type 0
Sound Holds rs = (n i : ℕ) → Broken rs n i → Holds n i

-- Each rule of a list has its condition, if it is not kept.
abbrev pub Each : (ℕ → ℕ → Type 0) → List Rule → Type 0
Each Holds [] = Unit {0}
Each Holds (r ∷ rs) = (r.kept ≡ false → Holds r.number r.index) × Each Holds rs

pub sound-each : (Holds : ℕ → ℕ → Type 0) (rs : List Rule) → Each Holds rs → Sound Holds rs
sound-each Holds [] h n i b = absurd b
sound-each Holds (r ∷ rs) h n i (inl b) = at Holds b.1 b.2 (h.0 b.0)
sound-each Holds (r ∷ rs) h n i (inr b) = sound-each Holds rs h.1 n i b

-- Two lists.
pub sound-append : (Holds : ℕ → ℕ → Type 0) (rs qs : List Rule) → Sound Holds rs → Sound Holds qs → Sound Holds (rs ++ qs)
sound-append Holds rs qs a b n i c = ⊎_elim (a n i) (b n i) (broken-append rs qs n i c)

-- ---- Their order.
-- The rules stand in order, and the ranks of those that are not kept lie from p to below q.
pub record Ranked (p q : ℕ) (rs : List Rule) : Type 0 where
  pub order : InOrder rs
  pub from : (n i : ℕ) → Broken rs n i → p ≤ rank n
  pub below : (n i : ℕ) → Broken rs n i → rank n < q

-- Lists whose ranks follow each other stand in order, one behind the other.
pub ranked_append : (p q r : ℕ) (rs qs : List Rule) → p ≤ q → q ≤ r → Ranked p q rs → Ranked q r qs → Ranked p r (rs ++ qs)
ranked_append p q r rs qs l h a b =
    record {
      order =
          in_order_append rs qs a.order b.order
          (λ m i n j c d. let e = a.below m i c in let f = b.from n j d in inl (omega arith));
      from = sound-append (λ n i. p ≤ rank n) rs qs a.from (λ n i c. let f = b.from n i c in omega arith);
      below = sound-append (λ n i. rank n < r) rs qs (λ n i c. let e = a.below n i c in omega arith) b.below;
    }

-- Single rules by rising ranks, from p to below q.
abbrev pub rising : ℕ → ℕ → List Rule → Bool
rising p q [] = leb p q
rising p q (r ∷ rs) = leb p (rank r.number) && rising (suc (rank r.number)) q rs

-- They stand in order.
pub singles : (p q : ℕ) (rs : List Rule) → rising p q rs ≡ true → (p ≤ q) × Ranked p q rs
singles p q [] e = (leb-true p q e, record { order = tt; from = λ n i b. absurd b; below = λ n i b. absurd b })
singles p q (r ∷ rs) e =
    let k = rank r.number in
    let both = (and-eq-true_iff (leb p k) (rising (suc k) q rs)).0 e in
    let low : p ≤ k = leb-true p k both.0 in
    let more = singles (suc k) q rs both.1 in
    let high : suc k ≤ q = more.0 in
    let from : (n i : ℕ) → Broken rs n i → suc k ≤ rank n = more.1.from in (
      omega arith,
      record {
        order = (λ kept n i b. let f = from n i b in inl (omega arith), more.1.order);
        from =
            λ n i b.
            ⊎_elim (λ h. at (λ m j. p ≤ rank m) h.1 h.2 low) (λ h. let f = from n i h in omega arith) b;
        below = λ n i b. ⊎_elim (λ h. at (λ m j. rank m < q) h.1 h.2 (omega arith)) (more.1.below n i) b;
      },
    )

-- Is a rule checked before each of a list: by its rank or, in one rank and at one index, by its number?
abbrev pub ahead : Rule → List Rule → Bool
ahead r [] = true
ahead r (s ∷ rs) =
    (ltb (rank r.number) (rank s.number)
    || (eqb (rank r.number) (rank s.number) && (eqb r.index s.index && ltb r.number s.number)))
    && ahead r rs

abbrev pub all_ahead : List Rule → Bool
all_ahead [] = true
all_ahead (r ∷ rs) = ahead r rs && all_ahead rs

ahead_earlier : (r : Rule) (rs : List Rule) → ahead r rs ≡ true → (n i : ℕ) → Broken rs n i → Earlier r.number r.index n i
ahead_earlier r [] e n i b = absurd b
ahead_earlier r (s ∷ rs) e n i b =
    let m = rank r.number in
    let k = rank s.number in
    let both = (and-eq-true_iff (ltb m k || (eqb m k && (eqb r.index s.index && ltb r.number s.number))) (ahead r rs)).0 e in
    ⊎_elim (λ h. at (Earlier r.number r.index) h.1 h.2 (go (ltb m k) refl both.0)) (ahead_earlier r rs both.1 n i) b
  where
    go : (c : Bool) → ltb (rank r.number) (rank s.number) ≡ c
        → (c || (eqb (rank r.number) (rank s.number) && (eqb r.index s.index && ltb r.number s.number))) ≡ true
        → Earlier r.number r.index s.number s.index
    go true p q = inl (ltb-true (rank r.number) (rank s.number) p)
    go false p q =
        let u = (and-eq-true_iff (eqb (rank r.number) (rank s.number)) (eqb r.index s.index && ltb r.number s.number)).0 q in
        let v = (and-eq-true_iff (eqb r.index s.index) (ltb r.number s.number)).0 u.1 in
        inr (eqb-true (rank r.number) (rank s.number) u.0, inr (eqb-true r.index s.index v.0, ltb-true r.number s.number v.1))

-- Such rules stand in order.
pub ahead_in_order : (rs : List Rule) → all_ahead rs ≡ true → InOrder rs
ahead_in_order [] e = tt
ahead_in_order (r ∷ rs) e =
    let both = (and-eq-true_iff (ahead r rs) (all_ahead rs)).0 e in
    (λ kept. ahead_earlier r rs both.0, ahead_in_order rs both.1)
