-- Runs of a table's records: what a property of the run says of each record, a run taken apart, and the part of a run that is a run itself.
use Prim.Native.Nat.{ℕ, zero, suc, ◌+◌, ◌-◌, ◌≤◌, ◌<◌}
use mathlib.Core.Path.{◌≡◌, sym, ap, ap₂, subst, ◌∙◌}
use mathlib.Core.Bool.{Bool, true, false}
use mathlib.Core.List.{List, [], ◌∷◌, ◌++◌, append-nil}
use mathlib.Core.Logic.{◌⊎◌, inl, inr}
use native.Mathlib.Nat.{zero-add, suc-add, add-zero, add-suc, eq-or-lt_of_le}
use native.Mathlib.Decide.{dec_lt}
use native.Mathlib.Omega.{arith}
use lib.Dec.{ltb}
use borrow.Author.Tests.{lt-ltb, le-ltb}
use Rattle.theory.specs.Results.{part}
use Rattle.theory.specs.Routes.{Route, All, nil, cons, Before, Ascending, first, Member, head, later}
use Rattle.theory.proofs.Lists.{all_member}
use Rattle.theory.proofs.Parts.{part-whole, part_none, part-append}
use Rattle.records.specs.Sized.{routes_from_in}
use Rattle.positions.specs.Wide.{widened}
use Rattle.nodes.specs.Node.{spare, wide_at, run}
use Rattle.gather.specs.Gathered.{some}

-- ---- By the number of records.

-- The k records from lo on, as wide routes.
abbrev span : ℕ → List ℕ → ℕ → ℕ → List Route
span size t lo k = widened (spare size) (routes_from_in size t lo k)

member_span : (size : ℕ) (t : List ℕ) (lo k i : ℕ) → lo ≤ i → i < lo + k → Member (wide_at size t i) (span size t lo k)
unfolding routes_from_in
member_span size t lo zero i le lt = absurd (omega arith)
member_span size t lo (suc k) i le lt = go (eq-or-lt_of_le le) (member_span size t (suc lo) k i)
  where
    go : (lo ≡ i) ⊎ (lo < i) → (suc lo ≤ i → i < suc lo + k → Member (wide_at size t i) (span size t (suc lo) k))
        → Member (wide_at size t i) (wide_at size t lo ∷ span size t (suc lo) k)
    go (inl e) ih = subst (λ (n : ℕ). Member (wide_at size t n) (wide_at size t lo ∷ span size t (suc lo) k)) e head
    go (inr h) ih = later (ih h (omega arith))

all_span : {P : Route → Type 0} (size : ℕ) (t : List ℕ) (lo k : ℕ) → ((i : ℕ) → lo ≤ i → i < lo + k → P (wide_at size t i)) → All P (span size t lo k)
unfolding routes_from_in
all_span size t lo zero p = nil
all_span size t lo (suc k) p = cons (p lo (omega arith) (omega arith)) (all_span size t (suc lo) k (λ i l h. p i (omega arith) (omega arith)))

before_span : (size : ℕ) (t : List ℕ) (lo k i j : ℕ) → Ascending (span size t lo k) → lo ≤ i → i < j → j < lo + k
    → Before (wide_at size t i) (wide_at size t j)
unfolding routes_from_in
before_span size t lo zero i j o le lt h = absurd (omega arith)
before_span size t lo (suc k) i j (first b o) le lt h = go (eq-or-lt_of_le le) (λ l. before_span size t (suc lo) k i j o l lt (omega arith))
  where
    go : (lo ≡ i) ⊎ (lo < i) → (suc lo ≤ i → Before (wide_at size t i) (wide_at size t j)) → Before (wide_at size t i) (wide_at size t j)
    go (inl e) ih = subst (λ (n : ℕ). Before (wide_at size t n) (wide_at size t j)) e (all_member b (member_span size t (suc lo) k j (omega arith) (omega arith)))
    go (inr l) ih = ih l

append_span : (size : ℕ) (t : List ℕ) (lo k n : ℕ) → span size t lo (k + n) ≡ span size t lo k ++ span size t (lo + k) n
unfolding routes_from_in
append_span size t lo zero n = rw (zero-add, add-zero)
append_span size t lo (suc k) n =
    rw (suc-add k n) (ap (λ (u : List Route). wide_at size t lo ∷ u) (append_span size t (suc lo) k n ∙ rw (suc-add lo k, add-suc lo k)))

-- ---- By the first record and the one after the last.

-- Each record of a run is a member of it.
pub member-run : (size : ℕ) (t : List ℕ) (lo hi i : ℕ) → lo ≤ i → i < hi → Member (wide_at size t i) (run size t lo hi)
member-run size t lo hi i le lt = member_span size t lo (hi - lo) i le (omega arith)

-- What holds of each record of a run holds of all of it.
pub all_run : {P : Route → Type 0} (size : ℕ) (t : List ℕ) (lo hi : ℕ) → ((i : ℕ) → lo ≤ i → i < hi → P (wide_at size t i)) → All P (run size t lo hi)
all_run size t lo hi p = all_span size t lo (hi - lo) (λ i l h. p i l (omega arith))

-- The records of an ascending run stand in the order of their numbers.
pub before-run : (size : ℕ) (t : List ℕ) (lo hi i j : ℕ) → Ascending (run size t lo hi) → lo ≤ i → i < j → j < hi
    → Before (wide_at size t i) (wide_at size t j)
before-run size t lo hi i j o le lt h = before_span size t lo (hi - lo) i j o le lt (omega arith)

-- A run that ends where it starts, or before, has no records.
pub run_none : (size : ℕ) (t : List ℕ) (lo hi : ℕ) → hi ≤ lo → run size t lo hi ≡ []
unfolding routes_from_in
run_none size t lo hi le = let e : hi - lo ≡ 0 = omega arith in rw e

-- A run that does not has its first.
pub run-first : (size : ℕ) (t : List ℕ) (lo hi : ℕ) → lo < hi → run size t lo hi ≡ wide_at size t lo ∷ run size t (suc lo) hi
unfolding routes_from_in
run-first size t lo hi lt = let e : hi - lo ≡ suc (hi - suc lo) = omega arith in rw e

-- A run is its records up to one between, then those from there.
pub run_split : (size : ℕ) (t : List ℕ) (lo i hi : ℕ) → lo ≤ i → i ≤ hi → run size t lo hi ≡ run size t lo i ++ run size t i hi
run_split size t lo i hi le ge =
    let e : hi - lo ≡ (i - lo) + (hi - i) = omega arith in
    let f : lo + (i - lo) ≡ i = omega arith in
    ap (span size t lo) e ∙ append_span size t lo (i - lo) (hi - i) ∙ ap (λ (n : ℕ). span size t lo (i - lo) ++ span size t n (hi - i)) f

-- There is a record exactly when the run ends after it starts.
pub some-run : (size : ℕ) (t : List ℕ) (lo hi : ℕ) → some (run size t lo hi) ≡ ltb lo hi
some-run size t lo hi = go (dec_lt lo hi)
  where
    go : Dec (lo < hi) → some (run size t lo hi) ≡ ltb lo hi
    go (yes lt) = ap some (run-first size t lo hi lt) ∙ sym (lt-ltb lo hi lt)
    go (no ge) = let h : hi ≤ lo = omega arith in ap some (run_none size t lo hi h) ∙ sym (le-ltb lo hi h)

-- ---- The part of a run that is a run.

module _ (size : ℕ) (t : List ℕ) (p : Route → Bool) where
  -- A test that none of the records passes.
  pub part-run_none : (lo hi : ℕ) → ((i : ℕ) → lo ≤ i → i < hi → p (wide_at size t i) ≡ false) → part p (run size t lo hi) ≡ []
  part-run_none lo hi h = part_none p (run size t lo hi) (λ r m. all_member (all_run {P = λ s. p s ≡ false} size t lo hi h) m)

  -- A test that the records i..j pass, and no others.
  pub part-run : (lo i j hi : ℕ) → lo ≤ i → i ≤ j → j ≤ hi → ((k : ℕ) → i ≤ k → k < j → p (wide_at size t k) ≡ true)
      → ((k : ℕ) → lo ≤ k → k < hi → ((i ≤ k) × (k < j) → ⊥) → p (wide_at size t k) ≡ false) → part p (run size t lo hi) ≡ run size t i j
  part-run lo i j hi a b c pass fail =
      ap (part p) (run_split size t lo i hi a (omega arith) ∙ ap (λ (u : List Route). run size t lo i ++ u) (run_split size t i j hi b c))
      ∙ part-append p (run size t lo i) (run size t i j ++ run size t j hi)
      ∙ ap₂ ◌++◌ (part-run_none lo i (λ k l h. fail k l (omega arith) (λ z. omega arith))) (part-append p (run size t i j) (run size t j hi))
      ∙ ap₂ ◌++◌ (part-whole p (run size t i j) (λ r m. all_member (all_run {P = λ s. p s ≡ true} size t i j pass) m))
      (part-run_none j hi (λ k l h. fail k (omega arith) h (λ z. omega arith)))
      ∙ append-nil (run size t i j)
