-- Laws of judging a table by the rules 3 to 8 over the size of a record, one record after another. Assumes nothing.
use mathlib.Core.Path.{◌≡◌, refl, ap, ◌∙◌}
use mathlib.Core.Bool.{Bool, true, false}
use mathlib.Core.List.{List, [], ◌∷◌, ◌++◌}
use Prim.Native.Nat.{ℕ, zero, suc, ◌+◌, ◌-◌, ◌%◌, ◌≤◌, ◌<◌}
use native.Mathlib.Numerals.{add-one}
use native.Mathlib.Omega.{arith}
use lib.Dec.{leb}
use lib.ListN.{length}
use borrow.Author.Tests.{eq-eqb, ne_eqb, le-leb, lt-leb}
use Rattle.refusals.specs.Rules.{Rule, rule, gives, refuses, judge, broken}
use Rattle.records.specs.Sized.{width_in, route_in, records_in}
use Rattle.table.specs.SizedRules.{host_kept_in, tail_kept_in, in_order_in, record_rules_in, rules_from_in, table_rules_in, before}

-- ---- One record: rules 5 to 8 by the outcome of each.
abbrev four_rules : ℕ → Bool → Bool → Bool → Bool → List Rule
four_rules i p q r o = rule 5 i p ∷ rule 6 i q ∷ rule 7 i r ∷ rule 8 i o ∷ []

four_kept : {A : Type 0} (i : ℕ) (rs : List Rule) (a : A) (p q r o : Bool) → broken (four_rules i p q r o) ≡ 0
    → judge (four_rules i p q r o ++ rs) a ≡ judge rs a
unfolding judge broken
four_kept i rs a true true true true z = refl
four_kept i rs a true true true false z = absurd (omega arith)
four_kept i rs a true true false o z = absurd (omega arith)
four_kept i rs a true false r o z = absurd (omega arith)
four_kept i rs a false q r o z = absurd (omega arith)

four_broken : {A : Type 0} (i : ℕ) (rs : List Rule) (a : A) (p q r o : Bool) → (broken (four_rules i p q r o) ≡ 0 → ⊥)
    → judge (four_rules i p q r o ++ rs) a ≡ refuses (broken (four_rules i p q r o)) i
unfolding judge broken
four_broken i rs a true true true true z = absurd (z refl)
four_broken i rs a true true true false z = refl
four_broken i rs a true true false o z = refl
four_broken i rs a true false r o z = refl
four_broken i rs a false q r o z = refl

module _ {A : Type 0} (a : A) (size : ℕ) (strict s : Bool) (t : List ℕ) where
  -- ---- The records that are left, from record i on.
  -- A record that breaks no rule is passed.
  pub scan_good : (i k : ℕ) → 0 < k → broken (record_rules_in size strict s t i) ≡ 0 → judge (rules_from_in size strict s t i k) a ≡ judge (rules_from_in size strict s t (i + 1) (k - 1)) a
  unfolding rules_from_in record_rules_in
  scan_good i zero h z = absurd (omega arith)
  scan_good i (suc k) h z =
      let e : k ≡ suc k - 1 = omega arith in
      four_kept i (rules_from_in size strict s t (suc i) k) a (leb (route_in size t i).len (width_in size)) (host_kept_in size strict t i) (tail_kept_in size s t i) (in_order_in size t i) z
      ∙ rw add-one (ap (λ (n : ℕ). judge (rules_from_in size strict s t (suc i) n) a) e)

  -- A record that breaks a rule refuses with the first that it breaks.
  pub scan_bad : (i k : ℕ) → 0 < k → (broken (record_rules_in size strict s t i) ≡ 0 → ⊥) → judge (rules_from_in size strict s t i k) a ≡ refuses (broken (record_rules_in size strict s t i)) i
  unfolding rules_from_in record_rules_in
  scan_bad i zero h n = absurd (omega arith)
  scan_bad i (suc k) h n =
      four_broken i (rules_from_in size strict s t (suc i) k) a (leb (route_in size t i).len (width_in size)) (host_kept_in size strict t i) (tail_kept_in size s t i) (in_order_in size t i) n

  -- No record is left.
  pub scan_end : (i k : ℕ) → k ≡ 0 → judge (rules_from_in size strict s t i k) a ≡ gives a
  unfolding judge rules_from_in
  scan_end i k e = rw e

  -- ---- The whole table.
  -- Number 3.
  pub not_whole : (length t % size ≡ 0 → ⊥) → judge (table_rules_in size strict s t) a ≡ refuses 3 0
  unfolding judge table_rules_in
  not_whole n = simp (ne_eqb (length t % size) 0 n)

  -- Number 4.
  pub too_many : length t % size ≡ 0 → 1024 < records_in size t → judge (table_rules_in size strict s t) a ≡ refuses 4 0
  unfolding judge table_rules_in
  too_many e h = simp (eq-eqb (length t % size) 0 e, lt-leb (records_in size t) 1024 h)

  -- Past 3 and 4 the records decide.
  pub is_scan : length t % size ≡ 0 → records_in size t ≤ 1024 → judge (table_rules_in size strict s t) a ≡ judge (rules_from_in size strict s t 0 (records_in size t)) a
  unfolding judge table_rules_in
  is_scan e h = simp (eq-eqb (length t % size) 0 e, le-leb (records_in size t) 1024 h)

-- A record that is not the first is in order when the one before it stands before it.
pub in_order_next : (size : ℕ) (t : List ℕ) (i : ℕ) → (i ≡ 0 → ⊥) → before (route_in size t (i - 1)) (route_in size t i) ≡ in_order_in size t i
in_order_next size t zero n = absurd (n refl)
in_order_next size t (suc i) n =
    let e : suc i - 1 ≡ i = omega arith in
    ap (λ (j : ℕ). before (route_in size t j) (route_in size t (suc i))) e
