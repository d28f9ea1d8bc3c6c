-- Any call that judges a table, of a set or of a map and and nothing else: `says` is what its answers say, `r` its answer, `a` the
-- value that it gives for an accepted table. Assumes nothing.
use mathlib.Core.Path.{◌≡◌}
use mathlib.Core.Bool.{Bool}
use mathlib.Core.List.{List}
use mathlib.Core.Logic.{◌↔◌}
use Prim.Native.Nat.{ℕ, ◌≤◌}
use Rattle.refusals.specs.Rules.{Reply, gives, refuses, judge}
use Rattle.refusals.specs.Order.{First}
use Rattle.refusals.proofs.Answered.{unique, given_exactly, refused_exactly, says_refused}
use Rattle.records.specs.Sized.{IsSize}
use Rattle.table.specs.SizedConditions.{TableConditionIn, AcceptedIn}
use Rattle.table.specs.SizedRules.{table_rules_in}
use Rattle.table.proofs.SizedAccepted.{in_accepted_exactly}
use Rattle.table.proofs.SizedTested.{in_table_tests, in_table_ranked, in_table_numbers}

module _ {R A : Type 0} (says : R → Reply A) (same : (b c : R) → says b ≡ says c → b ≡ c) (size : ℕ) (is : IsSize size) (strict s : Bool) (t : List ℕ) (a : A) where
  -- No second answer satisfies the statement.
  pub in_table_unique : (b c : R) → says b ≡ judge (table_rules_in size strict s t) a → says c ≡ judge (table_rules_in size strict s t) a → b ≡ c
  in_table_unique = unique says same (table_rules_in size strict s t) (in_table_tests size is strict s t) (in_table_ranked size is strict s t).order a

  module _ (r : R) (e : says r ≡ judge (table_rules_in size strict s t) a) where
    -- An answer that gives a value is given exactly for an accepted table, when the value is the right one.
    pub in_table_gives : (b : R) (v : A) → says b ≡ gives v → r ≡ b ↔ (AcceptedIn size strict s t × (a ≡ v))
    in_table_gives b v p =
        let exactly = given_exactly says same (table_rules_in size strict s t) (in_table_tests size is strict s t) (in_table_ranked size is strict s t).order a r e b v p in (
          λ q. let f = exactly.0 q in ((in_accepted_exactly size is strict s t).1 f.0, f.1),
          λ f. exactly.1 ((in_accepted_exactly size is strict s t).0 f.0, f.1),
        )

    -- A refusal is given exactly when its number and index are those of the first condition that holds.
    pub in_table_refuses : (b : R) (n i : ℕ) → says b ≡ refuses n i → r ≡ b ↔ First (TableConditionIn size strict s t) n i
    in_table_refuses = refused_exactly says same (table_rules_in size strict s t) (in_table_tests size is strict s t) (in_table_ranked size is strict s t).order a r e

    -- The same by what the answer says.
    pub in_table_says_refused : (n i : ℕ) → says r ≡ refuses n i ↔ First (TableConditionIn size strict s t) n i
    in_table_says_refused = says_refused says same (table_rules_in size strict s t) (in_table_tests size is strict s t) (in_table_ranked size is strict s t).order a r e

    -- It gives the numbers 3 to 8 alone.
    pub in_table_gives_numbers : (n i : ℕ) → says r ≡ refuses n i → (3 ≤ n) × (n ≤ 8)
    in_table_gives_numbers n i q = in_table_numbers size is strict s t n i ((in_table_says_refused n i).0 q).0
