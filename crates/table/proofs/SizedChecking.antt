-- What the check's statement over the size of a record settles: no second answer satisfies it, and each case of an answer stands for exactly these facts; and
-- what it says of host bits. The answer is any r of which the check's `ensures` holds. Assumes of a table, where it says so, that its elements are bytes.
use mathlib.Core.Path.{◌≡◌, refl, ap, ap₂}
use mathlib.Core.Bool.{Bool, true, false}
use mathlib.Core.List.{List}
use mathlib.Core.Logic.{◌↔◌}
use Prim.Native.Nat.{ℕ, ◌/◌}
use Rattle.std.specs.Prelude.{Result, Ok}
use Rattle.refusals.specs.Rules.{Rule, refuses, judge}
use Rattle.refusals.specs.declared.Refusal.{Refusal}
use Rattle.refusals.proofs.Replies.{reply_same}
use Rattle.refusals.specs.Order.{First}
use Rattle.records.specs.Sized.{IsSize, records_in, masked_in, Bytes}
use Rattle.table.specs.Checking.{checked_says, check_reply_in}
use Rattle.table.specs.SizedConditions.{TableConditionIn, AcceptedIn}
use Rattle.table.proofs.SizedAlone.{in_table_unique, in_table_gives, in_table_says_refused}
use Rattle.table.proofs.SizedMasking.{in_table_carried, in_masked_length, in_masked_rules}

-- Answers that say the same are the same.
pub checked_same : (a b : Result ℕ Refusal) → checked_says a ≡ checked_says b → a ≡ b
checked_same = reply_same (λ n. n) (λ m n e. e)

module _ (size : ℕ) (is : IsSize size) (strict s : Bool) (t : List ℕ) where
  -- No second answer satisfies the statement.
  pub in_check_unique : (a b : Result ℕ Refusal) → checked_says a ≡ check_reply_in size strict s t → checked_says b ≡ check_reply_in size strict s t → a ≡ b
  in_check_unique = in_table_unique checked_says checked_same size is strict s t (records_in size t)

  module _ (r : Result ℕ Refusal) (e : checked_says r ≡ check_reply_in size strict s t) where
    -- It answers the number of records exactly for an accepted table.
    pub in_check_valid_exactly : (n : ℕ) → r ≡ Ok n ↔ (AcceptedIn size strict s t × (records_in size t ≡ n))
    in_check_valid_exactly n = in_table_gives checked_says checked_same size is strict s t (records_in size t) r e (Ok n) n refl

    -- It answers a refusal exactly when its number and index are those of the first condition that holds.
    pub in_check_refused_exactly : (n i : ℕ) → checked_says r ≡ refuses n i ↔ First (TableConditionIn size strict s t) n i
    in_check_refused_exactly = in_table_says_refused checked_says checked_same size is strict s t (records_in size t) r e

-- ---- Host bits.

-- An answer under the strict choice is the default's wherever it is not refused by 6.
pub in_check_carried : (size : ℕ) (s : Bool) (t : List ℕ) (r q : Result ℕ Refusal) → checked_says r ≡ check_reply_in size true s t → checked_says q ≡ check_reply_in size false s t
    → ((i : ℕ) → checked_says r ≡ refuses 6 i → ⊥) → q ≡ r
in_check_carried size s t r q one other h =
    in_table_carried checked_says checked_same size s t (records_in size t) r q one other h

-- The masked bytes of a table that is accepted as one kind are checked, as either kind and under either choice, as the table is by default.
pub in_check_masked : (size : ℕ) → IsSize size → (strict s : Bool) (t : List ℕ) → Bytes t → AcceptedIn size strict s t → (other kind : Bool)
    → check_reply_in size other kind (masked_in size t) ≡ check_reply_in size false kind t
in_check_masked size is strict s t bytes ok other kind =
    ap₂ (λ (rules : List Rule) (n : ℕ). judge rules n) (in_masked_rules size is strict s t bytes ok other kind)
    (ap (λ (n : ℕ). n / size) (in_masked_length size is strict s t bytes ok))
