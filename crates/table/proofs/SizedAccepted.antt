-- Judging a table by the rules 3 to 8 over the size of a record says what the facts say: it is accepted exactly when it keeps them, and refused exactly by the first
-- condition that holds. Assumes nothing.
use mathlib.Core.Path.{◌≡◌, refl}
use mathlib.Core.Bool.{Bool, true, false}
use mathlib.Core.List.{List}
use mathlib.Core.Logic.{◌↔◌}
use Prim.Native.Nat.{ℕ, ◌%◌, ◌≤◌}
use native.Mathlib.Decide.{dec_le}
use native.Mathlib.Omega.{arith}
use lib.Dec.{eqb}
use lib.ListN.{length}
use borrow.Author.Tests.{eqb-true, eq-eqb}
use Rattle.refusals.specs.Rules.{gives, refuses, judge}
use Rattle.refusals.specs.Order.{First, None}
use Rattle.refusals.proofs.Shown.{shown, decided}
use Rattle.refusals.proofs.Judged.{gives-exactly, refuses-exactly}
use Rattle.records.specs.Sized.{IsSize, records_in}
use Rattle.table.specs.SizedRules.{table_rules_in, top_hop}
use Rattle.table.specs.SizedConditions.{RecordConditionIn, too_long, host_bits, bad_tail, not_after, TableConditionIn, not_whole, too_many, of_record, KeptIn, AcceptedIn}
use Rattle.table.proofs.SizedTested.{in_length_shown, in_host_shown, in_tail_shown, in_order_shown, in_table_tests, in_table_ranked}

-- What can be decided holds if its contrary is impossible.
holds : {P : Type 0} → Dec P → ((P → ⊥) → ⊥) → P
holds (yes p) n = p
holds (no p) n = absurd (n p)

module _ (size : ℕ) (is : IsSize size) (strict s : Bool) (t : List ℕ) where
  record_kept : (i : ℕ) → ((n : ℕ) → RecordConditionIn size strict s t i n → ⊥) → KeptIn size strict s t i
  record_kept i none =
      record {
        length_kept = decided (in_length_shown size is t i) (λ f. none 5 (too_long f));
        host_kept = decided (in_host_shown size is strict t i) (λ f. none 6 (host_bits f));
        tail_kept = decided (in_tail_shown size is s t i) (λ f. none 7 (bad_tail f));
        order_kept = decided (in_order_shown size is t i) (λ f. none 8 (not_after f));
      }

  kept_record : (i : ℕ) → KeptIn size strict s t i → (n : ℕ) → RecordConditionIn size strict s t i n → ⊥
  kept_record i k n (too_long f) = f k.length_kept
  kept_record i k n (host_bits f) = f k.host_kept
  kept_record i k n (bad_tail f) = f k.tail_kept
  kept_record i k n (not_after f) = f k.order_kept

  accepted→none : AcceptedIn size strict s t → None (TableConditionIn size strict s t)
  accepted→none a n i (not_whole f) = f a.whole
  accepted→none a n i (too_many h) = omega (arith, a.few)
  accepted→none a n i (of_record h c) = kept_record i (a.each i h) n c

  none→accepted : None (TableConditionIn size strict s t) → AcceptedIn size strict s t
  none→accepted none =
      record {
        whole = decided (shown (eqb (length t % size) 0) (eqb-true (length t % size) 0) (eq-eqb (length t % size) 0)) (λ f. none 3 0 (not_whole f));
        few = holds (dec_le (records_in size t) 1024) (λ f. none 4 0 (too_many (omega arith)));
        each = λ i h. record_kept i (λ n c. none n i (of_record {n = n} {i = i} h c));
      }

  -- It keeps the rules exactly when none of the conditions holds.
  pub in_accepted_exactly : AcceptedIn size strict s t ↔ None (TableConditionIn size strict s t)
  in_accepted_exactly = (accepted→none, none→accepted)

  module _ {A : Type 0} (a : A) where
    -- A table that keeps the rules is accepted.
    pub in_not_refused : AcceptedIn size strict s t → judge (table_rules_in size strict s t) a ≡ gives a
    in_not_refused k = (gives-exactly (table_rules_in size strict s t) (in_table_tests size is strict s t) a).1 (accepted→none k, refl)

    -- A table is accepted exactly when it keeps the rules.
    pub in_accepted : {b : A} → judge (table_rules_in size strict s t) a ≡ gives b → AcceptedIn size strict s t
    in_accepted e = none→accepted ((gives-exactly (table_rules_in size strict s t) (in_table_tests size is strict s t) a).0 e).0

    -- A table is refused with a number and an index exactly when they are those of the first condition that holds.
    pub in_refused_exactly : (n i : ℕ) → judge (table_rules_in size strict s t) a ≡ refuses n i ↔ First (TableConditionIn size strict s t) n i
    in_refused_exactly = refuses-exactly (table_rules_in size strict s t) (in_table_tests size is strict s t) a (in_table_ranked size is strict s t).order

-- An accepted table, of a set or of a map, is an accepted map: hop 0 is a hop.
pub in_accepted_map : (size : ℕ) (strict s : Bool) (t : List ℕ) → AcceptedIn size strict s t → AcceptedIn size strict false t
in_accepted_map size strict s t a =
    record {
      whole = a.whole;
      few = a.few;
      each =
          λ i h.
          let k = a.each i h in
          record {
            length_kept = k.length_kept;
            host_kept = k.host_kept;
            tail_kept = (omega (arith, k.tail_kept.0, most s), k.tail_kept.1);
            order_kept = k.order_kept;
          };
    }
  where
    most : (s : Bool) → top_hop s ≤ 63
    most true = omega arith
    most false = omega arith
