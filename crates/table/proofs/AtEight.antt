-- The theorems on a table's check for records of 8 bytes, as the calls that stay at 32 bits cite them: those over the size at this size. A form says the
-- choice on host bits. Assumes nothing.
use mathlib.Core.Path.{◌≡◌}
use mathlib.Core.Bool.{Bool, false}
use mathlib.Core.List.{List}
use mathlib.Core.Logic.{◌↔◌}
use Prim.Native.Nat.{ℕ, ◌*◌, ◌≤◌}
use lib.ListN.{length}
use Rattle.theory.specs.Routes.{Route}
use Rattle.refusals.specs.Rules.{Reply, gives, refuses, judge}
use Rattle.refusals.specs.Order.{First, None}
use Rattle.refusals.proofs.Waived.{waived}
use Rattle.refusals.proofs.Judged.{Broken}
use Rattle.refusals.proofs.Ranked.{Ranked}
use Rattle.records.specs.Wire.{records, routes, bytes_of, masked_bytes}
use Rattle.records.specs.Sized.{Bytes}
use Rattle.records.specs.declared.Form.{Form}
use Rattle.records.specs.Forms.{by_default, strictly}
use Rattle.records.proofs.Reading.{eight}
use Rattle.table.specs.TableRules.{table_rules}
use Rattle.table.specs.Conditions.{TableCondition, Accepted, Lawful}
use Rattle.table.proofs.SizedTested as tested
use Rattle.table.proofs.SizedAccepted as kept
use Rattle.table.proofs.SizedTables as tables
use Rattle.table.proofs.SizedMasking as masking
use Rattle.table.proofs.SizedAlone as alone

module _ (form : Form) (s : Bool) (t : List ℕ) where
  -- ---- The rules and the facts.
  pub table_tests : (n i : ℕ) → Broken (table_rules form s t) n i ↔ TableCondition form s t n i
  table_tests = tested.in_table_tests 8 eight form.strict s t

  pub table_ranked : Ranked 4 7 (table_rules form s t)
  table_ranked = tested.in_table_ranked 8 eight form.strict s t

  pub table-numbers : (n i : ℕ) → TableCondition form s t n i → (3 ≤ n) × (n ≤ 8)
  table-numbers = tested.in_table_numbers 8 eight form.strict s t

  pub accepted-exactly : Accepted form s t ↔ None (TableCondition form s t)
  accepted-exactly = kept.in_accepted_exactly 8 eight form.strict s t

  pub accepted-map : Accepted form s t → Accepted form false t
  accepted-map = kept.in_accepted_map 8 form.strict s t

  module _ {A : Type 0} (a : A) where
    pub not_refused : Accepted form s t → judge (table_rules form s t) a ≡ gives a
    not_refused = kept.in_not_refused 8 eight form.strict s t a

    pub accepted : {b : A} → judge (table_rules form s t) a ≡ gives b → Accepted form s t
    accepted = kept.in_accepted 8 eight form.strict s t a

    pub refused_exactly : (n i : ℕ) → judge (table_rules form s t) a ≡ refuses n i ↔ First (TableCondition form s t) n i
    refused_exactly = kept.in_refused_exactly 8 eight form.strict s t a

-- ---- Bytes and routes.
pub accepted-table : {A : Type 0} (a b : A) (form : Form) (s : Bool) (t : List ℕ) → Bytes t → judge (table_rules form s t) a ≡ gives b
    → Lawful s (routes t) × (length (routes t) ≡ records t) × (length t ≡ 8 * length (routes t))
accepted-table a b form s t bytes ok = tables.in_accepted_table 8 eight form.strict s t bytes a b ok

pub bytes-routes : {A : Type 0} (a b : A) (s : Bool) (t : List ℕ) → Bytes t → judge (table_rules strictly s t) a ≡ gives b → bytes_of (routes t) ≡ t
bytes-routes = tables.in_bytes_routes 8 eight

pub accepted-written : (form : Form) (s : Bool) (rs : List Route) → Lawful s rs → Accepted form s (bytes_of rs)
accepted-written form s rs l = tables.in_accepted_written 8 eight form.strict s rs l

pub table-accepted : {A : Type 0} (a : A) (form : Form) (s : Bool) (rs : List Route) → Lawful s rs → judge (table_rules form s (bytes_of rs)) a ≡ gives a
table-accepted a form s rs l = tables.in_table_accepted 8 eight a form.strict s rs l

-- ---- Host bits.
pub strict_waived : (s : Bool) (t : List ℕ) → waived 6 (table_rules strictly s t) ≡ table_rules by_default s t
strict_waived = masking.in_strict_waived 8

pub table_carried : {R A : Type 0} (says : R → Reply A) → ((b c : R) → says b ≡ says c → b ≡ c) → (s : Bool) (t : List ℕ) (a : A) (r q : R)
    → says r ≡ judge (table_rules strictly s t) a → says q ≡ judge (table_rules by_default s t) a
    → ((i : ℕ) → says r ≡ refuses 6 i → ⊥) → q ≡ r
table_carried says same = masking.in_table_carried says same 8

pub accepted_default : (form : Form) (s : Bool) (t : List ℕ) → Accepted form s t → Accepted by_default s t
accepted_default form = masking.in_accepted_default 8 form.strict

pub accepted_any : (form : Form) (s : Bool) (t : List ℕ) → Accepted strictly s t → Accepted form s t
accepted_any form = masking.in_accepted_any 8 form.strict

module _ (form : Form) (s : Bool) (t : List ℕ) (bytes : Bytes t) (ok : Accepted form s t) where
  pub masked-routes : routes (masked_bytes t) ≡ routes t
  masked-routes = masking.in_masked_routes 8 eight form.strict s t bytes ok

  pub masked-length : length (masked_bytes t) ≡ length t
  masked-length = masking.in_masked_length 8 eight form.strict s t bytes ok

  pub masked_small : Bytes (masked_bytes t)
  masked_small = masking.in_masked_small 8 eight form.strict s t bytes ok

  pub masked-accepted : (other : Form) → Accepted other s (masked_bytes t)
  masked-accepted other = masking.in_masked_accepted 8 eight form.strict s t bytes ok other.strict

  pub masked_rules : (other : Form) (kind : Bool) → table_rules other kind (masked_bytes t) ≡ table_rules by_default kind t
  masked_rules other = masking.in_masked_rules 8 eight form.strict s t bytes ok other.strict

-- ---- Any call that judges a table and nothing else.
module _ {R A : Type 0} (says : R → Reply A) (same : (b c : R) → says b ≡ says c → b ≡ c) (form : Form) (s : Bool) (t : List ℕ) (a : A) where
  pub table_unique : (b c : R) → says b ≡ judge (table_rules form s t) a → says c ≡ judge (table_rules form s t) a → b ≡ c
  table_unique = alone.in_table_unique says same 8 eight form.strict s t a

  module _ (r : R) (e : says r ≡ judge (table_rules form s t) a) where
    pub table-gives : (b : R) (v : A) → says b ≡ gives v → r ≡ b ↔ (Accepted form s t × (a ≡ v))
    table-gives = alone.in_table_gives says same 8 eight form.strict s t a r e

    pub table-refuses : (b : R) (n i : ℕ) → says b ≡ refuses n i → r ≡ b ↔ First (TableCondition form s t) n i
    table-refuses = alone.in_table_refuses says same 8 eight form.strict s t a r e

    pub table-says-refused : (n i : ℕ) → says r ≡ refuses n i ↔ First (TableCondition form s t) n i
    table-says-refused = alone.in_table_says_refused says same 8 eight form.strict s t a r e

    pub table-gives-numbers : (n i : ℕ) → says r ≡ refuses n i → (3 ≤ n) × (n ≤ 8)
    table-gives-numbers = alone.in_table_gives_numbers says same 8 eight form.strict s t a r e
