-- The lists of the editions are accepted tables, by one test that the checker computes; and the reply for an edition is that for its list. Assumes nothing.
use mathlib.Core.Path.{◌≡◌, refl, sym, ap, ap₂, ◌∙◌}
use mathlib.Core.Bool.{true, false, ◌||◌}
use mathlib.Core.List.{List}
use mathlib.Core.Logic.{inl, inr, ⊎_elim}
use native.Mathlib.Decide.{ℕ_discrete}
use Prim.Native.Nat.{ℕ}
use borrow.Author.Tests.{ne_eqb}
use Rattle.theory.specs.Routes.{Route, Table}
use Rattle.refusals.specs.Rules.{gives, refuses, judge}
use Rattle.refusals.proofs.Judged.{kept_next, broken-here}
use Rattle.records.specs.Wire.{records, routes, bytes_of}
use Rattle.records.specs.declared.Form.{Form}
use Rattle.records.specs.Forms.{strictly}
use Rattle.records.proofs.Octets.{octets, all_bytes}
use Rattle.table.specs.Checking.{check_reply}
use Rattle.table.specs.Conditions.{Accepted}
use Rattle.table.specs.TableRules.{table_rules}
use Rattle.table.proofs.AtEight.{accepted}
use Rattle.table.proofs.AtEight.{accepted-table}
use Rattle.records.specs.Sized.{octets_of, record_in, bytes_in, clear, number, raw_in, route_in, routes_from_in, routes_in}
use Rattle.table.specs.SizedRules.{record_rules_in, rules_from_in, table_rules_in}
use Rattle.special.specs.Calls.{ranges_reply, special_rules, special_reply}
use Rattle.special.specs.Editions.{rfc5735, rfc6890, is_edition, Edition, ranges_of}
use Rattle.special.specs.Ranges.{Ranges}

-- ---- The test.

-- The check of a list's records, as a strict set, gives their number; they are bytes; and they read as the list.
abbrev Sound : List Route → Type 0
Sound ranges =
    (check_reply strictly true (bytes_of ranges) ≡ gives (records (bytes_of ranges))) × (octets (bytes_of ranges) ≡ true)
    × (routes (bytes_of ranges) ≡ ranges)

tested : Sound rfc5735 × Sound rfc6890
unfolding judge table_rules_in rules_from_in record_rules_in raw_in route_in routes_from_in routes_in bytes_in record_in octets_of rfc5735 rfc6890 clear number
tested = ((refl, refl, refl), (refl, refl, refl))

-- ---- The editions.
module _ (edition : ℕ) where
  sound : Edition edition → Sound (ranges_of edition)
  sound (inl e) = rw e tested.0
  sound (inr e) = rw e tested.1

  -- The list of an edition is an accepted table, even of a set and under the strict choice;
  pub list_accepted : Edition edition → Accepted strictly true (bytes_of (ranges_of edition))
  list_accepted is = accepted strictly true (bytes_of (ranges_of edition)) (records (bytes_of (ranges_of edition))) (sound is).0

  -- its records read as its ranges;
  pub list_reads : Edition edition → routes (bytes_of (ranges_of edition)) ≡ ranges_of edition
  list_reads is = (sound is).2

  -- these are a table;
  pub list_table : Edition edition → Table 32 (ranges_of edition)
  list_table is =
      let list = bytes_of (ranges_of edition) in
      rw (list_reads is) at (accepted-table (records list) (records list) strictly true list (all_bytes list (sound is).1) (sound is).0).0.table

  -- and rule 14 is kept exactly for an edition.
  pub edition_kept : Edition edition → is_edition edition ≡ true
  edition_kept (inl e) = rw e
  edition_kept (inr e) = rw e

  pub edition_failed : (Edition edition → ⊥) → is_edition edition ≡ false
  edition_failed n = ap₂ ◌||◌ (ne_eqb edition 5735 (λ e. n (inl e))) (ne_eqb edition 6890 (λ e. n (inr e)))

  -- A number that cannot be any other is an edition.
  pub edition_is : ((Edition edition → ⊥) → ⊥) → Edition edition
  edition_is n = go (ℕ_discrete edition 5735) (ℕ_discrete edition 6890)
    where
      go : Dec (edition ≡ 5735) → Dec (edition ≡ 6890) → Edition edition
      go (yes e) d = inl e
      go (no f) (yes e) = inr e
      go (no f) (no g) = absurd (n (⊎_elim f g))

  module _ (is : Edition edition) (list : List ℕ) (same : list ≡ bytes_of (ranges_of edition)) where
    -- No length of its list is above 32.
    pub list_ranges : Ranges list
    list_ranges = rw same (λ i h. ((list_accepted is).each i h).length_kept)

    -- The reply for a table by its list is that for the edition.
    pub reply-listed : (form : Form) (t : List ℕ) → ranges_reply form t (routes list) ≡ special_reply form t edition
    unfolding special_rules
    reply-listed form t =
        ap (ranges_reply form t) (ap routes same ∙ list_reads is)
        ∙ sym (kept_next _ 14 0 (table_rules form false t) (edition_kept is))

  -- Any other number is refused.
  pub reply_unknown : (form : Form) (t : List ℕ) → (Edition edition → ⊥) → special_reply form t edition ≡ refuses 14 0
  unfolding special_rules
  reply_unknown form t n = broken-here _ 14 0 (table_rules form false t) (edition_failed n)
