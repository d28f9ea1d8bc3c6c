-- The statement of the call: what its answer says, and which reply is right for every table, form and edition; and its conditions for a refusal.
use Rattle.std.specs.Prelude.{ℕ, false, List, ◌∷◌, Option, None, Some, Result}
use Rattle.theory.specs.Routes.{Route}
use Rattle.refusals.specs.declared.Refusal.{Refusal}
use Rattle.refusals.specs.Numbers.{reply_of}
use Rattle.refusals.specs.Rules.{Rule, rule, Reply, judge}
use Rattle.records.specs.Wire.{routes}
use Rattle.records.specs.declared.Form.{Form}
use Rattle.table.specs.Conditions.{TableCondition}
use Rattle.table.specs.TableRules.{table_rules}
use Rattle.special.specs.Editions.{is_edition, Edition, ranges_of}
use Rattle.special.specs.Ranges.{Place, nowhere, at, first_special}

-- The place that was found, or none.
abbrev pub place_of : Option ℕ → Place
place_of None = nowhere
place_of (Some i) = at i

-- It gives the index of the first record that lies in a range, or that there is none, or a refusal.
abbrev pub special_says : Result (Option ℕ) Refusal → Reply Place
special_says = reply_of place_of

-- The right reply for a map's table, read by the form, by a list of ranges.
abbrev pub ranges_reply : Form → List ℕ → List Route → Reply Place
ranges_reply form t ranges = judge (table_rules form false t) (first_special 32 ranges (routes t))

-- Rule 14, that the edition is known, then the rules 3 to 8 of a map's table.
unfoldable pub special_rules : Form → List ℕ → ℕ → List Rule
special_rules form t edition = rule 14 0 (is_edition edition) ∷ table_rules form false t

-- The right reply by the list of an edition.
abbrev pub special_reply : Form → List ℕ → ℕ → Reply Place
special_reply form t edition = judge (special_rules form t edition) (first_special 32 (ranges_of edition) (routes t))

-- 14: the edition is another than 5735 and 6890. 3 to 8: the table's, as a map.
pub data SpecialCondition (form : Form) (t : List ℕ) (edition : ℕ) : ℕ → ℕ → Type 0 where
  no_edition : (Edition edition → ⊥) → SpecialCondition form t edition 14 0
  of_table : {n i : ℕ} → TableCondition form false t n i → SpecialCondition form t edition n i
