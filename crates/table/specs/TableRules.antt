-- The rules 3 to 8 for a table of records of 8 bytes, and for one that is read by a form: those of SizedRules at these sizes.
use Rattle.std.specs.Prelude.{ℕ, Bool, List}
use Rattle.refusals.specs.Rules.{Rule}
use Rattle.records.specs.declared.Form.{Form}
use Rattle.records.specs.Forms.{size_of}
use Rattle.table.specs.SizedRules.{record_rules_in, rules_from_in, table_rules_in}

-- ---- At 8 bytes, whatever the form says of the size.

-- Rules 5 to 8 for record i.
abbrev pub record_rules : Form → Bool → List ℕ → ℕ → List Rule
record_rules form is_set t i = record_rules_in 8 form.strict is_set t i

-- The same for k records from record i on, record by record.
abbrev pub rules_from : Form → Bool → List ℕ → ℕ → ℕ → List Rule
rules_from form is_set t i k = rules_from_in 8 form.strict is_set t i k

-- Rules 3 to 8 for a table, of a set or of a map.
abbrev pub table_rules : Form → Bool → List ℕ → List Rule
table_rules form is_set t = table_rules_in 8 form.strict is_set t

-- ---- At the form's size.

-- Rules 3 to 8 for a table, of a set or of a map, read by the form.
abbrev pub form_rules : Form → Bool → List ℕ → List Rule
form_rules form is_set t = table_rules_in (size_of form) form.strict is_set t
