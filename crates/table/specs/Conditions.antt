-- What the rules 3 to 8 mean, as facts, for a table of records of 8 bytes and for one that is read by a form: those of SizedConditions at these sizes.
use Rattle.std.specs.Prelude.{ℕ, Bool, List}
use Rattle.theory.specs.Routes.{Route}
use Rattle.records.specs.declared.Form.{Form}
use Rattle.records.specs.Forms.{size_of}
use Rattle.table.specs.SizedConditions.{TableConditionIn, AcceptedIn, LawfulIn}

-- ---- At 8 bytes, whatever the form says of the size.

-- The conditions for a refusal.
abbrev pub TableCondition : Form → Bool → List ℕ → ℕ → ℕ → Type 0
TableCondition form is_set t n i = TableConditionIn 8 form.strict is_set t n i

-- It keeps the rules 3 to 8: none of these conditions holds.
abbrev pub Accepted : Form → Bool → List ℕ → Type 0
Accepted form is_set t = AcceptedIn 8 form.strict is_set t

-- What the routes of an accepted table keep.
abbrev pub Lawful : Bool → List Route → Type 0
Lawful is_set rs = LawfulIn 8 is_set rs

-- ---- At the form's size.

-- The conditions for a refusal.
abbrev pub FormCondition : Form → Bool → List ℕ → ℕ → ℕ → Type 0
FormCondition form is_set t n i = TableConditionIn (size_of form) form.strict is_set t n i

-- It keeps the rules 3 to 8.
abbrev pub AcceptedBy : Form → Bool → List ℕ → Type 0
AcceptedBy form is_set t = AcceptedIn (size_of form) form.strict is_set t
