-- The reply is judged at the form's size, and what the check of a table refuses, the call refuses. Assumes nothing.
use Prim.Native.Nat.{ℕ}
use mathlib.Core.Bool.{Bool}
use mathlib.Core.List.{List}
use mathlib.Core.Path.{◌≡◌, ap, ◌∙◌}
use Rattle.refusals.specs.declared.Refusal.{Refusal}
use Rattle.refusals.specs.Numbers.{number_of}
use Rattle.refusals.specs.Rules.{refuses, judge}
use Rattle.refusals.proofs.Replies.{passed_on}
use Rattle.records.specs.Forms.{size_of}
use Rattle.records.specs.Sized.{records_in}
use Rattle.records.specs.declared.Form.{Form}
use Rattle.table.specs.SizedRules.{table_rules_in}
use Rattle.workroom.specs.Needed.{words_in, words_reply}

-- Judged at the size that `size_of` gives, the table is judged at the form's.
pub judged : (form : Form) (s : Bool) (t : List ℕ) (size : ℕ) → size ≡ size_of form → judge (table_rules_in size form.strict s t) (words_in size t) ≡ words_reply form s t
judged form s t size e = ap (λ (n : ℕ). judge (table_rules_in n form.strict s t) (words_in n t)) e

pub words_refused : (form : Form) (s : Bool) (t : List ℕ) (size : ℕ) (r : Refusal) → size ≡ size_of form
    → refuses (number_of r.cause) r.index ≡ judge (table_rules_in size form.strict s t) (records_in size t) → refuses (number_of r.cause) r.index ≡ words_reply form s t
words_refused form s t size r e z =
    passed_on (table_rules_in size form.strict s t) (records_in size t) (words_in size t) r z ∙ judged form s t size e
