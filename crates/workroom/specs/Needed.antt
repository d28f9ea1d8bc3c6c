-- How much work room a table needs: what an answer says, and which reply is right.
use Rattle.std.specs.Prelude.{ℕ, ◌*◌, Bool, List, Result}
use Rattle.refusals.specs.Rules.{Reply, judge}
use Rattle.refusals.specs.Numbers.{reply_of}
use Rattle.refusals.specs.declared.Refusal.{Refusal}
use Rattle.records.specs.Sized.{width_in, routes_in}
use Rattle.records.specs.declared.Form.{Form}
use Rattle.records.specs.Forms.{size_of}
use Rattle.table.specs.TableRules.{form_rules}
use Rattle.nodecount.specs.Nodes.{nodes}

-- It gives a number of words, or a refusal.
abbrev pub words_says : Result ℕ Refusal → Reply ℕ
words_says = reply_of (λ n. n)

-- The words for a table of records of this size: 160 for each node, by document 01.
abbrev pub words_in : ℕ → List ℕ → ℕ
words_in size t = 160 * nodes (width_in size) (routes_in size t)

-- The right reply for a table of a set or of a map, read by the form.
abbrev pub words_reply : Form → Bool → List ℕ → Reply ℕ
words_reply form is_set t = judge (form_rules form is_set t) (words_in (size_of form) t)
