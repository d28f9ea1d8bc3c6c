-- The statement of the call: for every table, read by a form, and every output, what it answers and what stands in the output then.
use Rattle.std.specs.Prelude.{ℕ, ◌*◌, ◌≡◌, false, List, [], ◌∷◌, ◌++◌, leb, length, Result, Ok, Err}
use Rattle.theory.specs.Routes.{Route}
use Rattle.refusals.specs.Rules.{Rule, rule, Reply, judge}
use Rattle.refusals.specs.Numbers.{reply_of}
use Rattle.refusals.specs.declared.Refusal.{Refusal}
use Rattle.records.specs.Sized.{width_in, routes_in}
use Rattle.records.specs.declared.Form.{Form}
use Rattle.records.specs.Forms.{size_of}
use Rattle.table.specs.TableRules.{form_rules}
use Rattle.calls.specs.Rewriting.{output_of}
use Rattle.holes.specs.Holes.{holes}

-- The holes of a map's table, by its bytes, records of this size.
abbrev pub holes_of : ℕ → List ℕ → List Route
holes_of size t = holes (width_in size) (routes_in size t)

-- The rules 3 to 8, then 11, for an output of `room` bytes.
unfoldable pub unrouted_rules : Form → List ℕ → ℕ → List Rule
unrouted_rules form t room = form_rules form false t ++ (rule 11 0 (leb (size_of form * length (holes_of (size_of form) t)) room) ∷ [])

-- An answer gives the number of records written, or a refusal.
abbrev pub listed_says : Result ℕ Refusal → Reply ℕ
listed_says = reply_of (λ n. n)

-- Its count, 0 in a refusal.
abbrev pub listed_count : Result ℕ Refusal → ℕ
listed_count (Ok count) = count
listed_count (Err refusal) = 0

-- The statement: the table t and the output o were lent, r was answered, and the output is o' then. Where no rule is broken the holes' records stand at its
-- start and their number is given; the rest is as it was, and after a refusal all of it is.
pub record Lists (form : Form) (t o : List ℕ) (r : Result ℕ Refusal) (o' : List ℕ) : Type 0 where
  pub answer : listed_says r ≡ judge (unrouted_rules form t (length o)) (length (holes_of (size_of form) t))
  pub output : o' ≡ output_of (size_of form) o (judge (unrouted_rules form t (length o)) (holes_of (size_of form) t))
