-- The check of a table: what its answer says, and which reply is right.
use Rattle.std.specs.Prelude.{ℕ, Bool, List, Result, Ok, Err}
use Rattle.refusals.specs.Rules.{Reply, judge}
use Rattle.refusals.specs.Numbers.{number_of, reply_of}
use Rattle.refusals.specs.declared.Cause.{Cause}
use Rattle.refusals.specs.declared.Refusal.{Refusal}
use Rattle.records.specs.Sized.{records_in}
use Rattle.records.specs.declared.Form.{Form}
use Rattle.table.specs.SizedRules.{table_rules_in}

-- It gives the number of records, or a refusal.
abbrev pub checked_says : Result ℕ Refusal → Reply ℕ
checked_says = reply_of (λ n. n)

-- The number of the rule that a record breaks; 0 where it breaks none.
abbrev pub broken_by : Result (Unit {0}) Cause → ℕ
broken_by (Ok _) = 0
broken_by (Err cause) = number_of cause

-- The right reply for a table of a set or of a map with records of this size, where `strict` says that a record with host bits is refused.
abbrev pub check_reply_in : ℕ → Bool → Bool → List ℕ → Reply ℕ
check_reply_in size strict is_set t = judge (table_rules_in size strict is_set t) (records_in size t)

-- The same for records of 8 bytes, by the form's choice.
abbrev pub check_reply : Form → Bool → List ℕ → Reply ℕ
check_reply form is_set t = check_reply_in 8 form.strict is_set t
