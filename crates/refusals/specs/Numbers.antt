-- The causes of a refusal by their numbers in the documents, and what a call that gives a value or refuses says.
use Rattle.std.specs.Prelude.{ℕ, Result, Ok, Err}
use Rattle.refusals.specs.Rules.{Reply, gives, refuses}
use Rattle.refusals.specs.declared.Cause.{Cause}
use Rattle.refusals.specs.declared.Cause.TheVariants as cause
use Rattle.refusals.specs.declared.Refusal.{Refusal}

-- The number of a cause.
abbrev pub number_of : Cause → ℕ
number_of cause.Mode = 1
number_of cause.Default = 2
number_of cause.TableLength = 3
number_of cause.RecordCount = 4
number_of cause.PrefixLength = 5
number_of cause.HostBits = 6
number_of cause.Tail = 7
number_of cause.Order = 8
number_of cause.QueryLength = 9
number_of cause.WorkRoom = 10
number_of cause.OutputRoom = 11
number_of cause.ImageLength = 12
number_of cause.Step = 13
number_of cause.Edition = 14
number_of cause.Ranks = 15
number_of cause.RetiredMode = 16
number_of cause.MapFull = 17
number_of cause.NoMap = 18
number_of cause.NewTableLength = 23
number_of cause.NewRecordCount = 24
number_of cause.NewPrefixLength = 25
number_of cause.NewHostBits = 26
number_of cause.NewTail = 27
number_of cause.NewOrder = 28

-- The same fault in the new one of two tables; any other cause is itself.
abbrev pub in_new_of : Cause → Cause
in_new_of cause.TableLength = cause.NewTableLength
in_new_of cause.RecordCount = cause.NewRecordCount
in_new_of cause.PrefixLength = cause.NewPrefixLength
in_new_of cause.HostBits = cause.NewHostBits
in_new_of cause.Tail = cause.NewTail
in_new_of cause.Order = cause.NewOrder
in_new_of other = other

-- A call that gives a value or refuses says this, where its value stands for that of f.
abbrev pub reply_of : {A B : Type 0} → (A → B) → Result A Refusal → Reply B
reply_of f (Ok a) = gives (f a)
reply_of f (Err r) = refuses (number_of r.cause) r.index
