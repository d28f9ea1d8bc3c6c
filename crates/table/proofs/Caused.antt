-- The numbers of a table's rules are those of causes. Assumes nothing.
use mathlib.Core.Path.{refl}
use mathlib.Core.Bool.{Bool}
use mathlib.Core.List.{List}
use Prim.Native.Nat.{ℕ, zero, suc}
use Rattle.refusals.specs.declared.Cause.TheVariants.{TableLength, RecordCount, PrefixLength, HostBits, Tail, Order}
use Rattle.refusals.proofs.Caused.{AllCaused}
use Rattle.records.specs.Sized.{records_in}
use Rattle.table.specs.SizedRules.{record_rules_in, rules_from_in, table_rules_in}

records_caused : (size : ℕ) (strict s : Bool) (t : List ℕ) (i k : ℕ) → AllCaused (rules_from_in size strict s t i k)
unfolding rules_from_in record_rules_in
records_caused size strict s t i zero = tt
records_caused size strict s t i (suc k) =
    ((PrefixLength, refl), ((HostBits, refl), ((Tail, refl), ((Order, refl), records_caused size strict s t (suc i) k))))

pub table_caused : (size : ℕ) (strict s : Bool) (t : List ℕ) → AllCaused (table_rules_in size strict s t)
unfolding table_rules_in
table_caused size strict s t = ((TableLength, refl), ((RecordCount, refl), records_caused size strict s t 0 (records_in size t)))
