-- `check_sized` answers what judging the table by its rules over the size of a record gives. The loop's invariant: judging the whole table is judging the
-- records from record i on. Assumes nothing.
use Prim.Native.Nat.{◌-◌}
use mathlib.Core.Path.{◌≡◌}
use Rattle.refusals.specs.Rules.{judge}
use Rattle.table.specs.SizedRules.{rules_from_in}
use Rattle.table.specs.Checking.{check_reply_in}
use Rattle.table.proofs.check_sized.Given as goal

abbrev pub invariant-loop-i : goal.invariant-loop-i
invariant-loop-i l = check_reply_in l.size l.strict l.is_set l.table ≡ judge (rules_from_in l.size l.strict l.is_set l.table l.i (l.n - l.i)) l.n
