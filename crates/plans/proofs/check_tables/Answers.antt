-- `plans::check_tables` refuses by the installed table, then by the new one. Assumes nothing.
use mathlib.Core.Path.{sym}
use mathlib.Core.Bool.{true}
use Rattle.std.proofs.lemmas.Result.{err_from_is_err_and}
use Rattle.plans.proofs.Rules.{old_broken, new_by_cause, none_broken}
use Rattle.plans.proofs.check_tables.Goals as goal

pub returns-in_err-check_table : goal.returns-in_err-check_table
returns-in_err-check_table c =
    let a = c.args in
    let p = err_from_is_err_and c.from_residual.result c.from_residual.ensures.1 in
    rw (p.1, p.2) (sym (old_broken a.form a.installed.now a.new.now true (sym c.in_err-check_table.ensures)))

pub returns-in-Err : goal.returns-in-Err
returns-in-Err c =
    let a = c.args in
    rw (c.at.ensures, c.in_new.ensures)
    (sym (new_by_cause a.form a.installed.now a.new.now (sym c.in_ok-check_table.ensures) c.in-Err.refusal.cause c.in-Err.refusal.index (sym c.in-Err.ensures)))

pub returns : goal.returns
returns c =
    let a = c.args in
    sym (none_broken a.form a.installed.now a.new.now true (sym c.in_ok-check_table.ensures) (sym c.in_default.ensures))
