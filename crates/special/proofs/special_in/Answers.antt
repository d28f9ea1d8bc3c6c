-- `special_in` replies with the first record of an accepted table that lies in a range, and with the check's refusal of any other. Assumes nothing.
use mathlib.Core.Path.{sym, ap, ◌∙◌}
use Rattle.std.proofs.lemmas.Result.{err_from_is_err_and}
use Rattle.refusals.specs.Rules.{gives}
use Rattle.refusals.proofs.Judged.{gives_any}
use Rattle.refusals.proofs.Replies.{passed_on}
use Rattle.special.proofs.special_in.Goals as goal

pub returns-in_err-check_table : goal.returns-in_err-check_table
returns-in_err-check_table c =
    let p = err_from_is_err_and c.from_residual.result c.from_residual.ensures.1 in
    rw (p.1, p.2) (passed_on _ _ _ _ c.in_err-check_table.ensures)

pub returns : goal.returns
returns c = ap gives c.first_special.ensures ∙ sym (gives_any _ _ _ _ (sym c.in_ok-check_table.ensures))
