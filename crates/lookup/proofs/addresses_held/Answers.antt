-- `addresses_held` replies with the number of addresses that an accepted table holds, and with the check's refusal of any other. Assumes nothing.
use mathlib.Core.Bool.{false}
use mathlib.Core.Path.{sym, ap, ◌∙◌}
use native.Mathlib.Omega.{arith}
use Rattle.refusals.specs.Rules.{gives}
use Rattle.table.proofs.AtEight.{accepted-table}
use Rattle.std.proofs.lemmas.Result.{err_from_is_err_and}
use Rattle.refusals.proofs.Judged.{gives_any}
use Rattle.refusals.proofs.Replies.{passed_on}
use Rattle.lookup.proofs.addresses_held.Goals as goal

pub count_held-requires : goal.count_held-requires
count_held-requires c =
    (accepted-table _ _ c.args.form false _ (λ k. omega (arith, c.type_inv.table k)) (sym c.in_ok-check_table.ensures)).0.table

pub returns-in_err-check_table : goal.returns-in_err-check_table
returns-in_err-check_table c =
    let p = err_from_is_err_and c.from_residual.result c.from_residual.ensures.1 in
    rw (p.1, p.2) (passed_on _ _ _ _ c.in_err-check_table.ensures)

pub returns : goal.returns
returns c = ap gives c.count_held.ensures ∙ sym (gives_any _ _ _ _ (sym c.in_ok-check_table.ensures))
