-- `planner::plan` meets its contract. Assumes nothing.
use mathlib.Core.Path.{sym}
use native.Mathlib.Omega.{arith}
use Rattle.std.proofs.lemmas.Result.{err_from_is_err_and}
use Rattle.planner.proofs.Answers.{kept-lawful, plans_refused, plans_chosen}
use Rattle.planner.proofs.plan.Goals as goal

pub returns-in_err-check_tables : goal.returns-in_err-check_tables
returns-in_err-check_tables c =
    let a = c.args in
    let p = err_from_is_err_and c.from_residual.result c.from_residual.ensures.1 in
    rw (p.1, p.2) (plans_refused a.form a.installed.now a.new.now a.steps.now (sym c.in_err-check_tables.ensures))

pub plan_accepted-requires : goal.plan_accepted-requires
plan_accepted-requires c =
    let a = c.args in
    kept-lawful a.form a.installed.now a.new.now (λ k. omega (arith, c.type_inv.installed k)) (λ k. omega (arith, c.type_inv.new k)) (sym c.in_ok-check_tables.ensures)

pub returns : goal.returns
returns c =
    let a = c.args in
    plans_chosen a.form a.installed.now a.new.now a.steps.now (sym c.in_ok-check_tables.ensures)
    c.plan_accepted.result c.plan_accepted.new.steps c.plan_accepted.ensures.answer c.plan_accepted.ensures.steps
