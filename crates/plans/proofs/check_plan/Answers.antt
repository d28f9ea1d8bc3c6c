-- `plans::check_plan` meets its contract. Assumes nothing.
use Prim.Native.Nat.{◌^◌, ◌<◌}
use mathlib.Core.Path.{◌≡◌, sym, ◌∙◌}
use mathlib.Core.Bool.{true}
use native.Mathlib.Omega.{arith}
use lib.ListN.{length}
use borrow.Author.Count.{below_more}
use Rattle.std.proofs.lemmas.Result.{err_from_is_err_and}
use Rattle.plans.specs.Following.{step_at}
use Rattle.plans.proofs.Rules.{both_given, tables_first, all_kept, step_refused}
use Rattle.plans.proofs.Deciding.{may_follow}
use Rattle.plans.proofs.Checked.{answers_refused, answers_given}
use Rattle.plans.proofs.check_plan.Goals as goal

pub returns-in_err-check_tables : goal.returns-in_err-check_tables
returns-in_err-check_tables c =
    let a = c.args in
    let p = err_from_is_err_and c.from_residual.result c.from_residual.ensures.1 in
    rw (p.1, p.2) (answers_refused a.form a.installed.now a.new.now a.steps.now (tables_first a.form a.installed.now a.new.now a.steps.now (sym c.in_err-check_tables.ensures)))

pub returns-then-not-step_kept : goal.returns-then-not-step_kept
returns-then-not-step_kept c =
    let a = c.args in
    let both = both_given a.form a.installed.now a.new.now {a = true} (sym c.in_ok-check_tables.ensures) in
    rw c.at.ensures
    (answers_refused a.form a.installed.now a.new.now a.steps.now
    (step_refused a.form a.installed.now a.new.now a.steps.now true both.0.1 both.1.1
    c.loop-index.index c.loop-index-test.true (λ j lt. (c.loop-index.invariant j lt).0) (sym c.step_kept.ensures ∙ c.if-not-step_kept.true)))

pub is_hitless-requires : goal.is_hitless-requires
is_hitless-requires c =
    let a = c.args in
    let e : c.loop-index.index ≡ length a.steps.now = omega arith in
    let both = both_given a.form a.installed.now a.new.now {a = true} (sym c.in_ok-check_tables.ensures) in
    may_follow a.form a.installed.now a.new.now a.steps.now (λ k. omega (arith, c.type_inv.installed k)) (λ k. omega (arith, c.type_inv.new k))
    both.0.1 both.1.1 (λ j lt. (c.loop-index.invariant j (omega arith)).0) (λ j lt. (c.loop-index.invariant j (omega arith)).1)

pub loop-index-preserved : goal.loop-index-preserved
loop-index-preserved c =
    let small : (step_at c.args.steps.now c.loop-index.index).addr < 2 ^ 32 = omega arith in
    below_more _ _ c.loop-index.invariant (sym c.step_kept.ensures ∙ c.if-not-step_kept.false, small)

pub returns : goal.returns
returns c =
    let a = c.args in
    let e : c.loop-index.index ≡ length a.steps.now = omega arith in
    let both = both_given a.form a.installed.now a.new.now {a = true} (sym c.in_ok-check_tables.ensures) in
    answers_given a.form a.installed.now a.new.now a.steps.now c.is_hitless.result
    (all_kept a.form a.installed.now a.new.now a.steps.now true both.0.1 both.1.1 (λ j lt. (c.loop-index.invariant j (omega arith)).0))
    c.is_hitless.ensures.yes c.is_hitless.ensures.no
