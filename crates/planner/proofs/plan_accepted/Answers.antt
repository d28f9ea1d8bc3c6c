-- `planner::plan_accepted` meets its contract. Assumes nothing.
use native.Mathlib.Omega.{arith}
use mathlib.Core.Bool.{true, false}
use Prim.Native.Nat.{◌+◌}
use lib.ListN.{length}
use Rattle.std.proofs.lemmas.List.{length-take-le}
use Rattle.records.specs.Wire.{routes}
use Rattle.records.proofs.Reading.{length-routes}
use Rattle.planner.specs.Due.{is_due}
use Rattle.planner.proofs.Counts.{few_due, plan-length, chosen_full, chosen-short, chosen-plan}
use Rattle.planner.proofs.plan_accepted.Goals as goal
use Rattle.planner.proofs.plan_accepted.Goals.{then-new-takes-gt-MOST-via-then-new-takes-gt-MOST, then-new-takes-gt-MOST-via-else-new-takes-gt-MOST+then-steps-puts}

pub overflow_add-new : goal.overflow_add-new
overflow_add-new c = omega (arith, c.count_due-takes.ensures, few_due (is_due false (routes c.args.new.now)) c.requires.0, c.requires.1.few, length-routes c.args.new.now)

pub overflow_add-puts : goal.overflow_add-puts
overflow_add-puts c = omega (arith, c.count_due-puts.ensures, c.count_due-takes.ensures, few_due (is_due false (routes c.args.new.now)) c.requires.0, few_due (is_due true (routes c.args.installed.now)) c.requires.1)

pub write_plan-requires-clause-as_many : goal.write_plan-requires-clause-as_many
write_plan-requires-clause-as_many c =
    let n = c.count_due-puts.result + c.count_due-takes.result in
    omega (
      arith,
      length-take-le n c.args.steps.now (omega arith),
      plan-length c.args.installed.now c.args.new.now c.requires.0.table c.requires.1.table,
      c.count_due-puts.ensures,
      c.count_due-takes.ensures,
    )

pub returns-then-new-takes-gt-MOST-clause-answer : goal.returns-then-new-takes-gt-MOST-clause-answer
returns-then-new-takes-gt-MOST-clause-answer c =
    let a = c.args in
    let p = c.count_due-puts in
    let q = c.count_due-takes in
    elim c.then-new-takes-gt-MOST.branch [
      | then-new-takes-gt-MOST-via-then-new-takes-gt-MOST w ↦
          chosen_full a.installed.now a.new.now c.requires.0.table c.requires.1.table (length a.steps.now) p.result q.result p.ensures q.ensures w.if-new-takes-gt-MOST.true
      | then-new-takes-gt-MOST-via-else-new-takes-gt-MOST+then-steps-puts w ↦
          chosen-short a.installed.now a.new.now c.requires.0.table c.requires.1.table (length a.steps.now) p.result q.result p.ensures q.ensures w.if-steps-puts.true
    ]

pub returns-clause-answer : goal.returns-clause-answer
returns-clause-answer c =
    let a = c.args in
    chosen-plan a.installed.now a.new.now c.requires.0.table c.requires.1.table (length a.steps.now) c.count_due-puts.result c.count_due-takes.result c.count_due-puts.ensures
    c.count_due-takes.ensures (omega arith) (omega arith)
