-- `rules::judge_record` answers by the first of rules 5 to 8 that record i breaks. Assumes nothing.
use mathlib.Core.Bool.{true}
use mathlib.Core.Path.{◌≡◌, sym, ◌∙◌}
use native.Mathlib.Omega.{arith}
use lib.Dec.{leb}
use borrow.Author.Tests.{le-leb, lt-leb}
use Rattle.refusals.specs.Rules.{broken}
use Rattle.records.specs.Sized.{width_in, route_in}
use Rattle.records.proofs.SizedReading.{size-some}
use Rattle.table.specs.SizedRules.{host_kept_in, record_rules_in}
use Rattle.table.proofs.rules.judge_record.Goals as goal

pub overflow_mul-size : goal.overflow_mul-size
overflow_mul-size c = omega (arith, size-some c.args.size c.requires.0)

pub returns-then-size-length_at : goal.returns-then-size-length_at
unfolding broken record_rules_in
returns-then-size-length_at c = simp (lt-leb _ _ (rw c.length_at.ensures at c.if-size-length_at.true))

pub returns-then-not-host_kept : goal.returns-then-not-host_kept
unfolding broken record_rules_in
returns-then-not-host_kept c =
    let short : leb (route_in c.args.size c.args.table.now c.args.i).len (width_in c.args.size) ≡ true = le-leb _ _ (rw c.length_at.ensures at c.if-size-length_at.false) in
    simp (short, sym c.host_kept.ensures ∙ c.if-not-host_kept.true)

pub returns-then-not-tail_kept : goal.returns-then-not-tail_kept
unfolding broken record_rules_in
returns-then-not-tail_kept c =
    let short : leb (route_in c.args.size c.args.table.now c.args.i).len (width_in c.args.size) ≡ true = le-leb _ _ (rw c.length_at.ensures at c.if-size-length_at.false) in
    let none : host_kept_in c.args.size c.args.strict c.args.table.now c.args.i ≡ true = sym c.host_kept.ensures ∙ c.if-not-host_kept.false in
    simp (
      short,
      none,
      sym c.tail_kept.ensures ∙ c.if-not-tail_kept.true,
    )

pub returns-then-not-in_order : goal.returns-then-not-in_order
unfolding broken record_rules_in
returns-then-not-in_order c =
    let short : leb (route_in c.args.size c.args.table.now c.args.i).len (width_in c.args.size) ≡ true = le-leb _ _ (rw c.length_at.ensures at c.if-size-length_at.false) in
    let none : host_kept_in c.args.size c.args.strict c.args.table.now c.args.i ≡ true = sym c.host_kept.ensures ∙ c.if-not-host_kept.false in
    simp (
      short,
      none,
      sym c.tail_kept.ensures ∙ c.if-not-tail_kept.false,
      sym c.in_order.ensures ∙ c.if-not-in_order.true,
    )

pub returns : goal.returns
unfolding broken record_rules_in
returns c =
    let short : leb (route_in c.args.size c.args.table.now c.args.i).len (width_in c.args.size) ≡ true = le-leb _ _ (rw c.length_at.ensures at c.if-size-length_at.false) in
    let none : host_kept_in c.args.size c.args.strict c.args.table.now c.args.i ≡ true = sym c.host_kept.ensures ∙ c.if-not-host_kept.false in
    simp (
      short,
      none,
      sym c.tail_kept.ensures ∙ c.if-not-tail_kept.false,
      sym c.in_order.ensures ∙ c.if-not-in_order.false,
    )
