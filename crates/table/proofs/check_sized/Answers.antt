-- `check_sized` answers what judging the table by its rules over the size of a record gives. The loop's invariant: judging the whole table is judging the
-- records from record i on. Assumes nothing.
use Prim.Native.Nat.{ℕ, ◌+◌}
use mathlib.Core.Path.{◌≡◌, sym, ap, ◌∙◌}
use native.Mathlib.Omega.{arith}
use Rattle.refusals.specs.Rules.{refuses, judge, broken}
use Rattle.refusals.specs.Numbers.{number_of}
use Rattle.refusals.proofs.Replies.{number_some}
use Rattle.records.specs.Sized.{records_in}
use Rattle.table.specs.SizedRules.{rules_from_in, record_rules_in}
use Rattle.table.proofs.SizedJudging.{not_whole, is_scan, scan_bad, scan_good, scan_end}
use Rattle.table.proofs.check_sized.Goals as goal

pub returns-then-len-size-ne0 : goal.returns-then-len-size-ne0
returns-then-len-size-ne0 c = rw c.at.ensures (sym (not_whole _ _ _ _ _ c.if-len-size-ne0.true))

pub loop-i-init : goal.loop-i-init
loop-i-init c =
    is_scan _ _ _ _ _ c.if-len-size-ne0.false (omega arith)
    ∙ ap (λ (k : ℕ). judge (rules_from_in c.args.size c.args.strict c.args.is_set c.args.table.now 0 k) (records_in c.args.size c.args.table.now)) (omega arith)

pub returns-in-Err : goal.returns-in-Err
returns-in-Err c =
    let e : number_of c.in-Err.cause ≡ broken (record_rules_in c.args.size c.args.strict c.args.is_set c.args.table.now c.loop-i.i) = c.in-Err.ensures in
    rw c.at-in-Err.ensures
    (ap (λ (n : ℕ). refuses n c.loop-i.i) e
    ∙ sym (c.loop-i.invariant ∙ scan_bad _ _ _ _ _ _ _ (omega arith) (λ z. let some = number_some c.in-Err.cause in omega (arith, e ∙ z))))

pub loop-i-preserved : goal.loop-i-preserved
loop-i-preserved c =
    c.loop-i.invariant
    ∙ scan_good _ _ _ _ _ _ _ (omega arith) (sym (c.in_default.ensures))
    ∙ ap (λ (k : ℕ). judge (rules_from_in c.args.size c.args.strict c.args.is_set c.args.table.now (c.loop-i.i + 1) k) (records_in c.args.size c.args.table.now)) (omega arith)

pub returns : goal.returns
returns c = sym (c.loop-i.invariant ∙ scan_end _ _ _ _ _ _ _ (omega arith))
