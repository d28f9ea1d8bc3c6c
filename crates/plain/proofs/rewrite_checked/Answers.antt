-- `rewrite_checked` refuses an output without room for the result's records, which it counts only where the most that the mode makes might not fit, and else
-- writes them. Assumes nothing.
use Prim.Native.Nat.{◌/◌, ◌^◌, ◌≤◌, ◌<◌}
use mathlib.Core.Path.{◌∙◌}
use native.Mathlib.Omega.{arith}
use borrow.Author.Rules.{rules}
use lib.ListN.{length}
use Rattle.calls.specs.Modes.{mode_number}
use Rattle.records.proofs.SizedReading.{size-some}
use Rattle.calls.proofs.Ending.{change-fits, change_is, result-most, finished_refused}
use Rattle.plain.proofs.Walk.{entries_few}
use Rattle.plain.proofs.Whole.{mode_had, mode_known, records-few, all_run, whole-count, whole_finished}
use Rattle.plain.proofs.rewrite_checked.Goals as goal
use Rattle.plain.proofs.rewrite_checked.Goals.{then-output-size+else-output-size-2, else-output-size}

pub nonzero_div-output : goal.nonzero_div-output
nonzero_div-output c = omega (arith, size-some c.args.size c.requires.size.0)

pub most_records-requires : goal.most_records-requires
most_records-requires c =
    omega (arith, c.requires.before_value, records-few c.args.size c.requires.size.0 c.args.table.now)

pub write-count-requires : goal.write-count-requires
write-count-requires c =
    let pre = c.requires in record { position = all_run pre.size.0 c.args.table.now c.args.before pre.table.0 pre.before_value; hopped = pre.table.1.0 }

pub nonzero_div-output-then-output-size : goal.nonzero_div-output-then-output-size
nonzero_div-output-then-output-size c = omega (arith, size-some c.args.size c.requires.size.0)

pub returns-then-output-size-2 : goal.returns-then-output-size-2
returns-then-output-size-2 c =
    let a = c.args in
    let pre = c.requires in
    let count = whole-count pre.size.0 a.table.now (mode_number a.mode) a.fill a.ranks.now a.before pre.table.1.1 pre.fills pre.before_value (mode_had (mode_number a.mode) pre.size.1)
    c.write-count.ensures in
    let short = c.if-output-size-2.true in
    rw c.at.ensures (finished_refused _ pre.size.0 _ _ _ _ _ (omega arith))

pub write-written-requires : goal.write-written-requires
write-written-requires c =
    let pre = c.requires in record { position = all_run pre.size.0 c.args.table.now c.args.before pre.table.0 pre.before_value; hopped = pre.table.1.0 }

pub overflow_cast-result : goal.overflow_cast-result
overflow_cast-result c =
    let few : (c.write-written.result < 2 ^ 62) × (c.args.before < 2 ^ 62) = let a = c.args in let pre = c.requires in let counted = c.write-written.ensures.counted in let most = entries_few a.ranks.now a.fill 64 (all_run pre.size.0 a.table.now a.before pre.table.0 pre.before_value).is_run in let table = records-few a.size pre.size.0 a.table.now in (omega (arith, pre.before_value), omega (arith, pre.before_value)) in
    let small = few in search rules

pub overflow_cast-result-2 : goal.overflow_cast-result-2
overflow_cast-result-2 c =
    let few : (c.write-written.result < 2 ^ 62) × (c.args.before < 2 ^ 62) = let a = c.args in let pre = c.requires in let counted = c.write-written.ensures.counted in let most = entries_few a.ranks.now a.fill 64 (all_run pre.size.0 a.table.now a.before pre.table.0 pre.before_value).is_run in let table = records-few a.size pre.size.0 a.table.now in (omega (arith, pre.before_value), omega (arith, pre.before_value)) in
    let small = few in search rules

pub overflow_sub-result : goal.overflow_sub-result
overflow_sub-result c =
    let few : (c.write-written.result < 2 ^ 62) × (c.args.before < 2 ^ 62) = let a = c.args in let pre = c.requires in let counted = c.write-written.ensures.counted in let most = entries_few a.ranks.now a.fill 64 (all_run pre.size.0 a.table.now a.before pre.table.0 pre.before_value).is_run in let table = records-few a.size pre.size.0 a.table.now in (omega (arith, pre.before_value), omega (arith, pre.before_value)) in
    search (change-fits, few)

pub returns : goal.returns
returns c =
    let few : (c.write-written.result < 2 ^ 62) × (c.args.before < 2 ^ 62) = let a = c.args in let pre = c.requires in let counted = c.write-written.ensures.counted in let most = entries_few a.ranks.now a.fill 64 (all_run pre.size.0 a.table.now a.before pre.table.0 pre.before_value).is_run in let table = records-few a.size pre.size.0 a.table.now in (omega (arith, pre.before_value), omega (arith, pre.before_value)) in
    let a = c.args in
    let pre = c.requires in
    let had = mode_had (mode_number a.mode) pre.size.1 in
    let put = c.write-written.ensures in
    let count = whole-count pre.size.0 a.table.now (mode_number a.mode) a.fill a.ranks.now a.before pre.table.1.1 pre.fills pre.before_value had put in
    let room : c.write-written.result ≤ length a.output.now / a.size =
    elim c.if-output-size.branch [
      | then-output-size+else-output-size-2 w ↦
          let dry = whole-count pre.size.0 a.table.now (mode_number a.mode) a.fill a.ranks.now a.before pre.table.1.1 pre.fills pre.before_value had w.write-count.ensures in
          let long = w.if-output-size-2.false in
          omega arith
      | else-output-size w ↦
          let most = result-most _ _ _ a.fill a.ranks.now (mode_known had) pre.table.0 pre.before_value c.most_records.ensures in
          let long = w.if-output-size.false in
          omega arith
    ] in
    whole_finished pre.size.0 a.table.now (mode_number a.mode) a.fill a.ranks.now a.before pre.table.1.1 pre.fills pre.before_value had put room
    (change_is c.write-written.result a.before few.0 few.1 ∙ rw pre.before_value)
