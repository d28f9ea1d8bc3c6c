-- `rewrite_checked` refuses an output without room for the result's records, which it counts only where the most that the mode makes might not
-- fit, and else writes them. Assumes nothing.
use Prim.Native.Nat.{◌/◌, ◌^◌, ◌≤◌, ◌<◌}
use mathlib.Core.Path.{◌∙◌}
use native.Mathlib.Omega.{arith}
use borrow.Author.Rules.{rules}
use lib.ListN.{length}
use Rattle.calls.proofs.Modes.{number-used}
use Rattle.records.proofs.SizedReading.{size-some}
use Rattle.calls.proofs.Ending.{change-fits, change_is, result-most, finished_refused, finished_written}
use Rattle.aggregate.proofs.WalkLaws.{written_count, written-most, written-bytes, records-fit}
use Rattle.aggregate.proofs.rewrite_checked.Goals as goal
use Rattle.aggregate.proofs.rewrite_checked.Goals.{then-output-size+else-output-size-2, else-output-size}

pub nonzero_div-output : goal.nonzero_div-output
nonzero_div-output c = omega (arith, size-some _ c.requires.size.0)

pub nonzero_div-output-then-output-size : goal.nonzero_div-output-then-output-size
nonzero_div-output-then-output-size c = omega (arith, size-some _ c.requires.size.0)

pub returns-then-output-size-2 : goal.returns-then-output-size-2
returns-then-output-size-2 c =
    let pre = c.requires in
    let count = written_count _ pre.size.0 _ _ _ _ pre.size.1.valid c.write-count.ensures in
    let short = c.if-output-size-2.true in
    rw c.at.ensures (finished_refused _ pre.size.0 _ _ _ _ _ (omega (arith, short, count)))

pub overflow_cast-result : goal.overflow_cast-result
overflow_cast-result c =
    let few : (c.write-written.result < 2 ^ 62) × (c.args.before < 2 ^ 62) = let pre = c.requires in let most = written-most _ pre.size.0 _ _ _ _ pre.size.1 c.write-written.ensures in (omega arith, omega arith) in
    let small = few in search rules

pub overflow_sub-result : goal.overflow_sub-result
overflow_sub-result c =
    let few : (c.write-written.result < 2 ^ 62) × (c.args.before < 2 ^ 62) = let pre = c.requires in let most = written-most _ pre.size.0 _ _ _ _ pre.size.1 c.write-written.ensures in (omega arith, omega arith) in
    search (change-fits, few)

pub returns : goal.returns
returns c =
    let few : (c.write-written.result < 2 ^ 62) × (c.args.before < 2 ^ 62) = let pre = c.requires in let most = written-most _ pre.size.0 _ _ _ _ pre.size.1 c.write-written.ensures in (omega arith, omega arith) in
    let pre = c.requires in
    let wrote = c.write-written.ensures in
    let count = written_count _ pre.size.0 _ _ _ _ pre.size.1.valid wrote in
    let room : c.write-written.result ≤ length c.args.output.now / c.args.size =
    elim c.if-output-size.branch [
      | then-output-size+else-output-size-2 w ↦
          let dry = written_count _ pre.size.0 _ _ _ _ pre.size.1.valid w.write-count.ensures in
          let long = w.if-output-size-2.false in
          omega arith
      | else-output-size w ↦
          let most = result-most _ _ _ c.args.fill c.args.ranks.now (number-used c.args.mode) pre.size.1 pre.before_value c.most_records.ensures in
          let long = w.if-output-size.false in
          omega arith
    ] in
    finished_written _ pre.size.0 _ _ _ _ _ count room
    (change_is c.write-written.result c.args.before few.0 few.1 ∙ rw pre.before_value)
    (written-bytes _ pre.size.0 _ _ _ _ pre.size.1.valid wrote (records-fit _ pre.size.0 _ _ room))
