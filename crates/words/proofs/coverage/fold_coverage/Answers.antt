-- `words::coverage::fold_coverage` meets its contract, a law for each fold. Assumes nothing.
use lib.Dec.{lit≤}
use Rattle.words.proofs.CoverageLaws.{whole-slots, whole_fold, whole_end}
use Rattle.words.proofs.coverage.fold_coverage.Goals as goal

pub returns : goal.returns
returns c =
    let a = c.args in
    let w4 = whole-slots a.data_bitmap a.child_coverage c.fold_children.result c.fold_children.ensures in
    let w3 = whole_fold 3 (lit≤ tt) w4 c.fold_l4-coverage.result c.fold_l4-coverage.ensures in
    let w2 = whole_fold 2 (lit≤ tt) w3 c.fold_l3-coverage.result c.fold_l3-coverage.ensures in
    let w1 = whole_fold 1 (lit≤ tt) w2 c.fold_l2-coverage.result c.fold_l2-coverage.ensures in
    whole_end (whole_fold 0 (lit≤ tt) w1 c.fold_l1-coverage.result c.fold_l1-coverage.ensures)
