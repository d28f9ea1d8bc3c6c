-- `words::coverage::parent_coverage` meets its contract, a law for each push. Assumes nothing.
use lib.Dec.{lit≤}
use Rattle.words.proofs.CoverageLaws.{parent_start, parent_push, parent_end}
use Rattle.words.proofs.coverage.parent_coverage.Goals as goal

pub returns : goal.returns
returns c =
    let p0 = parent_push 0 (lit≤ tt) (parent_start c.args.coverage) c.push_l0.result c.push_l0.ensures in
    let p1 = parent_push 1 (lit≤ tt) p0 c.push_l1.result c.push_l1.ensures in
    let p2 = parent_push 2 (lit≤ tt) p1 c.push_l2.result c.push_l2.ensures in
    parent_end (parent_push 3 (lit≤ tt) p2 c.push_l3.result c.push_l3.ensures)
