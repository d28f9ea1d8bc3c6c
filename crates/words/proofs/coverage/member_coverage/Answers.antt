-- `words::coverage::member_coverage` meets its contract, a law for each push. Assumes nothing.
use lib.Dec.{lit≤}
use Rattle.words.proofs.CoverageLaws.{under-start, under_push, under_end}
use Rattle.words.proofs.coverage.member_coverage.Goals as goal

pub returns : goal.returns
returns c =
    let u0 = under_push 0 (lit≤ tt) (under-start c.args.data_bitmap) c.push_l0-covered.result c.push_l0-covered.ensures in
    let u1 = under_push 1 (lit≤ tt) u0 c.push_l1-covered.result c.push_l1-covered.ensures in
    let u2 = under_push 2 (lit≤ tt) u1 c.push_l2-covered.result c.push_l2-covered.ensures in
    let u3 = under_push 3 (lit≤ tt) u2 c.push_l3-covered.result c.push_l3-covered.ensures in
    under_end u3 c.push_l4-children_under_member.result c.push_l4-children_under_member.ensures
