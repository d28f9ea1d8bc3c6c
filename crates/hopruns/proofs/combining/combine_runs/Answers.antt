-- `hopruns::combining::combine_runs` meets its contract: the size tells which of the two ways is to be taken. Assumes nothing.
use mathlib.Core.Path.{sym, ap, ◌∙◌}
use native.Mathlib.Omega.{arith}
use lib.ListN.{length}
use lib.Seq.{slice}
use Rattle.hopruns.specs.Runs.{combined}
use Rattle.hopruns.proofs.Laying.{pushed_as}
use Rattle.hopruns.proofs.Merge.{way_either, way_shared}
use Rattle.hopruns.proofs.combining.combine_runs.Goals as goal

pub lay_either-requires-clause-work_value : goal.lay_either-requires-clause-work_value
lay_either-requires-clause-work_value c =
    let a = c.args in
    let p = c.requires in
    (way_either a.work.now a.a a.a_end a.b a.b_end a.size p.run p.run_2 p.size_value (omega arith) c.if-size-a_end.true).0

pub returns-then-size-a_end : goal.returns-then-size-a_end
returns-then-size-a_end c =
    let a = c.args in
    let p = c.requires in
    let o = a.work.now in
    let size = c.if-size-a_end.true in
    let way = way_either o a.a a.a_end a.b a.b_end a.size p.run p.run_2 p.size_value (omega arith) size in
    pushed_as (combined (slice a.a a.a_end o) (slice a.b a.b_end o)) a.top (sym way.1) (omega (arith, size, p.size_le_top)) c.lay_either.ensures

pub returns-else-size-a_end : goal.returns-else-size-a_end
returns-else-size-a_end c =
    let a = c.args in
    let p = c.requires in
    let o = a.work.now in
    let way = way_shared o a.a a.a_end a.b a.b_end a.size p.run p.run_2 p.size_value (omega arith) c.if-size-a_end.false in
    let size = p.size_value ∙ ap length way in
    pushed_as (combined (slice a.a a.a_end o) (slice a.b a.b_end o)) a.top (sym way) (omega (arith, size, p.size_le_top)) c.lay_shared.ensures
