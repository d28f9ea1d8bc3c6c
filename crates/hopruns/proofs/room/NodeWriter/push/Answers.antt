-- `hopruns::room::NodeWriter::push` meets its contract. Assumes nothing.
use mathlib.Core.Path.{refl}
use native.Mathlib.Omega.{arith}
use lib.Seq.{slice}
use Rattle.hopruns.specs.Runs.{no_hop, combined}
use Rattle.hopruns.proofs.Kept.{combined-sorted, combined-below, sorted-few}
use Rattle.hopruns.proofs.Reading.{stored_some, stored-laid}
use Rattle.hopruns.proofs.room.NodeWriter.push.Goals as goal

pub overflow_cast-work : goal.overflow_cast-work
overflow_cast-work c =
    let a = c.args in
    let p = c.requires in
    let o = a.work.now in
    let s = slice a.a a.a_end o in
    let t = slice a.b a.b_end o in
    let few = sorted-few no_hop (combined s t) (combined-sorted s t p.left.sorted p.right.sorted) (combined-below no_hop s t p.left.hops p.right.hops) in
    omega (arith, few, p.sized)

pub returns-then-size-ne0 : goal.returns-then-size-ne0
returns-then-size-ne0 c =
    let a = c.args in
    let p = c.requires in
    let o = a.work.now in
    let s = combined (slice a.a a.a_end o) (slice a.b a.b_end o) in
    let room = p.room (omega arith) in
    let laid = c.combine_runs-from.ensures in
    let some = stored_some s (omega (arith, p.sized)) in
    record {
      marked = rw some.0 refl;
      laid = stored-laid a.size laid p.sized (omega arith) (omega (arith, room, laid.ends, p.sized)) (omega (arith, p.left.order, p.left.within, p.under_left));
    }
