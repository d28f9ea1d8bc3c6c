-- `assign::room::push_sets` meets its contract. The loop's invariant: the words of the positions under p and after are laid, and the writer's mask
-- is theirs. Assumes nothing.
use Prim.Native.Nat.{◌+◌, ◌*◌, ◌-◌}
use mathlib.Core.Path.{refl}
use native.Mathlib.Omega.{arith}
use Rattle.assign.proofs.PackedLaws.{laying_start, laying_room, laying_may, laying_next, laying_under, laying_end}
use Rattle.assign.proofs.room.push_sets.Goals as goal

pub loop-p-init : goal.loop-p-init
loop-p-init c = (omega arith, laying_start _ _ _)

pub push-requires : goal.push-requires
push-requires c =
    let pre = c.requires in
    laying_may c.loop-p.invariant.1 pre.1 (omega arith) pre.0 _

pub push-requires-in-loop-p : goal.push-requires-in-loop-p
push-requires-in-loop-p c =
    let l = c.loop-p in
    let right = laying_under l.invariant.1 c.requires.1 (2 * (l.p - 1) + 2) (l.p - 1) (omega arith) (omega arith) (omega arith) (omega arith)
    c.push.ensures in
    laying_may right c.requires.1 (omega arith) c.requires.0 _

pub loop-p-preserved : goal.loop-p-preserved
loop-p-preserved c =
    let l = c.loop-p in
    let right = laying_under l.invariant.1 c.requires.1 (2 * (l.p - 1) + 2) (l.p - 1) (omega arith) (omega arith) (omega arith) (omega arith)
    c.push.ensures in
    let left = laying_under right c.requires.1 (2 * (l.p - 1) + 1) (l.p - 1) (omega arith) (omega arith) (omega arith) (omega arith)
    c.push-in-loop-p.ensures in
    (omega arith, left)

pub push-requires-2 : goal.push-requires-2
push-requires-2 c =
    let pre = c.requires in
    laying_may c.loop-p.invariant.1 pre.1 (omega arith) pre.0 _

pub overflow_sub-work : goal.overflow_sub-work
overflow_sub-work c =
    let r = laying_room c.loop-p.invariant.1 c.requires.1 in
    let e = c.push-2.ensures.laid.ends in
    omega arith

pub overflow_sub-result : goal.overflow_sub-result
overflow_sub-result c =
    let r = laying_room c.loop-p.invariant.1 c.requires.1 in
    let e = c.push-2.ensures.laid.ends in
    omega arith

pub returns : goal.returns
returns c =
    let l = c.loop-p in
    let p = laying_next l.invariant.1 c.requires.1 0 (omega arith) (omega arith) refl c.push-2.ensures in
    let r = laying_room p c.requires.1 in record { upper_bound = omega arith; pushed = laying_end p c.requires.0 c.requires.1 }
