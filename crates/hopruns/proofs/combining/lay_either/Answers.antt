-- `hopruns::combining::lay_either` meets its contract. The loop's invariant: the hops of either are laid so far, and the rest is in what is left of both
-- runs, which stand above. Assumes nothing.
use Prim.Native.Nat.{◌≤◌, ◌<◌}
use mathlib.Core.Path.{sym, ◌∙◌}
use native.Mathlib.Omega.{arith}
use lib.ListN.{length, get_or}
use lib.Seq.{slice}
use borrow.Author.Tests.{le-leb, ltb-true, ltb-false}
use mathlib.Core.Bool.{true≢false}
use Rattle.theory.specs.Results.{union}
use Rattle.hopruns.proofs.Merge.{run_length, union-length}
use Rattle.hopruns.proofs.Laying.{laying_start, laying_length}
use Rattle.hopruns.proofs.Steps.{joining_left, joining_right}
use Rattle.hopruns.proofs.combining.lay_either.Goals as goal
use Rattle.hopruns.proofs.combining.lay_either.Goals.{then-i-a_end+then-work-i, then-b_end-j, else-b_end-j, else-i-a_end, else-i-a_end-via-then-i-a_end+else-work-i, else-i-a_end-via-else-i-a_end}

pub loop-n-init : goal.loop-n-init
loop-n-init c =
    let a = c.args in
    let p = c.requires in
    let r = p.run in
    let q = p.run_2 in
    let o = a.work.now in
    let total = union-length (slice a.a a.a_end o) (slice a.b a.b_end o) r.sorted p.work_value in
    record {
      left = r;
      right = q;
      low = omega arith;
      low' = omega arith;
      apart = p.work_value;
      count = omega arith;
      laying = laying_start (union (slice a.a a.a_end o) (slice a.b a.b_end o)) o a.at
          (omega (arith, total, run_length o a.a a.a_end r, run_length o a.b a.b_end q, p.b_bound.0, r.order, r.within));
    }

pub loop-n-preserved : goal.loop-n-preserved
loop-n-preserved c =
    let l = c.loop-n in
    let s = l.invariant in
    let room = c.requires.b_bound in
    let lt = c.loop-n-test.true in
    let fits : l.n < length l.work = omega (arith, room.0, s.low, s.left.order, s.left.within, laying_length s.laying) in
    elim c.if-i-a_end.branch [
      | then-i-a_end+then-work-i w ↦
          let less : l.j < c.args.b_end → get_or l.work l.i 0 < get_or l.work l.j 0 = λ some. elim w.if-b_end-j.branch [
            | then-b_end-j v ↦ absurd (omega (arith, v.if-b_end-j.true, some))
            | else-b_end-j v ↦ ltb-true _ _ (sym v.value-is ∙ w.if-work-i.true)
          ] in
          rw (w.work-is, w.i-is, w.j-is) (joining_left s lt room.0 room.1 fits w.if-i-a_end.true less)
      | else-i-a_end w ↦
          let not_less : l.i < c.args.a_end → (l.j < c.args.b_end) × (get_or l.work l.j 0 ≤ get_or l.work l.i 0) = λ some. elim w.else-i-a_end.branch [
            | else-i-a_end-via-then-i-a_end+else-work-i v ↦ elim v.if-b_end-j.branch [
              | then-b_end-j u ↦ absurd (true≢false (sym (u.value-is ∙ le-leb _ _ u.if-b_end-j.true) ∙ v.if-work-i.false))
              | else-b_end-j u ↦ (u.if-b_end-j.false, ltb-false _ _ (sym u.value-is ∙ v.if-work-i.false))
            ]
            | else-i-a_end-via-else-i-a_end v ↦ absurd (omega (arith, v.if-i-a_end.false, some))
          ] in
          rw (w.work-is, w.i-is, w.j-is) (joining_right s lt room.0 room.1 fits not_less)
    ]
