-- `hopruns::combining::shared` meets its contract. The loop's invariant: what is counted and what is still to be shared make all. Assumes nothing.
use Prim.Native.Nat.{◌<◌}
use mathlib.Core.Path.{ap, ◌∙◌}
use native.Mathlib.Omega.{arith}
use lib.Dec.{eqb, leb}
use lib.ListN.{length, get_or}
use lib.Seq.{slice}
use Rattle.hopruns.proofs.Merge.{run_step, count_step, run_length, done_right, common-length, number_of}
use Rattle.hopruns.proofs.combining.shared.Goals as goal

pub overflow_add-n : goal.overflow_add-n
overflow_add-n c =
    let l = c.loop-i in
    let a = c.args in
    let o = a.work.now in
    omega (
      arith,
      c.from-n.ensures ∙ number_of (eqb (get_or o l.i 0) (get_or o l.j 0)),
      l.invariant.2,
      count_step o l.i a.a_end l.j a.b_end l.invariant.0 l.invariant.1 (omega arith) (omega arith),
      common-length (slice a.a a.a_end o) (slice a.b a.b_end o),
      run_length o a.a a.a_end c.requires.run,
    )

pub loop-i-preserved : goal.loop-i-preserved
loop-i-preserved c =
    let l = c.loop-i in
    let a = c.args in
    let o = a.work.now in
    let lt : l.i < a.a_end = omega arith in
    let lt' : l.j < a.b_end = omega arith in
    let x = get_or o l.i 0 in
    let y = get_or o l.j 0 in
    let e = c.from-n.ensures ∙ number_of (eqb x y) in
    let e2 = c.from-i.ensures ∙ number_of (leb x y) in
    let e3 = c.from-j.ensures ∙ number_of (leb y x) in
    let step = count_step o l.i a.a_end l.j a.b_end l.invariant.0 l.invariant.1 lt lt' in (
      rw e2 (run_step o l.i a.a_end (leb x y) l.invariant.0 lt),
      rw e3 (run_step o l.j a.b_end (leb y x) l.invariant.1 lt'),
      rw (e, e2, e3) (omega (arith, l.invariant.2, step)),
    )

pub returns-else-j-b_end : goal.returns-else-j-b_end
returns-else-j-b_end c =
    let l = c.loop-i in
    let a = c.args in
    omega (arith, l.invariant.2, ap length (done_right a.work.now l.j a.b_end (slice l.i a.a_end a.work.now) l.invariant.1 c.if-j-b_end.false))
