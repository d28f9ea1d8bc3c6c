-- `checking::marks::marks_of` meets its contract. Assumes nothing.
use mathlib.Core.Path.{◌≡◌, ap, ◌∙◌}
use native.Mathlib.Omega.{arith}
use Prim.Native.Nat.{◌+◌, suc}
use Rattle.checking.specs.Marks.{marks_upto}
use Rattle.checking.proofs.Stepping.{marks_none, marks_next}
use Rattle.checking.proofs.marks.marks_of.Goals as goal

pub loop-l-init : goal.loop-l-init
loop-l-init c = (c.bare-marks.ensures ∙ marks_none _ _ c.args.hops.now, c.fine_of-fine.ensures)

pub loop-l-preserved : goal.loop-l-preserved
loop-l-preserved c = let l = c.loop-l in ((rw (l.invariant.1, l.invariant.0) at c.marked-marks.ensures) ∙ marks_next _ _ c.args.hops.now l.l, l.invariant.1)

pub returns-2 : goal.returns-2
returns-2 c =
    let l = c.loop-l in
    let e : l.l + 1 ≡ suc c.args.len = omega arith in
    (rw (l.invariant.1, l.invariant.0) at c.marked-marks.ensures) ∙ marks_next _ _ c.args.hops.now l.l ∙ ap (marks_upto _ _ _) e
