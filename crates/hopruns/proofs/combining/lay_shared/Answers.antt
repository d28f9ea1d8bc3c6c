-- `hopruns::combining::lay_shared` meets its contract. The loop's invariant: what is shared is laid so far, and the rest is shared by what is left of both
-- runs, which stand above. Assumes nothing.
use Prim.Native.Nat.{◌+◌, ◌≤◌}
use mathlib.Core.Path.{◌≡◌, ◌∙◌}
use mathlib.Core.Bool.{cond}
use mathlib.Core.List.{[], ◌∷◌, ◌++◌}
use native.Mathlib.Omega.{arith}
use lib.Dec.{eqb, leb}
use lib.ListN.{get_or, take, drop}
use lib.Seq.{slice}
use borrow.Author.Tests.{eq-eqb, ne_eqb}
use Rattle.hopruns.proofs.Merge.{done_right, number_of}
use Rattle.hopruns.proofs.Laying.{laying_end, laying_left, laying_get_d, word_put, word_kept}
use Rattle.hopruns.proofs.Steps.{sharing_step}
use Rattle.hopruns.proofs.combining.lay_shared.Goals as goal
use Rattle.hopruns.proofs.combining.lay_shared.Goals.{then-x-y, else-x-y}

pub loop-i-preserved : goal.loop-i-preserved
loop-i-preserved c =
    let l = c.loop-i in
    let p = c.requires in
    let s = l.invariant in
    let x = get_or l.work l.i 0 in
    let y = get_or l.work l.j 0 in
    let low : l.n ≤ l.i = omega (arith, laying_left s.laying, p.work_bound, s.low) in
    let low' : l.n ≤ l.j = omega (arith, laying_left s.laying, p.work_bound_2, s.low') in
    let put : (c.if-x-y.n ≡ l.n + cond (eqb x y) 1 0) × (c.if-x-y.work ≡ take l.n l.work ++ (cond (eqb x y) (x ∷ []) [] ++ drop (l.n + cond (eqb x y) 1 0) l.work)) = elim c.if-x-y.branch [
      | then-x-y w ↦ rw (eq-eqb x y w.if-x-y.true) (w.n-is, w.work-is ∙ word_put l.work l.n x (omega arith))
      | else-x-y w ↦ rw (ne_eqb x y w.if-x-y.false) (w.n-is ∙ omega arith, w.work-is ∙ word_kept l.work l.n)
    ] in
    rw (put.0, c.from-i.ensures ∙ number_of (leb x y), c.from-j.ensures ∙ number_of (leb y x))
    (sharing_step s x y c.if-x-y.work (omega arith) (omega arith) (laying_get_d s.laying l.i low) (laying_get_d s.laying l.j low') put.1)

pub returns-else-j-b_end : goal.returns-else-j-b_end
returns-else-j-b_end c =
    let l = c.loop-i in
    let a = c.args in
    let o = a.work.now in
    let z = done_right o l.j a.b_end (slice l.i a.a_end o) l.invariant.right c.if-j-b_end.false in
    laying_end (rw z at l.invariant.laying)
