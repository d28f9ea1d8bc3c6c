-- `hopruns::choosing::choose` meets its contract. The loop's invariant: the best of h and of what is left is the lowest of all. Assumes nothing.
use Prim.Native.Nat.{suc, ◌+◌}
use mathlib.Core.Path.{◌≡◌, sym, ◌∙◌}
use mathlib.Core.List.{◌∷◌}
use native.Mathlib.Omega.{arith}
use lib.ListN.{length, get_or}
use borrow.Author.Tests.{eqb-true}
use lib.Seq.{slice, slice-cons, slice_empty}
use Rattle.theory.specs.Ranks.{best}
use Rattle.theory.specs.Shapes.{Sorted}
use Rattle.hopruns.proofs.Merge.{run-cons}
use Rattle.hopruns.proofs.Assigning.{unranked_first, best_end, best-next}
use Rattle.hopruns.proofs.choosing.choose.Goals as goal

pub returns-then-is_empty : goal.returns-then-is_empty
returns-then-is_empty c =
    let a = c.args in
    let p = c.requires in
    let o = a.work.now in
    let cons = run-cons o a.from a.to p.run p.from_lt_to in
    let sorted : Sorted (get_or o a.from 0 ∷ slice (suc a.from) a.to o) = rw cons at p.run.sorted in
    rw cons (unranked_first a.ranks.now (get_or o a.from 0) (slice (suc a.from) a.to o) (eqb-true (length a.ranks.now) 0 (sym c.is_empty.ensures ∙ c.if-is_empty.true)) sorted)

pub loop-i-preserved : goal.loop-i-preserved
loop-i-preserved c =
    let l = c.loop-i in
    let a = c.args in
    let o = a.work.now in
    let one : l.i + 1 ≡ suc l.i = omega arith in
    let cons = slice-cons l.i a.to o 0 (omega arith) l.invariant.1 in
    let step : best a.ranks.now c.better-h.result (slice (suc l.i) a.to o) ≡ best a.ranks.now l.h (slice l.i a.to o) =
    rw (c.better-h.ensures, cons) (best-next a.ranks.now l.h (get_or o l.i 0) (slice (suc l.i) a.to o)) in
    (omega arith, l.invariant.1, rw one (step ∙ l.invariant.2))

pub returns : goal.returns
returns c =
    let l = c.loop-i in
    let a = c.args in
    let z : l.i ≡ a.to = omega arith in
    let done : best a.ranks.now l.h (slice l.i a.to a.work.now) ≡ l.h = rw (z, slice_empty a.to a.work.now) (best_end a.ranks.now l.h) in
    sym done ∙ l.invariant.2
