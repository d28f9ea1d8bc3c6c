-- `tabletext::read_lines` meets its contract: before each line, what is left to be read makes all that is to be read. Assumes nothing.
use mathlib.Core.Path.{sym, ◌∙◌}
use Prim.Native.Nat.{ℕ, ◌+◌}
use native.Mathlib.Omega.{arith}
use lib.Dec.{eqb}
use lib.ListN.{length, drop}
use Rattle.std.proofs.Common.{rules, tests}
use Rattle.std.proofs.lemmas.List.{length_push}
use Rattle.std.proofs.lemmas.Iterator.Consumers.{YieldsList-from_enumerate, YieldsList-turn, YieldsList-end}
use Rattle.std.proofs.lemmas.Iterator.Splits.{YieldsList-from_slice_split}
use Rattle.tabletext.specs.Lines.{said}
use Rattle.tabletext.specs.Reading.{Reading, lines_in, read_lines}
use Rattle.tabletext.proofs.Writing.{lines_split, turn_line, turns_over, left_all, left_line, left_end, left-next, left_wrong}
use Rattle.tabletext.proofs.read_lines.Goals as goal

pub loop-i-init : goal.loop-i-init
loop-i-init c = left_all _ _ _

pub loop-i-preserved : goal.loop-i-preserved
loop-i-preserved c =
    let a = c.args in
    let v = c.loop-i in
    let st = c.read_line.ensures in
    let j = length v.yielded in
    let ls = lines_in a.text.now in
    let what = said a.hops c.in-Some.line.now in
    let t = turn_line _ ls (lines_split a.text.now) j c.in-Some.i c.in-Some.line.now
    (YieldsList-turn (YieldsList-from_enumerate (YieldsList-from_slice_split _ (λ x. eqb x 10) a.text.now (cc) (cc) (cc) (λ x b q k. search (rules, tests))) (cc)) v.yielded _ v.yielded_by _ _ _ c.in-Some.is c.next.ensures.steps) in
    let next : ℕ → Reading = λ m. read_lines a.hops m (j + 1 + 1) (drop (j + 1) ls) in
    let here = left_line a.hops v.n (j + 1) t.1 v.invariant in
    rw (length_push v.yielded (c.in-Some.i, c.in-Some.line), st.out_after, st.lines_after, t.0)
    (left-next v.n (j + 1) next v.out v.lines (omega (arith, c.requires)) (omega (arith, c.requires)) what c.in-Ok.m here (sym st.value ∙ c.in-Ok.is))

pub returns-in-Err : goal.returns-in-Err
returns-in-Err c =
    let a = c.args in
    let v = c.loop-i in
    let st = c.read_line.ensures in
    let j = length v.yielded in
    let ls = lines_in a.text.now in
    let what = said a.hops c.in-Some.line.now in
    let t = turn_line _ ls (lines_split a.text.now) j c.in-Some.i c.in-Some.line.now
    (YieldsList-turn (YieldsList-from_enumerate (YieldsList-from_slice_split _ (λ x. eqb x 10) a.text.now (cc) (cc) (cc) (λ x b q k. search (rules, tests))) (cc)) v.yielded _ v.yielded_by _ _ _ c.in-Some.is c.next.ensures.steps) in
    let next : ℕ → Reading = λ m. read_lines a.hops m (j + 1 + 1) (drop (j + 1) ls) in
    let here = left_line a.hops v.n (j + 1) t.1 v.invariant in
    rw (st.out_after, st.lines_after, t.0)
    (left_wrong v.n (j + 1) next v.out v.lines (omega (arith, c.requires)) (omega (arith, c.requires)) what c.in-Err.why here (sym st.value ∙ c.in-Err.is))

pub returns : goal.returns
returns c =
    let a = c.args in
    let v = c.loop-i in
    let over = YieldsList-end (YieldsList-from_enumerate (YieldsList-from_slice_split _ (λ x. eqb x 10) a.text.now (cc) (cc) (cc) (λ x b q k. search (rules, tests))) (cc)) v.yielded _ v.yielded_by _ _ c.in-None.is c.next.ensures.steps in
    left_end a.hops v.n (length v.yielded + 1) (turns_over _ _ (lines_split a.text.now) (length v.yielded) over.1) v.invariant
