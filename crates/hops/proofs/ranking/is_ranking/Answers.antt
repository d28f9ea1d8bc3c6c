-- `hops::ranking::is_ranking` meets its contract. Assumes nothing.
use Prim.Native.Nat.{◌-◌}
use mathlib.Core.Path.{◌≡◌, sym, ◌∙◌}
use mathlib.Core.Bool.{true, false}
use mathlib.Core.List.{[]}
use native.Mathlib.Omega.{arith}
use lib.ListN.{drop}
use Rattle.theory.specs.Results.{union}
use Rattle.hops.proofs.RankLaws.{tests_differing, seen_none, seen_next, seen-high, seen_twice}
use Rattle.hops.proofs.ranking.is_ranking.Goals as goal

pub loop-i-init : goal.loop-i-init
loop-i-init c = seen_none _ 64 (omega arith)

pub returns-then-r-gt-GREATEST : goal.returns-then-r-gt-GREATEST
returns-then-r-gt-GREATEST c =
    let ranks = c.args.ranks.now in
    let l = c.loop-i in
    tests_differing ranks false (omega arith) (seen-high {ranks = ranks} {i = l.i - 1} l.invariant (omega arith) (omega arith) (omega arith))

pub returns-then-has : goal.returns-then-has
returns-then-has c =
    let ranks = c.args.ranks.now in
    let l = c.loop-i in
    tests_differing ranks false (omega arith)
    (seen_twice {ranks = ranks} {i = l.i - 1} l.invariant (omega arith) (omega arith) (omega arith)
    (sym c.if-has.true ∙ c.has.ensures (union (drop l.i ranks) []) l.invariant.shown))

pub loop-i-preserved : goal.loop-i-preserved
loop-i-preserved c =
    let ranks = c.args.ranks.now in
    let l = c.loop-i in
    seen_next {ranks = ranks} {i = l.i - 1} l.invariant (omega arith) (omega arith) c.one-seen.result (omega arith)
    (sym c.if-has.false ∙ c.has.ensures (union (drop l.i ranks) []) l.invariant.shown) c.one-seen.ensures

pub returns : goal.returns
returns c =
    let z : c.loop-i.i ≡ 0 = omega arith in
    tests_differing c.args.ranks.now true (omega arith) (rw z at c.loop-i.invariant.differ)
