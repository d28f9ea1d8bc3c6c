-- `cover::query::record_over` meets its contract. The loop's invariant: there was no record on the way up to k. Assumes nothing.
use mathlib.Core.Path.{◌≡◌, sym}
use native.Mathlib.Omega.{arith}
use Rattle.cover.proofs.CoverLaws.{climb_start, climb_found, climb_next, climb_top}
use Rattle.cover.proofs.query.record_over.Goals as goal

pub loop-k-init : goal.loop-k-init
loop-k-init c = (omega arith, λ l j le lt e. climb_start _ _ l j _ le lt e)

pub returns-then-first-k : goal.returns-then-first-k
returns-then-first-k c l j le lt e =
    let s = c.loop-k in
    sym (climb_found (s.invariant.1 l j le lt e) c.if-first-k.true)

pub loop-k-preserved : goal.loop-k-preserved
loop-k-preserved c =
    let s = c.loop-k in
    let pos = c.loop-k-test.true in
    (omega arith, λ l j le lt e. climb_next (s.invariant.1 l j le lt e) pos c.if-first-k.false)

pub returns : goal.returns
returns c l j le lt e =
    let s = c.loop-k in
    let top : s.k ≡ 0 = omega (arith, c.loop-k-test.false) in
    sym (climb_top (rw top at (s.invariant.1 l j le lt e)))
