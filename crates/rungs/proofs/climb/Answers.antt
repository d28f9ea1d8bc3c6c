-- `rungs::climb` meets its contract. The loop's invariant is `Climbing`. Assumes nothing.
use Prim.Native.Nat.{◌+◌, ◌-◌}
use mathlib.Core.Path.{◌≡◌, sym, ap, ◌∙◌}
use native.Mathlib.Omega.{arith}
use Rattle.records.specs.Wire.{route_at}
use Rattle.rungs.specs.Rungs.{with_top}
use Rattle.rungs.proofs.Climbing.{climbing_start, climbing_end, climbing_skip, climbing_held, valid_at, within-matches}
use Rattle.rungs.proofs.climb.Goals as goal

pub loop-k-init : goal.loop-k-init
loop-k-init c = climbing_start c.args.table.now c.args.x

pub addr_at-addr-requires : goal.addr_at-addr-requires
addr_at-addr-requires c = omega (arith, c.loop-k.invariant.high, c.loop-k-test.true)

pub len_at-len-requires : goal.len_at-len-requires
len_at-len-requires c = omega (arith, c.loop-k.invariant.high, c.loop-k-test.true)

pub contains-requires : goal.contains-requires
contains-requires c =
    let l = c.loop-k in
    omega (arith, c.len_at-len.ensures, (valid_at c.args.table.now (l.k - 1) c.requires (omega (arith, l.invariant.high, c.loop-k-test.true))).short)

pub hop_at-requires : goal.hop_at-requires
hop_at-requires c = omega (arith, c.loop-k.invariant.high, c.loop-k-test.true)

pub overflow_cast-hops : goal.overflow_cast-hops
overflow_cast-hops c =
    let l = c.loop-k in
    omega (arith, c.len_at-len.ensures, (valid_at c.args.table.now (l.k - 1) c.requires (omega (arith, l.invariant.high, c.loop-k-test.true))).short)

pub bounds-hops-len : goal.bounds-hops-len
bounds-hops-len c =
    let l = c.loop-k in
    omega (arith, c.len_at-len.ensures, (valid_at c.args.table.now (l.k - 1) c.requires (omega (arith, l.invariant.high, c.loop-k-test.true))).short)

pub loop-k-smaller-then-contains : goal.loop-k-smaller-then-contains
loop-k-smaller-then-contains c = let some = c.loop-k-test.true in omega arith

pub loop-k-preserved-then-contains : goal.loop-k-preserved-then-contains
loop-k-preserved-then-contains c =
    let l = c.loop-k in
    let some = c.loop-k-test.true in
    let t = c.args.table.now in
    let is : l.k - 1 + 1 ≡ l.k = omega arith in
    let valid = valid_at t (l.k - 1) c.requires (omega (arith, l.invariant.high)) in
    let len = c.len_at-len.ensures in
    let test = sym c.contains.ensures ∙ c.if-contains.true in
    rw (len, c.hop_at.ensures) (climbing_held l.invariant is valid (within-matches (route_at t (l.k - 1)) _ _ _ c.addr_at-addr.ensures len valid.short test))

pub skipped-k-requires : goal.skipped-k-requires
skipped-k-requires c =
    let l = c.loop-k in
    ((c.requires, omega (arith, l.invariant.high, c.loop-k-test.true)), c.addr_at-addr.ensures)

pub loop-k-smaller : goal.loop-k-smaller
loop-k-smaller c = let some = c.loop-k-test.true in omega (arith, c.skipped-k.ensures.high)

pub loop-k-preserved : goal.loop-k-preserved
loop-k-preserved c =
    let l = c.loop-k in
    let some = c.loop-k-test.true in
    let t = c.args.table.now in
    let is : l.k - 1 + 1 ≡ l.k = omega arith in
    let valid = valid_at t (l.k - 1) c.requires (omega (arith, l.invariant.high)) in
    let test = sym c.contains.ensures ∙ c.if-contains.false in
    climbing_skip l.invariant is
    (within-matches (route_at t (l.k - 1)) _ _ _ c.addr_at-addr.ensures c.len_at-len.ensures valid.short test)
    c.skipped-k.ensures

pub with_top-requires : goal.with_top-requires
with_top-requires c = tt

pub returns : goal.returns
returns c = c.with_top.ensures ∙ ap with_top (climbing_end c.loop-k.invariant (omega (arith, c.loop-k-test.false)))
