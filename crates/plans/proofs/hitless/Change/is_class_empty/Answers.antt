-- `hitless::Change::is_class_empty` meets its contract. Assumes nothing.
use Prim.Native.Nat.{◌-◌}
use native.Mathlib.Omega.{arith}
use Rattle.theory.proofs.Blocks.{in_start}
use Rattle.plans.proofs.Deciding.{end_fits, in_prefix, covered_next}
use Rattle.plans.proofs.hitless.Change.is_class_empty.Goals as goal

pub overflow_cast-y-in-loop-y : goal.overflow_cast-y-in-loop-y
overflow_cast-y-in-loop-y c =
    let a = c.args in
    let h = end_fits c.requires.may c.requires.prefix.0 c.ranges.x.fits c.requires.prefix.1 in
    record { fits = omega (arith, c.behind-end.ensures) }

pub returns-in-None-clause-no : goal.returns-in-None-clause-no
returns-in-None-clause-no c =
    let y = c.loop-y.y in
    let h = end_fits c.requires.may c.requires.prefix.0 c.ranges.x.fits c.requires.prefix.1 in
    λ e. (y, omega (arith, c.behind-end.ensures), in_prefix c.requires.may c.requires.prefix.0 c.ranges.x.fits c.requires.prefix.1 y c.loop-y.invariant.0 (omega (arith, c.behind-end.ensures)), c.in-None.ensures)

pub overflow_cast-y-in-Some : goal.overflow_cast-y-in-Some
overflow_cast-y-in-Some c =
    let h = end_fits c.requires.may c.requires.prefix.0 c.ranges.x.fits c.requires.prefix.1 in
    record { fits = omega (arith, c.behind-end.ensures) }

pub loop-y-preserved : goal.loop-y-preserved
loop-y-preserved c =
    let l = c.loop-y in
    let z = c.in-Some.ensures in
    let h = in_start (32 - c.in-Some.longer) l.y in
    (let low = l.invariant.0 in let low2 = h.0 in let high = h.1 in omega arith, rw (c.behind-y.ensures, c.masked.ensures) (covered_next c.requires.may c.requires.prefix.0 c.ranges.x.fits c.requires.prefix.1 z.0 z.1 z.2 l.invariant.1))
