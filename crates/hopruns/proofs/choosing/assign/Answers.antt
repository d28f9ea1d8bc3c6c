-- `hopruns::choosing::assign` meets its contract. Assumes nothing.
use Prim.Native.Nat.{◌<◌}
use mathlib.Core.Path.{sym, ◌∙◌}
use native.Mathlib.Omega.{arith}
use lib.ListN.{length}
use lib.Seq.{slice}
use Rattle.hopruns.specs.Runs.{no_hop}
use Rattle.hopruns.proofs.Merge.{run_length}
use Rattle.hopruns.proofs.Assigning.{assign_kept, assign_taken, lowest-below}
use Rattle.hopruns.proofs.choosing.assign.Goals as goal

pub returns-then-has : goal.returns-then-has
returns-then-has c =
    let a = c.args in
    let p = c.requires in
    let s = slice a.from a.to a.work.now in
    let some : 0 < length s = omega (arith, run_length a.work.now a.from a.to p, p.order) in record { result_value = assign_kept a.ranks.now a.above s some p.hops (sym c.has.ensures ∙ c.if-has.true); upper_bound = λ le. le }

pub overflow_cast-result : goal.overflow_cast-result
overflow_cast-result c =
    let a = c.args in
    let p = c.requires in
    let s = slice a.from a.to a.work.now in
    let some : 0 < length s = omega (arith, run_length a.work.now a.from a.to p, p.order) in
    omega (arith, c.choose.ensures, lowest-below a.ranks.now no_hop s some p.hops)

pub returns : goal.returns
returns c =
    let a = c.args in
    let p = c.requires in
    let s = slice a.from a.to a.work.now in
    let some : 0 < length s = omega (arith, run_length a.work.now a.from a.to p, p.order) in record { result_value = rw c.choose.ensures (assign_taken a.ranks.now a.above s some p.hops (sym c.has.ensures ∙ c.if-has.false)); upper_bound = λ le. omega (arith, c.choose.ensures, lowest-below a.ranks.now no_hop s some p.hops) }
