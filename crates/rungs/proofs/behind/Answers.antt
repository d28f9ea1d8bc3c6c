-- `rungs::behind` meets its contract. The loop's invariant: the records from `to` on stand behind the prefix. Assumes nothing.
use Prim.Native.Nat.{ℕ, ◌+◌, ◌-◌, ◌/◌, ◌<◌}
use mathlib.Core.Path.{◌≡◌, ◌∙◌, ap₂}
use mathlib.Core.Bool.{cond}
use mathlib.Core.Logic.{◌⊎◌}
use native.Mathlib.Omega.{arith}
use lib.Dec.{eqb, ltb}
use Rattle.records.specs.Wire.{route_at}
use Rattle.rungs.proofs.Climbing.{past-says, past-later}
use Rattle.rungs.proofs.behind.Goals as goal

pub loop-from-init : goal.loop-from-init
loop-from-init c = (omega arith, omega arith, c.requires.1, λ i l h. absurd (omega arith))

pub loop-from-preserved-then-past : goal.loop-from-preserved-then-past
loop-from-preserved-then-past c =
    let lp = c.loop-from in
    let a = c.addr_at.ensures in
    let n = c.len_at.ensures in
    let at = lp.from + (lp.to - lp.from) / 2 in
    let test = c.past.ensures in
    let p : (c.args.m < (route_at c.args.table.now at).addr) ⊎ ((c.args.m ≡ (route_at c.args.table.now at).addr) × (c.args.d < (route_at c.args.table.now at).len)) = past-says (test ∙ ap₂ (λ (e l : ℕ). cond (eqb e c.args.m) (ltb c.args.d l) (ltb c.args.m e)) a n) c.if-past.true in (
      omega arith,
      omega arith,
      lp.invariant.2,
      λ i l h. past-later c.args.table.now c.args.m c.args.d at i c.requires.0 l (omega (arith, lp.invariant.2)) p,
    )

pub loop-from-preserved : goal.loop-from-preserved
loop-from-preserved c = let lp = c.loop-from in (omega arith, lp.invariant.1, lp.invariant.2, lp.invariant.3)

pub returns : goal.returns
returns c = let lp = c.loop-from in record { high = lp.invariant.1; past = lp.invariant.3 }
