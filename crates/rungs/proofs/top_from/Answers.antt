-- `rungs::top_from` meets its contract. Assumes nothing.
use Prim.Native.Nat.{ℕ, suc, ◌-◌}
use mathlib.Core.Path.{◌≡◌, sym, ap, ◌∙◌}
use native.Mathlib.Omega.{arith}
use lib.ListN.{get_or}
use Rattle.rungs.specs.Rungs.{top_from}
use Rattle.rungs.proofs.Rows.{top-low, top-bare, top-hop}
use Rattle.rungs.proofs.top_from.Goals as goal

pub returns-then-hops-l-ne-NO_HOP : goal.returns-then-hops-l-ne-NO_HOP
returns-then-hops-l-ne-NO_HOP c = let l = c.loop-l in sym (l.invariant.1 ∙ top-hop _ (l.l - 1) c.if-hops-l-ne-NO_HOP.true)

pub loop-l-preserved : goal.loop-l-preserved
loop-l-preserved c =
    let a = c.args in
    let l = c.loop-l in
    let e : l.l - 1 ≡ suc (l.l - 1 - 1) = omega arith in
    let bare : get_or a.hops.now (l.l - 1) 0 ≡ 64 = c.if-hops-l-ne-NO_HOP.false in
    (omega arith, l.invariant.1 ∙ ap (top_from a.hops.now) e ∙ top-bare a.hops.now (l.l - 1 - 1) (ap (λ (k : ℕ). get_or a.hops.now k 0) (sym e) ∙ bare))

pub returns : goal.returns
returns c = let l = c.loop-l in let e : l.l - 1 ≡ 0 = omega arith in sym (l.invariant.1 ∙ go _ e)
  where
    go : (k : ℕ) → k ≡ 0 → top_from c.args.hops.now k ≡ 0
    go k e = omega (arith, top-low c.args.hops.now k)
