-- `hopruns::leaves::lay_leaves` meets its contract. The loop's invariant: the words of the pairs from p on are laid. Assumes nothing.
use Prim.Native.Nat.{suc, ◌+◌, ◌-◌}
use mathlib.Core.Path.{◌≡◌}
use native.Mathlib.Omega.{arith}
use Rattle.hopruns.proofs.LeafLaws.{leaves_none, leaves_next}
use Rattle.hopruns.proofs.leaves.lay_leaves.Goals as goal

pub loop-p-init : goal.loop-p-init
loop-p-init c =
    let all : c.args.top - 16 + 16 ≡ c.args.top = omega (arith, c.requires.0) in
    (omega arith, all, rw all (leaves_none _ _ _ _))

pub loop-p-preserved : goal.loop-p-preserved
loop-p-preserved c =
    let l = c.loop-p in
    let p = c.requires in
    let z : 16 - l.p ≡ 16 - suc (l.p - 1) = omega arith in
    let e : c.args.top - 16 + l.p - 1 ≡ c.args.top - 16 + (l.p - 1) = omega arith in
    (omega arith, l.invariant.1, rw e at (leaves_next _ _ (l.p - 1) _ (omega (arith, l.invariant.0)) (rw z at l.invariant.2) c.leaf_value.ensures (omega arith) p.1))
