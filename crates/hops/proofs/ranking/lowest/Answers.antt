-- `hops::ranking::lowest` meets its contract. The loop's invariant: the best of the hop and of those that are left is the lowest of the set.
-- Assumes nothing.
use mathlib.Core.Path.{◌∙◌}
use native.Mathlib.Omega.{arith}
use Rattle.hops.proofs.RankLaws.{choosing_start, choosing_next, better-below, choosing_end, unranked}
use Rattle.hops.proofs.ranking.lowest.Goals as goal

pub returns-then-ranks-le-UNRANKED : goal.returns-then-ranks-le-UNRANKED
returns-then-ranks-le-UNRANKED c =
    let r = c.smallest.ensures in
    (λ s p. r.0 s p ∙ unranked c.args.ranks.now s (omega (arith, c.if-ranks-le-UNRANKED.true)) p.sorted, r.1)

pub loop-rest-init : goal.loop-rest-init
loop-rest-init c =
    (c.smallest-best.ensures.1, choosing_start c.args.ranks.now c.args.set _ _ c.requires c.smallest-best.ensures.0 c.rest_of-rest.ensures.0)

pub loop-rest-preserved : goal.loop-rest-preserved
loop-rest-preserved c =
    let a = c.args in
    let l = c.loop-rest in
    let k = c.smallest-in-loop-rest in (
      rw c.better-best.ensures (better-below a.ranks.now l.best k.result l.invariant.0 k.ensures.1),
      rw c.better-best.ensures (choosing_next a.ranks.now a.set l.best l.rest k.result _ l.invariant.1 (omega arith) k.ensures.0 c.rest_of-rest-in-loop-rest.ensures.0),
    )

pub returns : goal.returns
returns c =
    let a = c.args in
    let l = c.loop-rest in
    (choosing_end a.ranks.now a.set l.best l.rest l.invariant.1 (omega arith), l.invariant.0)
