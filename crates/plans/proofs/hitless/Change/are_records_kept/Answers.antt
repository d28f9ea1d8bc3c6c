-- `hitless::Change::are_records_kept` meets its contract. Assumes nothing.
use borrow.Author.Count.{below_more}
use mathlib.Core.Path.{refl}
use Rattle.plans.proofs.Deciding.{prefix_facts}
use Rattle.plans.proofs.hitless.Change.are_records_kept.Goals as goal
use Rattle.plans.proofs.hitless.Change.are_records_kept.Goals.{else-not-is_own_kept-via-then-not-is_own_kept+else-not-is_kept, else-not-is_own_kept-via-else-not-is_own_kept}

pub is_kept-requires-clause-prefix : goal.is_kept-requires-clause-prefix
is_kept-requires-clause-prefix c =
    let f = prefix_facts c.requires c.loop-place.place c.loop-place-test.true c.addr_at.ensures c.len_at.ensures refl in
    (f.0, f.1)

pub loop-place-preserved : goal.loop-place-preserved
loop-place-preserved c =
    elim c.else-not-is_own_kept.branch [
      | else-not-is_own_kept-via-then-not-is_own_kept+else-not-is_kept w ↦
          below_more _ _ c.loop-place.invariant (rw (w.addr_at.ensures, w.len_at.ensures) at (w.is_kept.ensures.yes w.if-not-is_kept.false))
      | else-not-is_own_kept-via-else-not-is_own_kept w ↦ below_more _ _ c.loop-place.invariant (c.is_own_kept.ensures w.if-not-is_own_kept.false)
    ]
