-- `hitless::Change::count_after` meets its contract. Assumes nothing.
use Prim.Native.Nat.{◌-◌}
use mathlib.Core.Path.{◌≡◌, sym, ap, ◌∙◌}
use mathlib.Core.Bool.{not, true, true≢false}
use borrow.Author.Tests.{eq-eqb}
use Rattle.std.specs.Option.{is_some}
use Rattle.records.proofs.Reading.{length-routes}
use Rattle.plans.specs.Following.{step_at}
use Rattle.plans.proofs.Following.{start_twice}
use Rattle.plans.proofs.Deciding.{done_start, step_on, step_lost}
use Rattle.plans.proofs.hitless.Change.count_after.Goals as goal
use Rattle.plans.proofs.hitless.Change.count_after.Goals.{else-s-ne0-via-then-s-ne0+then-is_none+then-stands-eq-NO_HOP+else-not-is_kept, else-s-ne0-via-then-s-ne0+then-is_none+else-stands-eq-NO_HOP, else-s-ne0-via-then-s-ne0+else-is_none, else-s-ne0-via-else-s-ne0}

pub loop-index-init : goal.loop-index-init
loop-index-init c = (done_start c.requires, sym (length-routes c.args.self.now.installed.now))

pub returns-in_err-count : goal.returns-in_err-count
returns-in_err-count c =
    let i = c.loop-index in
    rw c.from_residual.ensures
    (step_lost c.requires c.loop-index-test.true i.invariant.0 c.masked-x.ensures c.last_left-left.result c.last_left-left.ensures c.standing-stands.ensures i.invariant.1 c.in_err-count.ensures)

pub loop-index-preserved : goal.loop-index-preserved
loop-index-preserved c =
    let i = c.loop-index in
    let left = c.last_left-left.result in
    let k = c.in_ok-count.ensures in
    step_on c.requires c.loop-index-test.true i.invariant.0 c.masked-x.ensures left c.last_left-left.ensures c.standing-stands.ensures i.invariant.1 k.0 k.1
    (λ p q g. elim c.else-s-ne0.branch [
      | else-s-ne0-via-then-s-ne0+then-is_none+then-stands-eq-NO_HOP+else-not-is_kept w ↦ w.is_kept.ensures.yes w.if-not-is_kept.false
      | else-s-ne0-via-then-s-ne0+then-is_none+else-stands-eq-NO_HOP w ↦ absurd (w.if-stands-eq-NO_HOP.false g)
      | else-s-ne0-via-then-s-ne0+else-is_none w ↦
          let some : is_some left ≡ true = w.is_none.ensures ∙ ap not w.if-is_none.false in
          absurd (true≢false (sym some ∙ ap is_some q))
      | else-s-ne0-via-else-s-ne0 w ↦ absurd (true≢false (sym p ∙ ap not (eq-eqb _ 0 w.if-s-ne0.false)))
    ])

pub is_kept-requires-clause-prefix : goal.is_kept-requires-clause-prefix
is_kept-requires-clause-prefix c =
    let s = step_at c.args.self.now.steps.now c.loop-index.index in
    (c.requires.short c.loop-index.index c.loop-index-test.true, rw c.masked-x.ensures (start_twice (32 - s.len) s.addr))
