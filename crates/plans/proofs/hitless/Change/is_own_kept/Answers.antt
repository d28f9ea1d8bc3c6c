-- `hitless::Change::is_own_kept` meets its contract. Assumes nothing.
use mathlib.Core.Path.{◌≡◌, sym, ap, ◌∙◌}
use native.Mathlib.Omega.{arith}
use lib.ListN.{length, get_or}
use borrow.Author.Tests.{eqb-true}
use Rattle.rungs.specs.declared.Rungs.{Rungs}
use Rattle.plans.specs.Following.{step_at}
use Rattle.plans.proofs.Following.{for_true, for_false}
use Rattle.plans.proofs.Deciding.{prefix_facts, own_start, own-own, own-other, own_kept}
use Rattle.plans.proofs.hitless.Change.is_own_kept.Goals as goal
use Rattle.plans.proofs.hitless.Change.is_own_kept.Goals.{then-is_for+else-not-is_fine, else-is_for}

pub best_hop-requires : goal.best_hop-requires
best_hop-requires c = (prefix_facts c.requires.may c.args.place c.requires.in_records c.addr_at-x.ensures c.len_at-len.ensures c.hop_at-hop.ensures).0

pub loop-s-init : goal.loop-s-init
loop-s-init c =
    let f = prefix_facts c.requires.may c.args.place c.requires.in_records c.addr_at-x.ensures c.len_at-len.ensures c.hop_at-hop.ensures in
    rw c.fine_of-fine.ensures (own_start c.requires.may f.0 f.1 f.2 c.best_hop.result)

pub is_for-requires : goal.is_for-requires
is_for-requires c = (prefix_facts c.requires.may c.args.place c.requires.in_records c.addr_at-x.ensures c.len_at-len.ensures c.hop_at-hop.ensures).0

pub loop-s-preserved : goal.loop-s-preserved
loop-s-preserved c =
    let l = c.loop-s in
    let a = c.args in
    let f = prefix_facts c.requires.may c.args.place c.requires.in_records c.addr_at-x.ensures c.len_at-len.ensures c.hop_at-hop.ensures in
    elim c.if-is_for.branch [
      | then-is_for+else-not-is_fine w ↦
          rw w.own-is (own-own a.self.now.installed.now a.self.now.steps.now c.loop-s-test.true l.invariant (for_true f.1 (step_at a.self.now.steps.now l.s-index) c.is_for.ensures w.if-is_for.true)
          w.left-own.ensures (sym w.is_fine.ensures ∙ w.if-not-is_fine.false))
      | else-is_for w ↦
          rw w.own-is (own-other a.self.now.installed.now a.self.now.steps.now c.loop-s-test.true l.invariant (for_false f.1 (step_at a.self.now.steps.now l.s-index) c.is_for.ensures w.if-is_for.false))
    ]

pub bounds-goal-len : goal.bounds-goal-len
bounds-goal-len c =
    let le = (prefix_facts c.requires.may c.args.place c.requires.in_records c.addr_at-x.ensures c.len_at-len.ensures c.hop_at-hop.ensures).0 in
    omega arith

pub returns : goal.returns
returns c =
    let e : c.loop-s.s-index ≡ length c.args.self.now.steps.now = omega arith in
    let f = prefix_facts c.requires.may c.args.place c.requires.in_records c.addr_at-x.ensures c.len_at-len.ensures c.hop_at-hop.ensures in
    λ y. let k = own_kept c.requires.may f.0 f.1 f.2 (rw (e, c.fine_of-fine.ensures, c.best_hop.ensures, c.climb-goal.ensures) at c.loop-s.invariant)
    (ap (λ (r : Rungs). get_or r.hops c.len_at-len.result 0) c.climb-goal.ensures) (eqb-true _ _ y) in
    rw (c.addr_at-x.ensures, c.len_at-len.ensures) at k
