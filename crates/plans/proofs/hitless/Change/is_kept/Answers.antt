-- `hitless::Change::is_kept` meets its contract. Assumes nothing.
use Prim.Native.Nat.{suc, ◌+◌}
use mathlib.Core.Path.{◌≡◌, sym, ap, ◌∙◌}
use mathlib.Core.Bool.{true≢false}
use native.Mathlib.Omega.{arith}
use lib.ListN.{length, get_or}
use Rattle.rungs.specs.declared.Rungs.{Rungs}
use Rattle.plans.proofs.Following.{tracks_start, tracks_held, tracks_other}
use Rattle.plans.proofs.Deciding.{class_good, class_none, class_lost, class_astray}
use Rattle.plans.proofs.hitless.Change.is_kept.Goals as goal
use Rattle.plans.proofs.hitless.Change.is_kept.Goals.{then-s-len+then-holds, else-s-len, else-s-len-via-then-s-len+else-holds, else-s-len-via-else-s-len}

pub loop-s-init : goal.loop-s-init
loop-s-init c = rw (c.class_before-class.ensures, c.climb-old.ensures, c.climb-goal.ensures) (tracks_start c.requires.may c.args.x c.args.len c.requires.prefix.0)

pub loop-s-preserved : goal.loop-s-preserved
loop-s-preserved c =
    let l = c.loop-s in
    let le = c.requires.prefix.0 in
    let z = l.invariant in
    let s : suc l.s-index ≡ l.s-index + 1 = omega arith in
    elim c.if-s-len.branch [
      | then-s-len+then-holds w ↦ rw (w.class-is, w.answered-class.ensures, sym s) (tracks_held c.requires.may le z c.loop-s-test.true (sym w.holds.ensures ∙ w.if-holds.true) w.if-s-len.true)
      | else-s-len w ↦ rw (w.class-is, sym s) (tracks_other c.requires.may le z c.loop-s-test.true (λ h e.
          elim w.else-s-len.branch [
            | else-s-len-via-then-s-len+else-holds w' ↦ true≢false (sym e ∙ sym w'.holds.ensures ∙ w'.if-holds.false)
            | else-s-len-via-else-s-len w' ↦ omega arith
          ]))
    ]

pub returns-then-class-clause-yes : goal.returns-then-class-clause-yes
returns-then-class-clause-yes c =
    let e : c.loop-s.s-index ≡ length c.args.self.now.steps.now = omega arith in
    class_good c.requires.may c.requires.prefix.0 c.requires.prefix.1 (rw e at c.loop-s.invariant) (ap (λ (r : Rungs). get_or r.hops c.args.len 0) c.climb-goal.ensures) c.if-class-goal.true

pub returns-else-class-clause-yes : goal.returns-else-class-clause-yes
returns-else-class-clause-yes c =
    let e : c.loop-s.s-index ≡ length c.args.self.now.steps.now = omega arith in
    λ y. class_none c.requires.may c.requires.prefix.0 c.requires.prefix.1 (rw e at c.loop-s.invariant) (ap (λ (r : Rungs). get_or r.hops c.args.len 0) c.climb-goal.ensures) c.if-class-goal.true (c.is_class_empty.ensures.yes y)

pub returns-else-class-clause-no : goal.returns-else-class-clause-no
returns-else-class-clause-no c =
    let e : c.loop-s.s-index ≡ length c.args.self.now.steps.now = omega arith in
    λ y. let z = c.is_class_empty.ensures.no y in
    class_astray c.requires.may c.requires.prefix.0 c.requires.prefix.1 (rw e at c.loop-s.invariant) (ap (λ (r : Rungs). get_or r.hops c.args.len 0) c.climb-goal.ensures) c.if-class.false z.0 z.1 z.2 z.3

pub returns-else-class-goal-clause-no : goal.returns-else-class-goal-clause-no
returns-else-class-goal-clause-no c =
    let e : c.loop-s.s-index ≡ length c.args.self.now.steps.now = omega arith in
    λ y. class_lost c.requires.may c.requires.prefix.0 c.requires.prefix.1 (rw e at c.loop-s.invariant) (ap (λ (r : Rungs). get_or r.hops c.args.len 0) c.climb-goal.ensures) c.if-class-goal.false
