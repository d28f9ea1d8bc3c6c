-- `hitless::Change::is_same` meets its contract. Assumes nothing.
use mathlib.Core.Path.{sym, ◌∙◌}
use native.Mathlib.Omega.{arith}
use Rattle.plans.proofs.Unchanged.{same_begin, same_next, other_route, same_all, other_many}
use Rattle.plans.proofs.hitless.Change.is_same.Goals as goal

pub returns-then-n-self-clause-no : goal.returns-then-n-self-clause-no
returns-then-n-self-clause-no c =
    let a = c.args in
    λ f. other_many a.self.now.installed.now a.self.now.new.now (λ e. omega (arith, c.if-n-self.true))

pub loop-i-init : goal.loop-i-init
loop-i-init c = same_begin c.args.self.now.installed.now c.args.self.now.new.now

pub returns-then-not-is_same_at-clause-no : goal.returns-then-not-is_same_at-clause-no
returns-then-not-is_same_at-clause-no c =
    let a = c.args in
    λ f. other_route a.self.now.installed.now a.self.now.new.now (omega arith) (omega arith) c.loop-i.invariant (sym c.is_same_at.ensures ∙ c.if-not-is_same_at.true)

pub loop-i-preserved : goal.loop-i-preserved
loop-i-preserved c =
    let a = c.args in
    same_next a.self.now.installed.now a.self.now.new.now (omega arith) (omega arith) c.loop-i.invariant (sym c.is_same_at.ensures ∙ c.if-not-is_same_at.false)

pub returns-clause-yes : goal.returns-clause-yes
returns-clause-yes c =
    let a = c.args in
    λ y. same_all a.self.now.installed.now a.self.now.new.now (omega arith) (omega arith) c.loop-i.invariant
