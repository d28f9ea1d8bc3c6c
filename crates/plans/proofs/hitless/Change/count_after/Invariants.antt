-- The steps so far are done with, and this is the number of routes then.
use Rattle.std.specs.Prelude.{◌≡◌, length}
use Rattle.plans.specs.Deciding.{table_after, Done}
use Rattle.plans.proofs.hitless.Change.count_after.Given as goal

abbrev pub invariant-loop-index : goal.invariant-loop-index
invariant-loop-index l = Done l.self.installed.now l.self.new.now l.self.steps.now l.index × (l.count ≡ length (table_after l.self.installed.now l.self.steps.now l.index))
