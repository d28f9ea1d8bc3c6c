-- The records so far are the same routes.
use Rattle.plans.proofs.Unchanged.{SameTo}
use Rattle.plans.proofs.hitless.Change.is_same.Given as goal

abbrev pub invariant-loop-i : goal.invariant-loop-i
invariant-loop-i l = SameTo l.self.installed.now l.self.new.now l.i
