-- The class is that after the steps so far.
use Rattle.plans.proofs.Following.{Tracks}
use Rattle.plans.proofs.hitless.Change.is_kept.Given as goal

abbrev pub invariant-loop-s : goal.invariant-loop-s
invariant-loop-s l = Tracks l.self.installed.now l.self.new.now l.self.steps.now l.x l.len l.s-index l.class
