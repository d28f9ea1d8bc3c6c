-- The prefix has this hop after the steps so far, and a fine one after each of them.
use Rattle.plans.proofs.Deciding.{OwnAt}
use Rattle.plans.proofs.hitless.Change.is_own_kept.Given as goal

abbrev pub invariant-loop-s : goal.invariant-loop-s
invariant-loop-s l = OwnAt l.self.installed.now l.self.steps.now l.x l.len l.fine l.s-index l.own
