-- What the last of the steps so far left.
use Rattle.plans.specs.Deciding.{LastLeft}
use Rattle.plans.proofs.hitless.last_left.Given as goal

abbrev pub invariant-loop-s : goal.invariant-loop-s
invariant-loop-s l = LastLeft l.steps l.x l.len l.s-index l.found
