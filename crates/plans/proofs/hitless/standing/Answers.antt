-- `hitless::standing` meets its contract. Assumes nothing.
use mathlib.Core.Path.{ap, ◌∙◌}
use Rattle.rungs.specs.declared.Rungs.{Rungs}
use lib.ListN.{get_or}
use Rattle.records.specs.Wire.{routes}
use Rattle.plans.proofs.Deciding.{own-number}
use Rattle.plans.proofs.hitless.standing.Goals as goal

pub returns-in-None : goal.returns-in-None
returns-in-None c = let a = c.args in rw c.in-None.is (ap (λ (r : Rungs). get_or r.hops a.len 0) c.climb.ensures ∙ own-number (routes a.installed.now) a.x a.len c.requires.prefix.0 c.requires.prefix.1)
