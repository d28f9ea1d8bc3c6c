-- Each address of the prefix below y is held by a longer one.
use Rattle.std.specs.Prelude.{◌-◌, ◌≤◌}
use Rattle.plans.proofs.Deciding.{Covered}
use Rattle.plans.proofs.hitless.Change.is_class_empty.Given as goal

abbrev pub invariant-loop-y : goal.invariant-loop-y
invariant-loop-y l = (l.x ≤ l.y) × Covered l.self.installed.now l.self.new.now l.self.steps.now l.x l.len l.y

abbrev pub decreases-loop-y : goal.decreases-loop-y
decreases-loop-y l = l.end - l.y
