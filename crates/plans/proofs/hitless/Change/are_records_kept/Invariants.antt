-- The records so far are kept.
use Rattle.std.specs.Prelude.{ℕ, ◌<◌}
use Rattle.records.specs.Wire.{route_at}
use Rattle.plans.specs.Deciding.{Kept}
use Rattle.plans.proofs.hitless.Change.are_records_kept.Given as goal

abbrev pub invariant-loop-place : goal.invariant-loop-place
invariant-loop-place l = (i : ℕ) → i < l.place → Kept l.self.installed.now l.self.new.now l.self.steps.now (route_at l.self.installed.now i).addr (route_at l.self.installed.now i).len
