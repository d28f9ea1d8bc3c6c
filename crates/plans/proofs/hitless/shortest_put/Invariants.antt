-- The prefix found among the steps so far, if one of them puts one.
use Rattle.std.specs.Prelude.{ℕ, ◌<◌, ◌≤◌, MatchOption}
use Rattle.plans.specs.Deciding.{PutBy}
use Rattle.plans.proofs.hitless.shortest_put.Given as goal

abbrev pub invariant-loop-s : goal.invariant-loop-s
invariant-loop-s l = MatchOption l.found ((k : ℕ) → l.len < k → PutBy l.steps l.s-index l.y k → ⊥) (λ k. (l.len < k) × (k ≤ 32) × PutBy l.steps l.s-index l.y k)
