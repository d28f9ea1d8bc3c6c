-- `cover::query::record_over` meets its contract. The loop's invariant: there was no record on the way up to k. Assumes nothing.
use Prim.Native.Nat.{ℕ, ◌^◌, ◌≤◌, ◌<◌}
use mathlib.Core.Path.{◌≡◌}
use Rattle.words.specs.Positions.{position}
use Rattle.cover.proofs.CoverLaws.{Climbed}
use Rattle.cover.proofs.query.record_over.Given as goal

abbrev pub invariant-loop-k : goal.invariant-loop-k
invariant-loop-k l = (l.k < 31) × ((m j : ℕ) → m ≤ 4 → j < 2 ^ m → l.b ≡ position m j → Climbed l.first l.end m j l.k)

abbrev pub decreases-loop-k : goal.decreases-loop-k
decreases-loop-k l = l.k
