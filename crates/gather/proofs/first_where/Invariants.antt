-- `gather::first_where` meets its contract. The loop's invariant: none of the numbers from i up to k passes. Assumes nothing.
use Prim.Native.Nat.{ℕ, ◌≤◌, ◌<◌}
use mathlib.Core.Bool.{false}
use Rattle.gather.proofs.first_where.Given as goal

abbrev pub invariant-loop-k : goal.invariant-loop-k
invariant-loop-k g l = (n : ℕ) → l.i ≤ n → n < l.k → goal.F-post g l.passes n false
