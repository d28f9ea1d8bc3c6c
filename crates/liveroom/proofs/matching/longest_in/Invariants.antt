-- `matching::longest_in` goes back from place to place. The loop's invariant: no record from i on matches, and those before it stand at no higher address.
-- Assumes nothing.
use Prim.Native.Nat.{ℕ, ◌≤◌, ◌<◌}
use mathlib.Core.Path.{◌≡◌}
use mathlib.Core.Bool.{false}
use Rattle.theory.specs.Routes.{matches}
use Rattle.liveroom.specs.Rooms.{route_in}
use Rattle.liveroom.proofs.matching.longest_in.Given as goal

abbrev pub invariant-loop-i : goal.invariant-loop-i
invariant-loop-i l =
    (l.i ≤ l.n)
    × ((k : ℕ) → l.i ≤ k → k < l.n → matches 32 (route_in l.room k) l.address ≡ false)
    × ((k : ℕ) → k < l.i → (route_in l.room k).addr ≤ l.address)

abbrev pub decreases-loop-i : goal.decreases-loop-i
decreases-loop-i l = l.i
