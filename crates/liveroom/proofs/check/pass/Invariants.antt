-- `check::pass` goes through the records once. Assumes nothing.
use Prim.Native.Nat.{◌+◌, ◌*◌, ◌≤◌}
use mathlib.Core.Path.{◌≡◌}
use Rattle.nodecount.proofs.NodeCount.{root, passed}
use Rattle.nodecount.specs.Nodes.{bare}
use Rattle.liveroom.specs.Rooms.{shown_from, after, lawful}
use Rattle.liveroom.proofs.Reading.{rest_in}
use Rattle.liveroom.proofs.check.pass.Given as goal

abbrev pub invariant-loop-i : goal.invariant-loop-i
invariant-loop-i l =
    (l.last_len ≤ 32)
    × (l.count ≤ 1 + 6 * l.i)
    × (lawful (shown_from l.room 0 l.n) ≡ after (bare l.last_addr l.last_len) (rest_in l.room l.n l.i))
    × (l.count + passed 32 (bare l.last_addr l.last_len) (rest_in l.room l.n l.i) ≡ 1 + passed 32 root (shown_from l.room 0 l.n))
