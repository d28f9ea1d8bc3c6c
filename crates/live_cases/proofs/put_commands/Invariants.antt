-- `put_commands` meets its contract: after i turns the first i commands are done and their lines put. Assumes nothing.
use Prim.Native.Nat.{◌+◌, ◌*◌, ◌≤◌}
use mathlib.Core.Path.{◌≡◌}
use Rattle.text.specs.Text.{Put}
use Rattle.live_cases.specs.Commands.{left_after, lines_of}
use Rattle.live_cases.proofs.put_commands.Given as goal

abbrev pub invariant-loop-i : goal.invariant-loop-i
invariant-loop-i l =
    (l.end ≤ l.at + 36 * l.i)
    × (l.room ≡ left_after l.commands l.i l.initial.room)
    × Put (lines_of l.commands l.i l.initial.room) l.at l.end l.initial.out l.out
