-- `text::put_records` meets its contract: after i turns the lines of the first i records are put. Assumes nothing.
use Prim.Native.Nat.{◌+◌, ◌*◌, ◌≤◌}
use Rattle.records.specs.Sized.{routes_from_in}
use Rattle.text.specs.Text.{Put, lines_in}
use Rattle.text.proofs.put_records.Given as goal

abbrev pub invariant-loop-i : goal.invariant-loop-i
invariant-loop-i l =
    (l.end ≤ l.at + 3 * (l.size * l.i)) × Put (lines_in l.size l.style.hex l.style.hops (routes_from_in l.size l.table 0 l.i)) l.at l.end l.initial.out l.out
