-- `tabletext::read_lines` meets its contract: before each line, what is left to be read makes all that is to be read. Assumes nothing.
use Prim.Native.Nat.{◌+◌}
use lib.ListN.{length, drop}
use Rattle.tabletext.specs.Reading.{lines_in, read_lines}
use Rattle.tabletext.proofs.Writing.{Left}
use Rattle.tabletext.proofs.read_lines.Given as goal

abbrev pub invariant-loop-i : goal.invariant-loop-i
invariant-loop-i l =
    Left (read_lines l.hops 0 1 (lines_in l.text)) l.initial.out l.initial.lines
    (read_lines l.hops l.n (length l.yielded + 1) (drop (length l.yielded) (lines_in l.text))) l.n l.out l.lines
