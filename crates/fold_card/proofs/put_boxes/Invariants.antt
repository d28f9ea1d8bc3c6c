-- `fold_card::put_boxes` meets its contract: after `low` turns the lines of the first `low` boxes are put. Assumes nothing.
use mathlib.Core.Path.{◌≡◌}
use Prim.Native.Nat.{◌+◌, ◌*◌}
use Rattle.text.specs.Text.{Put}
use Rattle.fold_card.specs.Shown.{boxes}
use Rattle.fold_card.proofs.put_boxes.Given as goal

abbrev pub invariant-loop-low : goal.invariant-loop-low
invariant-loop-low l =
    (l.end ≡ l.at + l.low * 7) × Put (boxes l.lower l.card l.high l.low) l.at l.end l.initial.out l.out
