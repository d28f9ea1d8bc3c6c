-- `text::put_change` meets its contract. Assumes nothing.
use mathlib.Core.Path.{ap}
use mir.Syntax.{w64}
use mir.ValLaws.{to_z-of_z}
use Rattle.text.specs.Text.{signed, change_line}
use Rattle.text.proofs.Puts.{put_as, put_then}
use Rattle.text.proofs.put_change.Goals as goal

pub returns : goal.returns
unfolding change_line
returns c =
    let number = c.put_signed-end.ensures.put in
    put_then c.put_bytes-word.ensures
    (put_then (put_as (ap signed (to_z-of_z w64 c.args.change c.ranges.change)) number) c.put_byte.ensures)
