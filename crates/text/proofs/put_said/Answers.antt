-- `text::put_said` meets its contract. Assumes nothing.
use mathlib.Core.List.{append_assoc}
use Rattle.text.specs.Text.{refused_line}
use Rattle.text.proofs.Puts.{put_as, put_then}
use Rattle.text.proofs.put_said.Goals as goal

pub returns : goal.returns
unfolding refused_line
returns c =
    let front = put_then c.put_bytes-word.ensures c.put_octet-end.ensures.put in
    let back = put_then c.put_bytes-place.ensures c.put_last.ensures.put in
    put_as (simp append_assoc) (put_then front back)
