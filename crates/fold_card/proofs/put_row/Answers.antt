-- `fold_card::put_row` meets its contract: its five parts one behind another. Assumes nothing.
use native.Mathlib.Omega.{arith}
use Rattle.text.proofs.Puts.{put_then}
use Rattle.fold_card.specs.Shown.{row_text}
use Rattle.fold_card.proofs.put_row.Goals as goal

pub returns : goal.returns
unfolding row_text
returns c =
    let end = c.put_bytes.ensures in
    let bits = c.put_boxes-last.ensures in
    let gap = c.put_bytes-bits.ensures in
    let digits = c.put_boxes-end.ensures in
    let label = c.put_bytes-digits.ensures in
    rw (← c.hex_digit.ensures) (record { put = put_then label (put_then digits.put (put_then gap (put_then bits.put end))); value = omega (arith, label.ends, digits.value, gap.ends, bits.value, end.ends) })
