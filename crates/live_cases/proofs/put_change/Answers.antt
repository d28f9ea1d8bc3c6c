-- `put_change` puts the line of the call: where the room is to stay, it stays. Assumes nothing.
use mathlib.Core.Path.{sym, ap, ◌∙◌}
use native.Mathlib.Omega.{arith}
use Rattle.text.proofs.Puts.{put_as}
use Rattle.live_cases.specs.Lines.{kept_line}
use Rattle.live_cases.proofs.Laid.{put_same}
use Rattle.live_cases.proofs.Carried.{stays-left}
use borrow.Author.Rules.{rules}
use Rattle.live_cases.proofs.put_change.Goals as goal

pub returns-then-room_stays : goal.returns-then-room_stays
returns-then-room_stays c =
    let change = c.change-answer.ensures in
    let put = c.put_kept-end.ensures in
    let s = stays-left c.args.command (λ k. search rules) c.change-answer.result change.0 (sym c.room_stays.ensures ∙ c.if-room_stays.true) in
    let t = c.put_touched.ensures (c.copy_from_slice.ensures.after ∙ sym s ∙ sym change.1) in record { put = (put_same t.0 t.1 (put_as (ap kept_line change.0) put.0), omega (arith, put.1, t.0)); room_after = change.1 }

pub returns : goal.returns
returns c =
    let change = c.change-answer.ensures in
    let put = c.put_kept-end.ensures in record { put = (put_as (ap kept_line change.0) put.0, put.1); room_after = change.1 }
