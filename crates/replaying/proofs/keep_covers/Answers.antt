-- `keep_covers` meets its contract: the query leaves the room zero, so that no line about it is kept. Assumes nothing.
use mathlib.Core.Path.{ap, ◌∙◌}
use Prim.Native.Nat.{ℕ}
use Rattle.text.proofs.Puts.{put_as}
use Rattle.replaying.specs.Answers.{cover_answer}
use Rattle.kept.proofs.KeptLaws.{put_at}
use Rattle.replaying.proofs.AnswerLaws.{covers_kept, covers_zero}
use Rattle.replaying.proofs.keep_covers.Goals as goal

pub returns : goal.returns
returns c =
    let s = c.args in
    let fill = c.fill in
    let done = c.covers-answer in
    let nothing = c.keep_work.ensures (covers_zero done.ensures) in
    put_at c.room_for-begin.ensures.value nothing.0 nothing.1
    (put_as
    (covers_kept _ _ _ _ _ _ done.ensures.answer
    ∙ ap (λ (words : ℕ). cover_answer s.form s.table.now s.address s.len words) fill.ensures.len)
    c.put_covers-end.ensures)
