-- `keep_plain` meets its contract: the records stand in the output, so that at most 65,535 bytes of records are kept; the output past them is as it was, so
-- that no line about it is. Assumes nothing.
use mathlib.Core.Path.{ap, ◌∙◌}
use native.Mathlib.Omega.{arith}
use Prim.Native.Nat.{ℕ}
use mathlib.Core.Bool.{true}
use lib.Dec.{ltb}
use lib.ListN.{length}
use Rattle.plain.proofs.Calls.{plain_guarded}
use Rattle.text.specs.Answers.{rewritten_text}
use Rattle.text.proofs.Puts.{put_as}
use Rattle.text.proofs.Replies.{by_text, by_fits}
use Rattle.replaying.specs.Answers.{plain_answer}
use Rattle.kept.proofs.KeptLaws.{put_at}
use Rattle.replaying.proofs.AnswerLaws.{output-filled}
use Rattle.replaying.proofs.keep_plain.Goals as goal

pub put_rewritten-end-requires : goal.put_rewritten-end-requires
put_rewritten-end-requires c =
    let size = c.size_of-size.ensures in
    let done = c.rewrite-answer in
    let filled = c.fill.auto.self in
    let fits = by_fits _ _ _ _ _ _ _ (plain_guarded _ _ _ _ _ _) _ _ done.ensures in record { size = (size.size, rw size.value fits); answer_in_bounds = rw size.value (omega (arith, fits, done.auto.output, filled, c.requires.output_len_bound, c.room_for-begin.ensures.result_in_bounds)) }

pub written-requires : goal.written-requires
written-requires c =
    let size = c.size_of-size.ensures in
    let done = c.rewrite-answer in
    let filled = c.fill.auto.self in
    (size.size, rw size.value (omega (arith, by_fits _ _ _ _ _ _ _ (plain_guarded _ _ _ _ _ _) _ _ done.ensures, done.auto.output, filled, c.requires.output_len_bound)))

pub returns : goal.returns
returns c =
    let s = c.args in
    let size = c.size_of-size.ensures.value in
    let bytes = c.fill in
    let done = c.rewrite-answer in
    let nothing =
    c.keep_output.ensures
    (rw (c.written.ensures, size) (output-filled _ _ _ _ _ _ _ (plain_guarded _ _ _ _ _ _) _ 165 (length s.output.now) (bytes.ensures.after (λ y e. e)) _ done.ensures)) in
    put_at c.room_for-begin.ensures.value nothing.0 nothing.1
    (put_as
    (ap (λ (n : ℕ). rewritten_text n true (ltb 1 s.mode) done.result done.new.output) size
    ∙ by_text _ _ _ _ _ _ _ (plain_guarded _ _ _ _ _ _) _ true (ltb 1 s.mode) (λ k. (c.type_inv.table k).fits) _ done.ensures
    ∙ ap (plain_answer s.form s.table.now s.mode s.default s.ranks.now) bytes.ensures.len)
    c.put_rewritten-end.ensures)
