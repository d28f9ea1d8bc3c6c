-- `keep_rewritten` meets its contract: the records stand in the output, so that at most 65,535 bytes of records are kept; the rewrite leaves the room zero
-- and the output past the records as it was, so that no line about them is. Assumes nothing.
use mathlib.Core.Path.{ap, ap₂, ◌∙◌}
use native.Mathlib.Omega.{arith}
use Prim.Native.Nat.{ℕ}
use mathlib.Core.Bool.{true}
use lib.Dec.{ltb}
use lib.ListN.{length}
use Rattle.calls.proofs.Refusals.{rewrite_guarded}
use Rattle.text.specs.Answers.{rewritten_text}
use Rattle.text.proofs.Puts.{put_as}
use Rattle.text.proofs.Replies.{rewritten_text_lem, rewritten_fits}
use Rattle.replaying.specs.Answers.{rewrite_answer}
use Rattle.kept.proofs.KeptLaws.{put_at}
use Rattle.replaying.proofs.AnswerLaws.{rewrite_zero, output-filled}
use Rattle.replaying.proofs.keep_rewritten.Goals as goal

pub put_rewritten-end-requires : goal.put_rewritten-end-requires
put_rewritten-end-requires c =
    let size = c.size_of-size.ensures in
    let done = c.rewrite-answer in
    let fits = rewritten_fits _ _ _ _ _ _ _ _ _ _ done.ensures in record { size = (size.size, rw size.value fits); answer_in_bounds = rw size.value (omega (arith, fits, done.auto.output, c.fill.auto.self, c.requires.output_len_bound, c.room_for-begin.ensures.result_in_bounds)) }

pub keep_work-after-requires : goal.keep_work-after-requires
keep_work-after-requires c =
    let text = c.put_rewritten-end in
    let long = c.requires.in_bounds in record { at_in_bounds = omega (arith, text.ensures.fits, text.auto.out); in_bounds = omega (arith, text.auto.out, long) }

pub written-requires : goal.written-requires
written-requires c =
    let size = c.size_of-size.ensures in
    let done = c.rewrite-answer in
    (size.size, rw size.value (omega (arith, rewritten_fits _ _ _ _ _ _ _ _ _ _ done.ensures, done.auto.output, c.fill.auto.self, c.requires.output_len_bound)))

pub keep_output-requires : goal.keep_output-requires
keep_output-requires c =
    let text = c.put_rewritten-end in
    let work = c.keep_work-after in
    let nothing = work.ensures (rewrite_zero c.rewrite-answer.ensures) in
    record { at_in_bounds = omega (arith, text.ensures.fits, text.auto.out, nothing.0, work.auto.kept, c.requires.in_bounds); in_bounds = omega (arith, text.ensures.fits, text.auto.out, nothing.0, work.auto.kept, c.requires.in_bounds) }

pub shape_of-output : goal.shape_of-output
shape_of-output c = omega (arith, c.rewrite-answer.auto.output, c.fill.auto.self)

pub returns : goal.returns
returns c =
    let s = c.args in
    let size = c.size_of-size.ensures.value in
    let bytes = c.fill in
    let words = c.fill-2 in
    let done = c.rewrite-answer in
    let nothing = c.keep_work-after.ensures (rewrite_zero done.ensures) in
    let neither =
    c.keep_output.ensures
    (rw (c.written.ensures, size) (output-filled _ _ _ _ _ _ _ (rewrite_guarded _ _ _ _ _ _ _) _ 165 (length s.output.now) (bytes.ensures.after (λ y e. e)) _ done.ensures.inner)) in
    put_at c.room_for-begin.ensures.value (neither.0 ∙ nothing.0) (neither.1 ∙ nothing.1)
    (put_as
    (ap (λ (n : ℕ). rewritten_text n true (ltb 1 s.mode) done.result done.new.output) size
    ∙ rewritten_text_lem _ _ _ _ _ _ _ _ _ true (ltb 1 s.mode) (λ k. (c.type_inv.table k).fits) _ done.ensures
    ∙ ap₂ (rewrite_answer s.form s.table.now s.mode s.default s.ranks.now) bytes.ensures.len words.ensures.len)
    c.put_rewritten-end.ensures)
