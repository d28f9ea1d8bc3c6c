-- `list_text` meets its contract: the records stand in the output, so that their lines fit; the output past them is as it was, so that no line about it
-- is kept. Assumes nothing.
use mathlib.Core.Bool.{true}
use mathlib.Core.Path.{refl, ap, ap₂, ◌∙◌}
use Prim.Native.Nat.{ℕ}
use native.Mathlib.Omega.{arith}
use lib.ListN.{length}
use Rattle.std.specs.Prelude.{Result}
use Rattle.text.specs.declared.Refused.{Refused}
use Rattle.text.specs.Answers.{records_said, listed_text}
use Rattle.text.proofs.Puts.{put_as}
use Rattle.text.proofs.Replies.{said_as, count_said, listed-text, listed-fits}
use Rattle.replaying.specs.Answers.{list_answer}
use Rattle.kept.proofs.KeptLaws.{put_at}
use Rattle.replaying.proofs.AnswerLaws.{list_filled}
use Rattle.replaying.proofs.list_text.Goals as goal

pub put_listed-end-requires : goal.put_listed-end-requires
put_listed-end-requires c =
    let size = c.size_of-size.ensures in
    let done = c.unrouted-answer in
    let filled = c.fill.auto.self in
    let count = ap records_said (said_as _ _ c.map_err-said.ensures.cases) ∙ count_said done.result in
    let fits = listed-fits _ _ _ _ _ done.ensures in record { size = (size.size, rw (size.value, count) fits); answer_in_bounds = rw (size.value, count) (omega (arith, fits, done.auto.output, filled, c.requires.output_len_bound, c.requires.in_bounds)) }

pub listed-requires : goal.listed-requires
listed-requires c =
    let size = c.size_of-size.ensures in
    let done = c.unrouted-answer in
    let filled = c.fill.auto.self in
    (size.size, rw size.value (omega (arith, listed-fits _ _ _ _ _ done.ensures, done.auto.output, filled, c.requires.output_len_bound)))

pub returns : goal.returns
returns c =
    let s = c.args in
    let size = c.size_of-size.ensures.value in
    let bytes = c.fill in
    let done = c.unrouted-answer in
    let nothing =
    c.keep_output.ensures
    (rw (c.listed.ensures, size) (list_filled _ _ _ _ 165 (length s.output.now) (bytes.ensures.after (λ y e. e)) _ done.ensures)) in
    put_at refl nothing.0 nothing.1
    (put_as
    (ap₂ (λ (n : ℕ) (r : Result ℕ Refused). listed_text n true true r done.new.output) size (said_as _ _ c.map_err-said.ensures.cases)
    ∙ listed-text _ _ _ _ true true _ done.ensures ∙ ap (list_answer s.form s.table.now) bytes.ensures.len)
    c.put_listed-end.ensures)
