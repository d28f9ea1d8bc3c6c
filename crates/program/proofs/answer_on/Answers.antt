-- `program::answer_on` meets its contract: a right answer's text is the right reply's. Assumes nothing.
use mathlib.Core.Path.{ap, ◌∙◌}
use mathlib.Core.Bool.{false}
use Prim.Native.Nat.{ℕ, ◌*◌}
use native.Mathlib.Omega.{arith}
use lib.Dec.{ltb}
use Rattle.calls.specs.Rewriting.{count_of}
use Rattle.text.specs.Answers.{rewritten_text}
use Rattle.text.proofs.Puts.{put_as}
use Rattle.text.proofs.Replies.{rewritten_text_lem, rewritten_fits}
use Rattle.program.specs.Printed.{printed_in}
use Rattle.program.proofs.answer_on.Goals as goal

pub put_rewritten-requires : goal.put_rewritten-requires
put_rewritten-requires c =
    let done = c.rewrite-answered in
    let size = c.size_of.ensures in
    let fits = rewritten_fits _ _ _ _ _ _ _ _ _ _ done.ensures in
    let bytes = ap (λ (n : ℕ). n * count_of done.result) size.value in record { size = (size.size, omega (arith, fits, bytes)); answer_in_bounds = omega (arith, fits, bytes, done.auto.output, c.requires) }

pub returns : goal.returns
unfolding printed_in
returns c =
    let s = c.args in
    let done = c.rewrite-answered in
    put_as
    (ap (λ (n : ℕ). rewritten_text n false (ltb 1 s.mode) done.result done.new.output) c.size_of.ensures.value
    ∙ rewritten_text_lem _ _ _ _ _ _ _ _ _ false (ltb 1 s.mode) (λ k. (c.type_inv.table k).fits) _ done.ensures)
    c.put_rewritten.ensures
