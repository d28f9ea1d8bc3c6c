-- `answers::put_rewritten` meets its contract: the lines of the records that were written, then the change. Assumes nothing.
use mathlib.Core.Path.{ap}
use borrow.Author.Rules.{rules}
use mir.Syntax.{w64}
use mir.Val.{SFits}
use mir.ValLaws.{to_z-of_z}
use Rattle.text.specs.Text.{change_line}
use Rattle.text.specs.Answers.{rewritten_text}
use Rattle.text.proofs.Puts.{put_as, put_then}
use Rattle.text.proofs.answers.put_rewritten.Goals as goal

pub returns-in-Ok : goal.returns-in-Ok
unfolding rewritten_text
returns-in-Ok c =
    let change = c.in-Ok.written.change in
    let fits : SFits w64 change = search rules in
    rw c.in-Ok.is (put_then c.put_written-end.ensures.put (put_as (ap change_line (to_z-of_z w64 change fits)) c.put_change.ensures))
