-- `steplines::put_planned` meets its contract. Assumes nothing.
use mathlib.Core.Path.{◌≡◌, sym, ap, ◌∙◌}
use Prim.Native.Nat.{ℕ}
use native.Mathlib.Omega.{arith}
use Rattle.std.specs.Prelude.{Option, None, Some, Result, Ok}
use Rattle.text.specs.declared.Refused.{Refused}
use Rattle.text.proofs.Puts.{put_as, put_none, put_then}
use mathlib.Core.List.{List, ◌++◌}
use lib.ListN.{take}
use Rattle.std.proofs.lemmas.List.{take_min}
use Rattle.plans.specs.declared.answers.Step.{Step}
use Rattle.steplines.specs.Lines.{planned_text, step_lines, steps_end}
use Rattle.steplines.proofs.StepLines.{planned_long, planned_short}
use Rattle.steplines.proofs.put_planned.Goals as goal

pub returns-then-count-gt2048 : goal.returns-then-count-gt2048
returns-then-count-gt2048 c =
    let a = c.args in
    let s = c.in-Ok-Some in
    let f : s.field-0 ≡ Some s.count = rw s.is at s.field-0-is in
    put_as (sym (ap (λ (r : Result (Option ℕ) Refused). planned_text a.total r a.room.now) (s.is ∙ ap Ok f) ∙ planned_long a.total s.count a.room.now c.if-count-gt2048.true))
    (put_none _ _ (omega (arith, c.requires)))

pub returns-else-count-gt2048 : goal.returns-else-count-gt2048
returns-else-count-gt2048 c =
    let a = c.args in
    let s = c.in-Ok-Some in
    let f : s.field-0 ≡ Some s.count = rw s.is at s.field-0-is in
    put_as
    (sym (ap (λ (r : Result (Option ℕ) Refused). planned_text a.total r a.room.now) (s.is ∙ ap Ok f) ∙ planned_short a.total s.count a.room.now (omega (arith, c.if-count-gt2048.false)) ∙ ap (λ (ss : List Step). step_lines ss ++ steps_end a.total s.count) (sym (ap (λ (k : ℕ). take k a.room.now) c.min.ensures ∙ take_min s.count a.room.now))))
    (put_then c.put_steps-end.ensures.put c.put_total.ensures)

pub returns-in-Ok-None : goal.returns-in-Ok-None
unfolding planned_text
returns-in-Ok-None c =
    let a = c.args in
    let s = c.in-Ok-None in
    let f : s.field-0 ≡ None = rw s.is at s.field-0-is in
    put_as (sym (ap (λ (r : Result (Option ℕ) Refused). planned_text a.total r a.room.now) (s.is ∙ ap Ok f))) c.put_bytes.ensures

pub returns-in-Err : goal.returns-in-Err
unfolding planned_text
returns-in-Err c = rw c.in-Err.is c.put_said.ensures
