-- Laws of the lines of steps. Assumes nothing.
use mathlib.Core.Path.{◌≡◌, sym, ap, ◌∙◌}
use mathlib.Core.List.{List, [], ◌∷◌, ◌++◌, append_assoc, append-nil}
use Prim.Native.Nat.{ℕ, ◌+◌, ◌≤◌, ◌<◌}
use native.Mathlib.Numerals.{add-one}
use lib.ListN.{length, take, get_or}
use lib.Seq.{take-suc}
use Rattle.plans.specs.declared.answers.Step.{Step}
use Rattle.text.specs.Text.{Put}
use Rattle.text.proofs.Puts.{put_none}
use mathlib.Core.Bool.{Bool}
use borrow.Author.Tests.{lt-ltb, le-ltb}
use Rattle.std.specs.Prelude.{Some, Ok}
use Rattle.steplines.specs.Lines.{step_line, step_lines, steps_end, planned_text}

-- A line behind lines.
lines-behind : (ss : List Step) (s : Step) → step_lines (ss ++ (s ∷ [])) ≡ step_lines ss ++ step_line s
unfolding step_lines
lines-behind [] s = append-nil (step_line s)
lines-behind (q ∷ ss) s =
    ap (λ (l : List ℕ). step_line q ++ l) (lines-behind ss s) ∙ sym (append_assoc (step_line q) (step_lines ss) (step_line s))

-- No lines are put yet.
pub steps_none : (room : List Step) (at : ℕ) (o : List ℕ) → at ≤ length o → Put (step_lines (take 0 room)) at at o o
unfolding step_lines
steps_none room at o fits = put_none at o fits

-- The lines of i steps with that of step i are those of i + 1.
pub steps_more : (room : List Step) (i : ℕ) (d : Step) → i < length room → step_lines (take i room) ++ step_line (get_or room i d) ≡ step_lines (take (i + 1) room)
steps_more room i d lt =
    sym (ap (λ (k : ℕ). step_lines (take k room)) (add-one i) ∙ ap step_lines (take-suc room i d lt) ∙ lines-behind (take i room) (get_or room i d))

-- A plan's text.
pub planned_long : (total : Bool) (k : ℕ) (room : List Step) → 2048 < k → planned_text total (Ok (Some k)) room ≡ []
unfolding planned_text
planned_long total k room lt = rw (lt-ltb 2048 k lt)

pub planned_short : (total : Bool) (k : ℕ) (room : List Step) → k ≤ 2048 → planned_text total (Ok (Some k)) room ≡ step_lines (take k room) ++ steps_end total k
unfolding planned_text
planned_short total k room le = rw (le-ltb 2048 k le)
