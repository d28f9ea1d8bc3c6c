-- What is said of a text that is to be lines of steps, in ASCII: one line, which ends in a line feed.
use Rattle.std.specs.Prelude.{ℕ, ◌≡◌, List, [], ◌∷◌, ◌++◌, Bool, Result}
use Rattle.refusals.specs.declared.Refusal.{Refusal}
use Rattle.records.specs.declared.Form.{Form}
use Rattle.plans.specs.declared.answers.Step.{Step}
use Rattle.plans.specs.Judging.{Judges}
use Rattle.steplines.specs.Lines.{judged_text, step_lines}
use Rattle.text.specs.Text.{Put, decimal}

-- The line `no step in line N`.
unfoldable pub no_step_line : ℕ → List ℕ
no_step_line line = 110 ∷ 111 ∷ 32 ∷ 115 ∷ 116 ∷ 101 ∷ 112 ∷ 32 ∷ 105 ∷ 110 ∷ 32 ∷ 108 ∷ 105 ∷ 110 ∷ 101 ∷ 32 ∷ decimal line ++ (10 ∷ [])

-- The line `more than 2048 steps`.
unfoldable pub many_line : List ℕ
many_line = 109 ∷ 111 ∷ 114 ∷ 101 ∷ 32 ∷ 116 ∷ 104 ∷ 97 ∷ 110 ∷ 32 ∷ 50 ∷ 48 ∷ 52 ∷ 56 ∷ 32 ∷ 115 ∷ 116 ∷ 101 ∷ 112 ∷ 115 ∷ 10 ∷ []

-- The right answer to the steps whose lines the text is; or one of these lines, which judge no step.
pub data Replied (form : Form) (t u text : List ℕ) (r : ℕ) (o o' : List ℕ) : Type 0 where
  answered : (ss : List Step) (answer : Result Bool Refusal) → text ≡ step_lines ss → Judges form t u ss answer → Put (judged_text answer) 0 r o o' → Replied form t u text r o o'
  no_step : (line : ℕ) → Put (no_step_line line) 0 r o o' → Replied form t u text r o o'
  many : Put many_line 0 r o o' → Replied form t u text r o o'
