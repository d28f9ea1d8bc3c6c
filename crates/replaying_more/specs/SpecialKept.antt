-- What replay keeps for a case with call 9, special use: the text of the right answer.
use Rattle.std.specs.Prelude.{ℕ, List, [], ◌∷◌, Option, Result}
use Rattle.refusals.specs.declared.Refusal.{Refusal}
use Rattle.records.specs.declared.Form.{Form}
use Rattle.special.specs.Calls.{special_says, special_reply}
use Rattle.special.specs.Ranges.{Place, nowhere, at}
use Rattle.text.specs.Answers.{said}
use Rattle.kept.specs.Lines.{counted_line}
use Rattle.records.specs.Wire.{join}
use Rattle.kept.specs.Kept.{byte, form_by}

-- Of an answer: `special at I`, `none special` or the refusal.
abbrev pub place_line : Place → List ℕ
place_line (at i) = counted_line (115 ∷ 112 ∷ 101 ∷ 99 ∷ 105 ∷ 97 ∷ 108 ∷ 32 ∷ 97 ∷ 116 ∷ 32 ∷ []) i
place_line nowhere = 110 ∷ 111 ∷ 110 ∷ 101 ∷ 32 ∷ 115 ∷ 112 ∷ 101 ∷ 99 ∷ 105 ∷ 97 ∷ 108 ∷ 10 ∷ []

-- Of what the call answered.
unfoldable pub special_text : Result (Option ℕ) Refusal → List ℕ
special_text r = said place_line (special_says r)

-- Of the call.
abbrev pub special_answer : Form → List ℕ → ℕ → List ℕ
special_answer form t edition = said place_line (special_reply form t edition)

-- Of a case: the edition stands where another case has its address.
abbrev pub special_case : List ℕ → List ℕ → List ℕ
special_case head t = special_answer (form_by (byte head 0)) t (join (byte head 4) (byte head 5) (byte head 6) (byte head 7))
