-- What replay keeps for a case with call 6, the chip loader: the text of the right answer.
use Rattle.std.specs.Prelude.{ℕ, ◌*◌, Bool, true, List, [], ◌∷◌, ◌++◌, length, take, drop, Result, Ok, Err}
use Rattle.theory.specs.Routes.{Route}
use Rattle.refusals.specs.declared.Refusal.{Refusal}
use Rattle.refusals.specs.Rules.{Reply, gives, refuses, judge}
use Rattle.records.specs.Wire.{routes}
use Rattle.records.specs.declared.Form.{Form}
use Rattle.rooms.specs.Rooms.{all_are}
use Rattle.chip.specs.Loading.{load_rules, load_order}
use Rattle.text.specs.Text.{lines_of, refused_line, refusal_line}
use Rattle.kept.specs.Kept.{byte, form_by, room_of}
use Rattle.kept.specs.Lines.{counted_line}

-- The line `slots N`.
abbrev pub slots_line : ℕ → List ℕ
slots_line n = counted_line (115 ∷ 108 ∷ 111 ∷ 116 ∷ 115 ∷ 32 ∷ []) n

-- The slots that an answer uses.
abbrev pub used_of : Result ℕ Refusal → ℕ
used_of (Ok used) = used
used_of (Err refusal) = 0

-- Of so many first slots of the image m: a line for each, then how many they are.
abbrev pub slots_text : ℕ → List ℕ → List ℕ
slots_text used m = lines_of true (routes (take (8 * used) m)) ++ slots_line used

-- Of an answer that left the image m: of the used slots; or the refusal.
unfoldable pub loaded_text : Result ℕ Refusal → List ℕ → List ℕ
loaded_text (Ok used) m = slots_text used m
loaded_text (Err refusal) m = refusal_line refusal

-- Of a reply with the routes in the order of their slots.
unfoldable pub load_text : Reply (List Route) → List ℕ
load_text (gives rs) = lines_of true rs ++ slots_line (length rs)
load_text (refuses number index) = refused_line number index

-- Of the call, which is lent an image of so many bytes.
abbrev pub chip_answer : Form → List ℕ → ℕ → List ℕ
chip_answer form t size = load_text (judge (load_rules form t size) (load_order t))

-- Of a case: its output is the image.
abbrev pub chip_case : List ℕ → List ℕ → List ℕ
chip_case head t = chip_answer (form_by (byte head 0)) t (room_of head)

-- Is the image as the answer leaves it: every byte of an unused slot 255, or after a refusal every byte as it was filled?
abbrev pub is_as_said : Result ℕ Refusal → List ℕ → Bool
is_as_said (Ok used) m = all_are 255 (drop (8 * used) m)
is_as_said (Err refusal) m = all_are 165 m
