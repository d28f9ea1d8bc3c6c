-- What the program prints for the table that it read: the text of the right reply. Host bits are masked.
use Rattle.std.specs.Prelude.{ℕ, ◌*◌, Bool, false, List}
use Rattle.refusals.specs.Rules.{judge}
use Rattle.records.specs.declared.Form.{Form}
use Rattle.records.specs.Forms.{size_of, masking}
use Rattle.holes.specs.Listing.{holes_of, unrouted_rules}
use Rattle.text.specs.Answers.{list_text}

-- A prefix a line and nothing else, or the refusal, of a table that is read by a form, with an output of so many bytes.
unfoldable pub printed_in : Form → ℕ → List ℕ → List ℕ
printed_in form room t = list_text (size_of form) false false (judge (unrouted_rules form t room) (holes_of (size_of form) t))

-- The same with an output of 8,192 records.
unfoldable pub printed : Bool → List ℕ → List ℕ
printed long t = printed_in (masking long) (8192 * size_of (masking long)) t
