-- The conditions for a refusal of the call, as facts. No contract cites these; theorems of proofs/ say that the answers are these facts.
use Rattle.std.specs.Prelude.{ℕ, ◌*◌, ◌<◌, false, List, length}
use Rattle.records.specs.declared.Form.{Form}
use Rattle.records.specs.Forms.{size_of}
use Rattle.table.specs.Conditions.{FormCondition}
use Rattle.holes.specs.Listing.{holes_of}

-- 3 to 8: the table's, as a map. 11: the output has fewer bytes than the holes' records.
pub data UnroutedCondition (form : Form) (t : List ℕ) (room : ℕ) : ℕ → ℕ → Type 0 where
  of_table : {n i : ℕ} → FormCondition form false t n i → UnroutedCondition form t room n i
  short_output : room < size_of form * length (holes_of (size_of form) t) → UnroutedCondition form t room 11 0
