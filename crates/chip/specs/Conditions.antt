-- The conditions for a refusal of the call, as facts. No contract cites these; theorems of proofs/ say that the answers are these facts.
use Rattle.std.specs.Prelude.{ℕ, ◌≡◌, false, List}
use Rattle.records.specs.declared.Form.{Form}
use Rattle.table.specs.Conditions.{TableCondition}

-- 3 to 8: the table's, as a map. 12: the image has not 8,192 bytes.
pub data LoadCondition (form : Form) (t : List ℕ) (size : ℕ) : ℕ → ℕ → Type 0 where
  of_table : {n i : ℕ} → TableCondition form false t n i → LoadCondition form t size n i
  wrong_size : (size ≡ 8192 → ⊥) → LoadCondition form t size 12 0
