-- The conditions for a refusal of the second engine, as facts. No contract cites these; theorems of proofs/ say that the answers are these facts.
use Rattle.std.specs.Prelude.{ℕ, ◌*◌, ◌≤◌, ◌<◌, ◌≡◌, List, ◌⊎◌, length}
use Rattle.theory.specs.Ranks.{Ranking}
use Rattle.records.specs.declared.Form.{Form}
use Rattle.records.specs.Forms.{size_of}
use Rattle.table.specs.Conditions.{FormCondition}
use Rattle.calls.specs.Rewriting.{result_of, takes_set}

-- The modes that it has.
abbrev pub IsMode : ℕ → Type 0
IsMode mode = (mode ≡ 1) ⊎ ((mode ≡ 4) ⊎ (mode ≡ 5))

-- With an output of `room` bytes. 1: the mode is not 1, 4 or 5, nor 2. 16: it is 2. 2: it is 5 and the default is above 63. 15: it is 4 or more, and ranks
-- are lent that are not the numbers 0 to 63 each once. 3 to 8: the table's. 11: the output is shorter than the result's records.
pub data PlainCondition (form : Form) (t : List ℕ) (mode default : ℕ) (ranks : List ℕ) (room : ℕ) : ℕ → ℕ → Type 0 where
  no_mode : (IsMode mode → ⊥) → (mode ≡ 2 → ⊥) → PlainCondition form t mode default ranks room 1 0
  retired : mode ≡ 2 → PlainCondition form t mode default ranks room 16 0
  large_default : mode ≡ 5 → 63 < default → PlainCondition form t mode default ranks room 2 0
  bad_ranks : 4 ≤ mode → (Ranking 64 ranks → ⊥) → PlainCondition form t mode default ranks room 15 0
  of_table : {n i : ℕ} → FormCondition form (takes_set mode) t n i → PlainCondition form t mode default ranks room n i
  short_output : room < size_of form * length (result_of (size_of form) t mode default ranks) → PlainCondition form t mode default ranks room 11 0
