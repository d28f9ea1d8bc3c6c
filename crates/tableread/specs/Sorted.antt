-- What is read of a text and sorted: the right answer to the text, and the rooms that reading leaves, with the records moved into table order.
use Rattle.std.specs.Prelude.{ℕ, ◌≡◌, Bool, List, Ok, Err}
use Rattle.tabletext.specs.Reading.{Read, Reads}
use Rattle.tableorder.specs.Rows.{Sorts}

-- From the rooms that reading leaves to those that are left: sorted, where there is a table; else as they are.
abbrev pub Moves : Read → List ℕ → List ℕ → List ℕ → List ℕ → Type 0
Moves (Ok n) t ls t' ls' = Sorts n t ls t' ls'
Moves (Err why) t ls t' ls' = (t' ≡ t) × (ls' ≡ ls)

-- The right answer, and what it leaves in the rooms.
pub record ReadsSorted (hops : Bool) (text : List ℕ) (r : Read) (out lines out' lines' : List ℕ) : Type 0 where
  pub records : List ℕ
  pub numbers : List ℕ
  pub reads : Reads hops text r out lines records numbers
  pub moves : Moves r records numbers out' lines'
