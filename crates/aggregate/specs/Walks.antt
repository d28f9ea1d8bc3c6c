-- The walks of the four modes over a whole table: what they need, and what they write.
use Rattle.std.specs.Prelude.{ℕ, ◌≤◌, ◌≡◌, true, List}
use Rattle.theory.specs.Routes.{Route, All, none}
use Rattle.theory.specs.Results.{result}
use Rattle.records.specs.Sized.{records_in}
use Rattle.positions.specs.Runs.{hop_of}
use Rattle.nodes.specs.Node.{wide, run, Node}
use Rattle.nodes.specs.Room.{Stored, StoredBy}
use Rattle.maximal.specs.Maximal.{coverage_word, uncovered}
use Rattle.assign.specs.Answers.{answer_in, set_words}
use Rattle.calls.specs.Rewriting.{mode_of, takes_set}

-- The records of a table, of this size, as wide routes.
abbrev pub whole : ℕ → List ℕ → List Route
whole size t = run size t 0 (records_in size t)

-- The table keeps the rules of the mode's tables: it has at most 1,024 records, they are those of the root, and a set's hops are 0.
pub record Ready (size : ℕ) (t : List ℕ) (mode : ℕ) : Type 0 where
  pub few : records_in size t ≤ 1024
  pub node : Node size t 0 (records_in size t) 0 0
  pub bare : takes_set mode ≡ true → All (λ r. r.hop ≡ 0) (whole size t)

-- From `top` on the room holds what the mode's writing walk reads: the coverage of the nodes below no member in mode 1, the nodes' sets in modes 4
-- and 5.
pub record Prepared (size : ℕ) (t : List ℕ) (mode fill top : ℕ) (work : List ℕ) : Type 0 where
  pub coverage : mode ≡ 1 → StoredBy uncovered coverage_word 13 0 (whole size t) top work
  pub sets : 4 ≤ mode → Stored (set_words (answer_in (whole size t) none (hop_of fill))) 13 0 (whole size t) top work

-- What the mode makes of the table at wide addresses, by a choice among a set's hops.
unfoldable pub wide_result : (List ℕ → ℕ) → ℕ → List ℕ → ℕ → ℕ → List Route
wide_result choose size t mode fill = result choose wide (mode_of mode fill) (whole size t)
