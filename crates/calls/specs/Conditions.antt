-- The documents' conditions for the refusals of a rewrite and of the cover query, as facts: each by its number and, for 5 to 8, its record's index (else
-- 0). The form says how the table is read. No contract cites these; theorems of proofs/ say that the answers are these facts.
use Rattle.std.specs.Prelude.{ℕ, ◌*◌, ◌≤◌, ◌<◌, ◌≡◌, true, List, length}
use Rattle.theory.specs.Ranks.{Ranking}
use Rattle.theory.specs.Routes.{Route}
use Rattle.refusals.specs.Rules.{Rule, gives}
use Rattle.records.specs.Sized.{width_in, routes_in}
use Rattle.records.specs.declared.Form.{Form}
use Rattle.records.specs.Forms.{size_of}
use Rattle.table.specs.Conditions.{FormCondition, AcceptedBy}
use Rattle.nodecount.specs.Nodes.{nodes}
use Rattle.calls.specs.Rewriting.{InUse, result_of, takes_set, reply_by}

-- Of a rewrite, with an output of `room` bytes and a work room of `words` words. 1: the mode is not 1 to 5. 16: it is 2. 2: it is 5 and the default is
-- above 63. 15: it is 4 or more, and ranks are lent that are not the numbers 0 to 63 each once. 3 to 8: the table's. 10: the work room is shorter than 160
-- words a node. 11: the output is shorter than the result's records.
pub data RewriteCondition (form : Form) (t : List ℕ) (mode default : ℕ) (ranks : List ℕ) (room words : ℕ) : ℕ → ℕ → Type 0 where
  no_mode : ((1 ≤ mode) × (mode ≤ 5) → ⊥) → RewriteCondition form t mode default ranks room words 1 0
  retired : mode ≡ 2 → RewriteCondition form t mode default ranks room words 16 0
  large_default : mode ≡ 5 → 63 < default → RewriteCondition form t mode default ranks room words 2 0
  bad_ranks : 4 ≤ mode → (Ranking 64 ranks → ⊥) → RewriteCondition form t mode default ranks room words 15 0
  of_table : {n i : ℕ} → FormCondition form (takes_set mode) t n i → RewriteCondition form t mode default ranks room words n i
  short_work : words < 160 * nodes (width_in (size_of form)) (routes_in (size_of form) t) → RewriteCondition form t mode default ranks room words 10 0
  short_output : room < size_of form * length (result_of (size_of form) t mode default ranks) → RewriteCondition form t mode default ranks room words 11 0

-- Of the cover query. 3 to 8: the set's. 9: the query's length is above the width. 10: the work room is shorter than 160 words a node.
pub data CoverCondition (form : Form) (t : List ℕ) (len words : ℕ) : ℕ → ℕ → Type 0 where
  of_set : {n i : ℕ} → FormCondition form true t n i → CoverCondition form t len words n i
  long_query : width_in (size_of form) < len → CoverCondition form t len words 9 0
  short_room : words < 160 * nodes (width_in (size_of form)) (routes_in (size_of form) t) → CoverCondition form t len words 10 0

-- What any engine's answer with records means: the mode is in use, the default of fill a hop, the ranks of modes 4 and 5 lawful, the table accepted,
-- and the output long enough.
pub record Answerable (form : Form) (t : List ℕ) (mode default : ℕ) (ranks : List ℕ) (room : ℕ) : Type 0 where
  pub known_mode : InUse mode
  pub small_default : mode ≡ 5 → default ≤ 63
  pub lawful_ranks : 4 ≤ mode → Ranking 64 ranks
  pub accepted : AcceptedBy form (takes_set mode) t
  pub enough_output : size_of form * length (result_of (size_of form) t mode default ranks) ≤ room

-- Rules that give an answer only then.
abbrev pub Guarded : Form → List Rule → List ℕ → ℕ → ℕ → List ℕ → ℕ → Type 0
Guarded form rules t mode default ranks room = (rs : List Route) → reply_by (size_of form) rules t mode default ranks ≡ gives rs → Answerable form t mode default ranks room
