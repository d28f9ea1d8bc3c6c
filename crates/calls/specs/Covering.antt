-- The statement of the cover query: what it answers for every table, read by a form, prefix and room, and that the room is zero then.
use Rattle.std.specs.Prelude.{ℕ, ◌-◌, ◌*◌, ◌%◌, ◌^◌, ◌≡◌, Bool, true, List, [], ◌∷◌, ◌++◌, leb, replicate, Result}
use Rattle.theory.specs.Routes.{held}
use Rattle.theory.specs.Results.{start_of, throughout}
use Rattle.refusals.specs.Rules.{Rule, rule, Reply, judge}
use Rattle.records.specs.Sized.{width_in, routes_in}
use Rattle.records.specs.declared.Form.{Form}
use Rattle.records.specs.Forms.{size_of}
use Rattle.table.specs.TableRules.{form_rules}
use Rattle.nodecount.specs.Nodes.{nodes}
use Rattle.refusals.specs.Numbers.{reply_of}
use Rattle.refusals.specs.declared.Refusal.{Refusal}

-- Document 01's rules 3 to 10, for a query of length len and a work room of so many words.
unfoldable pub cover_rules : Form → List ℕ → ℕ → ℕ → List Rule
cover_rules form t len words =
    form_rules form true t
    ++ (rule 9 0 (leb len (width_in (size_of form))) ∷ rule 10 0 (leb (160 * nodes (width_in (size_of form)) (routes_in (size_of form) t)) words) ∷ [])

-- Is every address of the prefix under some member? Of the address its lowest bits count, as many as the records' addresses have, and of these the first
-- len.
unfoldable pub covered_by : ℕ → List ℕ → ℕ → ℕ → Bool
covered_by size t address len =
    throughout (held (width_in size) (routes_in size t)) (width_in size - len) (start_of (width_in size - len) (address % 2 ^ width_in size))

-- What an answer says.
abbrev pub covers_says : Result Bool Refusal → Reply Bool
covers_says = reply_of (λ b. b)

-- The right reply.
abbrev pub cover_reply : Form → List ℕ → ℕ → ℕ → ℕ → Reply Bool
cover_reply form t address len words = judge (cover_rules form t len words) (covered_by (size_of form) t address len)

-- The statement: a room of so many words was lent, and r was answered.
pub record Queried (form : Form) (t : List ℕ) (address len words : ℕ) (r : Result Bool Refusal) (work' : List ℕ) : Type 0 where
  pub answer : covers_says r ≡ cover_reply form t address len words
  pub zero : work' ≡ replicate words 0
