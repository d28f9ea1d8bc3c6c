-- The statement of a rewrite: for every table, read by a form, mode, default, ranks, output and room, what it answers and what stands in the output and
-- the room then.
use Rattle.std.specs.Prelude.{ℕ, ◌*◌, ◌≤◌, ◌≡◌, Bool, cond, not, ◌||◌, ◌&&◌, List, [], ◌∷◌, ◌++◌, eqb, leb, ℤ, pos, ◌-ℤ◌, length, drop, replicate, Result, Ok, Err}
use Rattle.theory.specs.Routes.{Route}
use Rattle.theory.specs.Results.{Mode, aggregate_set, aggregate_consistent_map, aggregate_map_drop, aggregate_map_fill, result}
use Rattle.theory.specs.Ranks.{lowest, is_ranking}
use Rattle.refusals.specs.Rules.{Rule, rule, Reply, gives, refuses, judge}
use Rattle.records.specs.Sized.{width_in, records_in, routes_in, bytes_in}
use Rattle.records.specs.declared.Form.{Form}
use Rattle.records.specs.Forms.{size_of}
use Rattle.table.specs.TableRules.{form_rules}
use Rattle.nodecount.specs.Nodes.{nodes}
use Rattle.refusals.specs.Numbers.{reply_of}
use Rattle.refusals.specs.declared.Refusal.{Refusal}
use Rattle.calls.specs.declared.Rewritten.{Rewritten}

-- The numbers of modes: 1 to 5 but for 2, which is retired and never given to another mode.
abbrev pub InUse : ℕ → Type 0
InUse mode = (1 ≤ mode) × (mode ≤ 5) × (mode ≡ 2 → ⊥)

-- The mode of a number in use; 5 has the default.
abbrev pub mode_of : ℕ → ℕ → Mode
mode_of mode default =
    cond (eqb mode 1) aggregate_set
    (cond (eqb mode 3) aggregate_consistent_map
    (cond (eqb mode 4) aggregate_map_drop
    (aggregate_map_fill default)))

-- The routes that the mode makes of a table's bytes, records of this size, the hop of lowest rank chosen; without ranks they are the hop numbers.
unfoldable pub result_of : ℕ → List ℕ → ℕ → ℕ → List ℕ → List Route
result_of size t mode default ranks = result (lowest ranks) (width_in size) (mode_of mode default) (routes_in size t)

-- Mode 1 takes sets.
abbrev pub takes_set : ℕ → Bool
takes_set mode = eqb mode 1

-- The rules 1, 16, 2, 15, 3 to 8, 10 and 11, for an output of `room` bytes and a work room of `words` words. Modes 1 and 3 do not read the ranks.
unfoldable pub rewrite_rules : Form → List ℕ → ℕ → ℕ → List ℕ → ℕ → ℕ → List Rule
rewrite_rules form t mode default ranks room words =
    rule 1 0 (leb 1 mode && leb mode 5)
    ∷ rule 16 0 (not (eqb mode 2))
    ∷ rule 2 0 (not (eqb mode 5) || leb default 63)
    ∷ rule 15 0 (not (leb 4 mode) || is_ranking 64 ranks)
    ∷ form_rules form (takes_set mode) t
    ++ (rule 10 0 (leb (160 * nodes (width_in (size_of form)) (routes_in (size_of form) t)) words) ∷ rule 11 0 (leb (size_of form * length (result_of (size_of form) t mode default ranks)) room) ∷ [])

-- What a rewrite gives: the number of records, and the change, records out minus records in.
pub record Written : Type 0 where
  pub count : ℕ
  pub change : ℤ

-- The right reply of an engine with these rules: the routes of the result, or the refusal of the first rule that is broken.
unfoldable pub reply_by : ℕ → List Rule → List ℕ → ℕ → ℕ → List ℕ → Reply (List Route)
reply_by size rules t mode default ranks = judge rules (result_of size t mode default ranks)

-- That of the engine over nodes.
abbrev pub rewrite_reply : Form → List ℕ → ℕ → ℕ → List ℕ → ℕ → ℕ → Reply (List Route)
rewrite_reply form t mode default ranks room words = reply_by (size_of form) (rewrite_rules form t mode default ranks room words) t mode default ranks

-- What it is to say, of a table with so many records.
abbrev pub written_of : ℕ → Reply (List Route) → Reply Written
written_of before (gives rs) = gives (record { count = length rs; change = pos (length rs) -ℤ pos before })
written_of before (refuses number index) = refuses number index

-- What the output holds afterwards: the result's records from its start and the rest as it was, or all as it was.
abbrev pub output_of : ℕ → List ℕ → Reply (List Route) → List ℕ
output_of size o (gives rs) = bytes_in size rs ++ drop (size * length rs) o
output_of size o (refuses number index) = o

-- The answer of a rewrite, and that so many records were written, with this change.
abbrev pub Outcome : Type 0
Outcome = Result Rewritten Refusal

abbrev pub records_out : ℕ → ℤ → Outcome
records_out count change = Ok (record { count = count; change = change })

-- What an answer says.
abbrev pub rewritten_says : Outcome → Reply Written
rewritten_says = reply_of (λ w. record { count = w.count; change = w.change })

-- Its count and its change, both 0 in a refusal.
abbrev pub count_of : Outcome → ℕ
count_of (Ok w) = w.count
count_of (Err refusal) = 0

abbrev pub change_of : Outcome → ℤ
change_of (Ok w) = w.change
change_of (Err refusal) = pos 0

-- The statement of any engine's rewrite, by its rules: the table t with records of this size, the ranks and the output o were lent, r was answered, and the
-- output is o' then.
pub record RewritesBy (size : ℕ) (rules : List Rule) (t : List ℕ) (mode default : ℕ) (ranks o : List ℕ) (r : Outcome) (o' : List ℕ) : Type 0 where
  pub answer : rewritten_says r ≡ written_of (records_in size t) (reply_by size rules t mode default ranks)
  pub output : o' ≡ output_of size o (reply_by size rules t mode default ranks)

-- That of the engine over nodes, which was lent a room of so many words, but for what becomes of the room.
abbrev pub RewritesIn : Form → List ℕ → ℕ → ℕ → List ℕ → List ℕ → ℕ → Outcome → List ℕ → Type 0
RewritesIn form t mode default ranks o words r o' = RewritesBy (size_of form) (rewrite_rules form t mode default ranks (length o) words) t mode default ranks o r o'

-- The whole statement: and the room is zero throughout.
pub record Rewrites (form : Form) (t : List ℕ) (mode default : ℕ) (ranks o : List ℕ) (words : ℕ) (r : Outcome) (o' work' : List ℕ) : Type 0 where
  pub inner : RewritesIn form t mode default ranks o words r o'
  pub zero : work' ≡ replicate words 0
