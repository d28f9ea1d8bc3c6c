-- The statements settle the answer and all that was lent: no second answer, output or room satisfies one, and for every input some do. Assumes nothing.
use mathlib.Core.Path.{◌≡◌, refl, sym, ap, ◌∙◌}
use mathlib.Core.Bool.{Bool, true}
use mathlib.Core.List.{List}
use Prim.Native.Nat.{ℕ}
use lib.ListN.{length, replicate}
use Rattle.theory.specs.Routes.{Route}
use Rattle.refusals.specs.declared.Cause.TheVariants.{Mode, Default, RetiredMode, Ranks, QueryLength, WorkRoom, OutputRoom}
use Rattle.calls.specs.declared.Rewritten.{Rewritten}
use Rattle.table.proofs.Caused.{table_caused}
use Rattle.refusals.proofs.Caused.{IsCaused, AllCaused, caused_append, judge_caused, reply_met}
use Rattle.refusals.proofs.Replies.{reply_same}
use Rattle.refusals.specs.declared.Refusal.{Refusal}
use Rattle.std.specs.Prelude.{Result, Err, pos, ◌-ℤ◌}
use Rattle.refusals.specs.Rules.{Rule, Reply, gives, refuses, judge}
use Rattle.records.specs.Sized.{records_in}
use Rattle.records.specs.declared.Form.{Form}
use Rattle.records.specs.Forms.{size_of}
use Rattle.calls.specs.Covering.{covers_says, cover_reply, Queried, cover_rules, covered_by}
use Rattle.calls.specs.Rewriting.{Written, rewrite_rules, written_of, output_of, rewritten_says, RewritesBy, Rewrites, Outcome, records_out, result_of, reply_by, takes_set}

-- Answers of a rewrite that say the same are the same.
pub rewritten_same : (a b : Outcome) → rewritten_says a ≡ rewritten_says b → a ≡ b
rewritten_same = reply_same written same
  where
    written : Rewritten → Written
    written w = record { count = w.count; change = w.change }

    back : Written → Rewritten
    back w = record { count = w.count; change = w.change }

    same : (a b : Rewritten) → written a ≡ written b → a ≡ b
    same a b e = ap back e

-- Answers of the cover query that say the same are the same.
pub covers_same : (a b : Result Bool Refusal) → covers_says a ≡ covers_says b → a ≡ b
covers_same = reply_same (λ b. b) (λ a b e. e)

-- The statement of any engine's rewrite settles the answer and the output.
pub rewrite_by_settled : (size : ℕ) (rules : List Rule) (t : List ℕ) (mode default : ℕ) (ranks o : List ℕ) (r r₁ : Outcome) (o' o₁ : List ℕ)
    → RewritesBy size rules t mode default ranks o r o' → RewritesBy size rules t mode default ranks o r₁ o₁ → (r ≡ r₁) × (o' ≡ o₁)
rewrite_by_settled size rules t mode default ranks o r r₁ o' o₁ a b = (rewritten_same r r₁ (a.answer ∙ sym b.answer), a.output ∙ sym b.output)

-- The statement of a rewrite settles the answer, the output and the room.
pub rewrite_settled : (form : Form) (t : List ℕ) (mode default : ℕ) (ranks o : List ℕ) (words : ℕ) (r r₁ : Outcome) (o' o₁ w' w₁ : List ℕ)
    → Rewrites form t mode default ranks o words r o' w' → Rewrites form t mode default ranks o words r₁ o₁ w₁ → (r ≡ r₁) × (o' ≡ o₁) × (w' ≡ w₁)
rewrite_settled form t mode default ranks o words r r₁ o' o₁ w' w₁ a b =
    let s = rewrite_by_settled (size_of form) (rewrite_rules form t mode default ranks (length o) words) t mode default ranks o r r₁ o' o₁ a.inner b.inner in
    (s.0, s.1, a.zero ∙ sym b.zero)

-- The statement of the cover query settles the answer and the room.
pub covers_settled : (form : Form) (t : List ℕ) (address len words : ℕ) (r r₁ : Result Bool Refusal) (w' w₁ : List ℕ)
    → Queried form t address len words r w' → Queried form t address len words r₁ w₁ → (r ≡ r₁) × (w' ≡ w₁)
covers_settled form t address len words r r₁ w' w₁ a b = (covers_same r r₁ (a.answer ∙ sym b.answer), a.zero ∙ sym b.zero)

-- ---- For every input some answer satisfies the statement, so that none asks the impossible.
rewritten_of : (before : ℕ) (q : Reply (List Route)) → ((n i : ℕ) → q ≡ refuses n i → IsCaused n) → (r : Outcome) × (rewritten_says r ≡ written_of before q)
rewritten_of before (gives rs) known = (records_out (length rs) (pos (length rs) -ℤ pos before), refl)
rewritten_of before (refuses n i) known = let c = known n i refl in (Err (record { cause = c.0; index = i }), ap (λ (k : ℕ). refuses k i) c.1)

-- Whatever the rules of an engine are, as long as their numbers are those of causes, some answer and output satisfy its statement.
pub met_by : (size : ℕ) (rules : List Rule) → AllCaused rules → (t : List ℕ) (mode default : ℕ) (ranks o : List ℕ)
    → (r : Outcome) × ((o' : List ℕ) × RewritesBy size rules t mode default ranks o r o')
unfolding reply_by
met_by size rules caused t mode default ranks o =
    let reply = judge rules (result_of size t mode default ranks) in
    let a = rewritten_of (records_in size t) reply (judge_caused rules (result_of size t mode default ranks) caused) in
    (a.0, (output_of size o reply, record { answer = a.1; output = refl }))

-- The numbers of the engine's rules are.
rewrite_caused : (form : Form) (t : List ℕ) (mode default : ℕ) (ranks : List ℕ) (room words : ℕ) → AllCaused (rewrite_rules form t mode default ranks room words)
unfolding rewrite_rules
rewrite_caused form t mode default ranks room words = (
  (Mode, refl),
  (
    (RetiredMode, refl),
    (
      (Default, refl),
      (
        (Ranks, refl),
        caused_append _ _ (table_caused (size_of form) form.strict (takes_set mode) t) ((WorkRoom, refl), ((OutputRoom, refl), tt)),
      ),
    ),
  ),
)

-- Of a rewrite.
pub rewrite_met : (form : Form) (t : List ℕ) (mode default : ℕ) (ranks o : List ℕ) (words : ℕ)
    → (r : Outcome) × ((o' : List ℕ) × ((w' : List ℕ) × Rewrites form t mode default ranks o words r o' w'))
rewrite_met form t mode default ranks o words =
    let rules = rewrite_rules form t mode default ranks (length o) words in
    let a = met_by (size_of form) rules (rewrite_caused form t mode default ranks (length o) words) t mode default ranks o in
    (a.0, (a.1.0, (replicate words 0, record { inner = a.1.1; zero = refl })))

-- The numbers of the cover query's rules are.
cover_caused : (form : Form) (t : List ℕ) (len words : ℕ) → AllCaused (cover_rules form t len words)
unfolding cover_rules
cover_caused form t len words = caused_append _ _ (table_caused (size_of form) form.strict true t) ((QueryLength, refl), ((WorkRoom, refl), tt))

-- Of the cover query.
pub covers_met : (form : Form) (t : List ℕ) (address len words : ℕ) → (r : Result Bool Refusal) × ((w' : List ℕ) × Queried form t address len words r w')
covers_met form t address len words =
    let known = judge_caused (cover_rules form t len words) (covered_by (size_of form) t address len) (cover_caused form t len words) in
    let a = reply_met (λ (b : Bool). b) (λ b. (b, refl)) (cover_reply form t address len words) known in
    (a.0, (replicate words 0, record { answer = a.1; zero = refl }))
