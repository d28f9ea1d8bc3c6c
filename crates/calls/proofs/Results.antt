-- Demand 2: a table that is not refused is answered with the records of the theory's result of its mode, and the cover query by whether every address
-- is held. Assumes of a table, where it says so, that its elements are bytes.
use mathlib.Core.Path.{◌≡◌, refl, ap, ◌∙◌}
use mathlib.Core.Bool.{true}
use mathlib.Core.List.{List, ◌++◌}
use mathlib.Core.Logic.{◌↔◌}
use Prim.Native.Nat.{ℕ, ◌-◌, ◌*◌, ◌%◌, ◌^◌, ◌<◌}
use lib.IntN.{ℤ, pos, ◌-ℤ◌}
use lib.ListN.{length, take, drop}
use Rattle.refusals.specs.declared.Refusal.{Refusal}
use Rattle.std.specs.Prelude.{Result, Ok, Bool}
use Rattle.theory.specs.Routes.{Table, held}
use Rattle.theory.specs.Results.{result, In, start_of}
use Rattle.theory.specs.Ranks.{lowest}
use Rattle.theory.specs.Demands.{Keeps}
use Rattle.theory.proofs.Maximal.{throughout-each}
use Rattle.refusals.specs.Rules.{Rule}
use Rattle.refusals.specs.Order.{None}
use Rattle.records.specs.Sized.{width_in, records_in, routes_in, bytes_in, Bytes}
use Rattle.records.specs.declared.Form.{Form}
use Rattle.records.specs.Forms.{size_of}
use Rattle.table.specs.SizedConditions.{LawfulIn}
use Rattle.calls.specs.Conditions.{RewriteCondition, CoverCondition, Guarded}
use Rattle.calls.specs.Covering.{covered_by, covers_says, Queried}
use Rattle.calls.specs.Rewriting.{mode_of, result_of, takes_set, rewrite_rules, written_of, output_of, Rewrites, Outcome, records_out}
use Rattle.calls.proofs.Engines.{by_records, by_length, by_written, by_lawful, by_table, by_reads, by_keeps}
use Rattle.calls.proofs.Refusals.{rewrite_guarded, reply-gives, rewrite_accepted, covers_answered}
use Rattle.calls.proofs.Settled.{rewritten_same, covers_same}

module _ (form : Form) (t : List ℕ) (mode default : ℕ) (ranks o : List ℕ) (words : ℕ) where
  abbrev rules : List Rule
  rules = rewrite_rules form t mode default ranks (length o) words

  guarded : Guarded form rules t mode default ranks (length o)
  guarded = rewrite_guarded form t mode default ranks (length o) words

  module _ (r : Outcome) (o' w' : List ℕ) (ok : Rewrites form t mode default ranks o words r o' w') where
    -- Where no condition holds the answer is the number of the result's records and the change, and the output has them from its start.
    pub rewrite_result : None (RewriteCondition form t mode default ranks (length o) words)
        → (r ≡ records_out (length (result (lowest ranks) (width_in (size_of form)) (mode_of mode default) (routes_in (size_of form) t)))
        (pos (length (result (lowest ranks) (width_in (size_of form)) (mode_of mode default) (routes_in (size_of form) t))) -ℤ pos (records_in (size_of form) t)))
        × (o' ≡ bytes_in (size_of form) (result (lowest ranks) (width_in (size_of form)) (mode_of mode default) (routes_in (size_of form) t))
        ++ drop (size_of form * length (result (lowest ranks) (width_in (size_of form)) (mode_of mode default) (routes_in (size_of form) t))) o)
    unfolding result_of
    rewrite_result none =
        let e = (reply-gives form t mode default ranks o words).1 (none, refl) in (
          rewritten_same r (records_out _ _) (ok.inner.answer ∙ ap (written_of (records_in (size_of form) t)) e),
          ok.inner.output ∙ ap (output_of (size_of form) o) e,
        )

    -- The same by the answer: it has records only where no condition holds, and then it is that one.
    pub rewrite_records : (count : ℕ) (change : ℤ) → r ≡ records_out count change
        → None (RewriteCondition form t mode default ranks (length o) words) × (count ≡ length (result_of (size_of form) t mode default ranks))
        × (change ≡ pos (length (result_of (size_of form) t mode default ranks)) -ℤ pos (records_in (size_of form) t))
        × (o' ≡ bytes_in (size_of form) (result_of (size_of form) t mode default ranks) ++ drop (size_of form * length (result_of (size_of form) t mode default ranks)) o)
    rewrite_records count change e =
        let f = by_records form rules t mode default ranks o guarded r o' ok.inner count change e in
        ((rewrite_accepted form t mode default ranks o words r o' w' ok).0 (count, (change, e)), f.1, f.2, f.3)

    -- Outcome or refused, the output keeps its length.
    pub rewrite_length : length o' ≡ length o
    rewrite_length = by_length form rules t mode default ranks o guarded r o' ok.inner

    -- The records are written from the output's start.
    pub rewrite_written : (count : ℕ) (change : ℤ) → r ≡ records_out count change
        → take (size_of form * count) o' ≡ bytes_in (size_of form) (result_of (size_of form) t mode default ranks)
    rewrite_written = by_written form rules t mode default ranks o guarded r o' ok.inner

    module _ (bytes : Bytes t) (count : ℕ) (change : ℤ) (answered : r ≡ records_out count change) where
      -- The table of bytes is one of routes, with hops in range.
      pub rewrite_lawful : LawfulIn (size_of form) (takes_set mode) (routes_in (size_of form) t)
      rewrite_lawful = by_lawful form rules t mode default ranks o guarded r o' ok.inner count change answered bytes

      -- So is the result.
      pub rewrite_table : Table (width_in (size_of form)) (result_of (size_of form) t mode default ranks)
      rewrite_table = by_table form rules t mode default ranks o guarded r o' ok.inner count change answered bytes

      -- What is written reads back as the result.
      pub rewrite_reads : routes_in (size_of form) (take (size_of form * count) o')
          ≡ result (lowest ranks) (width_in (size_of form)) (mode_of mode default) (routes_in (size_of form) t)
      rewrite_reads = by_reads form rules t mode default ranks o guarded r o' ok.inner count change answered bytes

      -- And says of each address what is demanded of its mode: the sets hold it alike, the maps answer it alike, fill gives the unrouted the default.
      pub rewrite_keeps : (x : ℕ) → x < 2 ^ width_in (size_of form)
          → Keeps (width_in (size_of form)) (mode_of mode default) (routes_in (size_of form) t) (routes_in (size_of form) (take (size_of form * count) o')) x
      rewrite_keeps = by_keeps form rules t mode default ranks o guarded r o' ok.inner count change answered bytes

-- ---- The cover query.
module _ (form : Form) (t : List ℕ) (address len words : ℕ) (r : Result Bool Refusal) (w' : List ℕ) (ok : Queried form t address len words r w') where
  -- It answers that the prefix is covered exactly when no condition holds and each address of the prefix is under some member.
  pub covers_exactly : r ≡ Ok true
      ↔ (None (CoverCondition form t len words)
      × ((x : ℕ) → In (width_in (size_of form) - len) (start_of (width_in (size_of form) - len) (address % 2 ^ width_in (size_of form))) x → held (width_in (size_of form)) (routes_in (size_of form) t) x ≡ true))
  unfolding covered_by
  covers_exactly =
      let answered = covers_answered form t address len words r w' ok true in
      let each = throughout-each (held (width_in (size_of form)) (routes_in (size_of form) t)) (width_in (size_of form) - len) (start_of (width_in (size_of form) - len) (address % 2 ^ width_in (size_of form))) in (
        λ e. let f = answered.0 (ap covers_says e) in (f.0, each.0 f.1),
        λ f. covers_same r (Ok true) (answered.1 (f.0, each.1 f.1)),
      )
