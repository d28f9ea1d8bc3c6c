-- Host bits in a rewrite and in the cover query: an answer under the strict choice is the default's wherever it is not refused by 6, and the masked bytes of
-- an accepted table are answered as the table. Assumes of a table, where it says so, that its elements are bytes.
use mathlib.Core.Path.{◌≡◌, sym, ap, ap₂, subst, ◌∙◌}
use mathlib.Core.Bool.{Bool, true, not, ◌||◌, ◌&&◌}
use mathlib.Core.List.{List, [], ◌∷◌, ◌++◌}
use Prim.Native.Nat.{ℕ, ◌*◌, ◌/◌}
use lib.Dec.{eqb, leb}
use lib.ListN.{length}
use Rattle.refusals.specs.declared.Refusal.{Refusal}
use Rattle.std.specs.Prelude.{Result}
use Rattle.theory.specs.Results.{result}
use Rattle.theory.specs.Ranks.{lowest, is_ranking}
use Rattle.refusals.specs.Rules.{Rule, rule, judge, refuses}
use Rattle.refusals.proofs.Waived.{waived, waived_append, waived_judge, waived_answer}
use Rattle.records.specs.Sized.{width_in, records_in, routes_in, masked_in, Bytes}
use Rattle.records.specs.declared.Form.{Form}
use Rattle.records.specs.Forms.{size_of, masking, refusing}
use Rattle.records.proofs.SizedReading.{form_size}
use Rattle.table.specs.TableRules.{form_rules}
use Rattle.table.specs.Conditions.{AcceptedBy}
use Rattle.table.proofs.SizedMasking.{in_strict_waived, in_masked_routes, in_masked_length, in_masked_rules}
use Rattle.nodecount.specs.Nodes.{nodes}
use Rattle.calls.specs.Covering.{cover_rules, covered_by, covers_says, cover_reply, Queried}
use Rattle.calls.specs.Rewriting.{mode_of, result_of, takes_set, rewrite_rules, reply_by, rewrite_reply, written_of, output_of, RewritesBy, Rewrites, Outcome, rewritten_says}
use Rattle.calls.proofs.Settled.{covers_same, rewrite_settled}

-- A form by its choice on host bits and its size.
abbrev pub choosing : Bool → Bool → Form
choosing strict long = record { strict = strict; long = long }

-- ---- The strict choice. A rewrite by any engine's rules, and by the same with number 6 waived.
module _ (size : ℕ) (rules : List Rule) (t : List ℕ) (mode default : ℕ) (ranks o : List ℕ) (r : Outcome) (o' : List ℕ) (one : RewritesBy size rules t mode default ranks o r o') where
  -- What is not refused by 6 satisfies the other's statement.
  pub by_waived : ((i : ℕ) → rewritten_says r ≡ refuses 6 i → ⊥) → RewritesBy size (waived 6 rules) t mode default ranks o r o'
  unfolding reply_by
  by_waived h = record { answer = one.answer ∙ ap (written_of (records_in size t)) (sym same); output = one.output ∙ ap (output_of size o) (sym same) }
    where
      same : judge (waived 6 rules) (result_of size t mode default ranks) ≡ judge rules (result_of size t mode default ranks)
      same =
          waived_judge 6 rules (result_of size t mode default ranks)
          (λ i e. h i (one.answer ∙ ap (written_of (records_in size t)) e))

-- The default is the strict choice with number 6 waived.
module _ (long : Bool) (t : List ℕ) where
  rewrite_waived : (mode default : ℕ) (ranks : List ℕ) (room words : ℕ)
      → waived 6 (rewrite_rules (refusing long) t mode default ranks room words) ≡ rewrite_rules (masking long) t mode default ranks room words
  unfolding rewrite_rules
  rewrite_waived mode default ranks room words =
      ap (λ (l : List Rule).
      rule 1 0 (leb 1 mode && leb mode 5)
      ∷ rule 16 0 (not (eqb mode 2))
      ∷ rule 2 0 (not (eqb mode 5) || leb default 63)
      ∷ rule 15 0 (not (leb 4 mode) || is_ranking 64 ranks)
      ∷ l)
      (waived_append 6 (form_rules (refusing long) (takes_set mode) t) behind ∙ ap (λ (l : List Rule). l ++ behind) (in_strict_waived (size_of (masking long)) (takes_set mode) t))
    where
      behind : List Rule
      behind = rule 10 0 (leb (160 * nodes (width_in (size_of (masking long))) (routes_in (size_of (masking long)) t)) words)
          ∷ rule 11 0 (leb (size_of (masking long) * length (result_of (size_of (masking long)) t mode default ranks)) room) ∷ []

  cover_waived : (len words : ℕ) → waived 6 (cover_rules (refusing long) t len words) ≡ cover_rules (masking long) t len words
  unfolding cover_rules
  cover_waived len words =
      waived_append 6 (form_rules (refusing long) true t) last ∙ ap (λ (l : List Rule). l ++ last) (in_strict_waived (size_of (masking long)) true t)
    where
      last : List Rule
      last = rule 9 0 (leb len (width_in (size_of (masking long)))) ∷ rule 10 0 (leb (160 * nodes (width_in (size_of (masking long))) (routes_in (size_of (masking long)) t)) words) ∷ []

  -- A rewrite that is not refused by 6 under the strict choice is the default's: the answer, the output and the room.
  pub rewrite_carried : (mode default : ℕ) (ranks o : List ℕ) (words : ℕ) (r q : Outcome) (o' p' w' v' : List ℕ)
      → Rewrites (refusing long) t mode default ranks o words r o' w' → Rewrites (masking long) t mode default ranks o words q p' v'
      → ((i : ℕ) → rewritten_says r ≡ refuses 6 i → ⊥) → (q ≡ r) × (p' ≡ o') × (v' ≡ w')
  rewrite_carried mode default ranks o words r q o' p' w' v' one other h =
      rewrite_settled (masking long) t mode default ranks o words q r p' o' v' w' other
      (record {
        inner =
            subst (λ (rules : List Rule). RewritesBy (size_of (masking long)) rules t mode default ranks o r o') (rewrite_waived mode default ranks (length o) words)
            (by_waived (size_of (masking long)) (rewrite_rules (refusing long) t mode default ranks (length o) words) t mode default ranks o r o' one.inner h);
        zero = one.zero;
      })

  -- So is the cover query's.
  pub covers_carried : (address len words : ℕ) (r q : Result Bool Refusal) (w' v' : List ℕ)
      → Queried (refusing long) t address len words r w' → Queried (masking long) t address len words q v'
      → ((i : ℕ) → covers_says r ≡ refuses 6 i → ⊥) → (q ≡ r) × (v' ≡ w')
  covers_carried address len words r q w' v' one other h = (
    waived_answer covers_says covers_same 6 (cover_rules (refusing long) t len words) (covered_by (size_of (masking long)) t address len) r q one.answer
        (other.answer ∙ ap (λ (l : List Rule). judge l (covered_by (size_of (masking long)) t address len)) (sym (cover_waived len words)))
        h,
    other.zero ∙ sym one.zero,
  )

-- ---- The masked bytes, read by any form, in place of a table that is accepted as a set or as a map.
module _ (form : Form) (s : Bool) (t : List ℕ) (bytes : Bytes t) (ok : AcceptedBy form s t) (other : Bool) where
  same_records : records_in (size_of form) (masked_in (size_of form) t) ≡ records_in (size_of form) t
  same_records = ap (λ (n : ℕ). n / size_of form) (in_masked_length (size_of form) (form_size form) form.strict s t bytes ok)

  same_result : (mode default : ℕ) (ranks : List ℕ)
      → result_of (size_of form) (masked_in (size_of form) t) mode default ranks ≡ result_of (size_of form) t mode default ranks
  unfolding result_of
  same_result mode default ranks = ap (result (lowest ranks) (width_in (size_of form)) (mode_of mode default)) (in_masked_routes (size_of form) (form_size form) form.strict s t bytes ok)

  -- A rewrite of them has the right reply for the table by default,
  pub rewrite_masked : (mode default : ℕ) (ranks : List ℕ) (room words : ℕ)
      → rewrite_reply (choosing other form.long) (masked_in (size_of form) t) mode default ranks room words
      ≡ rewrite_reply (masking form.long) t mode default ranks room words
  unfolding reply_by rewrite_rules
  rewrite_masked mode default ranks room words =
      rw (in_masked_rules (size_of form) (form_size form) form.strict s t bytes ok other (takes_set mode), in_masked_routes (size_of form) (form_size form) form.strict s t bytes ok, same_result mode default ranks)

  -- and so satisfies its statement, and no other answer does: in every mode the same answer, output and room.
  pub rewrites-masked : (mode default : ℕ) (ranks o : List ℕ) (words : ℕ) (r : Outcome) (o' w' : List ℕ)
      → Rewrites (choosing other form.long) (masked_in (size_of form) t) mode default ranks o words r o' w'
      → Rewrites (masking form.long) t mode default ranks o words r o' w'
  rewrites-masked mode default ranks o words r o' w' a =
      let same = rewrite_masked mode default ranks (length o) words in
      record {
        inner =
            record {
              answer = a.inner.answer ∙ ap₂ written_of same_records same;
              output = a.inner.output ∙ ap (output_of (size_of form) o) same;
            };
        zero = a.zero;
      }

  -- The cover query likewise.
  pub covers_masked : (address len words : ℕ)
      → cover_reply (choosing other form.long) (masked_in (size_of form) t) address len words ≡ cover_reply (masking form.long) t address len words
  unfolding cover_rules covered_by
  covers_masked address len words = rw (in_masked_rules (size_of form) (form_size form) form.strict s t bytes ok other true, in_masked_routes (size_of form) (form_size form) form.strict s t bytes ok)
