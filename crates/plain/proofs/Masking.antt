-- Host bits in the second engine: an answer under the strict choice is the default's wherever it is not refused by 6, and the masked bytes of an accepted table
-- are answered as the table. Assumes of a table, where it says so, that its elements are bytes.
use mathlib.Core.Path.{◌≡◌, ap, ap₂, subst, ◌∙◌}
use mathlib.Core.Bool.{Bool, not, ◌||◌}
use mathlib.Core.List.{List, [], ◌∷◌, ◌++◌}
use Prim.Native.Nat.{ℕ, ◌*◌, ◌/◌}
use lib.Dec.{eqb, leb}
use lib.ListN.{length}
use Rattle.theory.specs.Ranks.{is_ranking}
use Rattle.refusals.specs.Rules.{Rule, rule, refuses}
use Rattle.refusals.proofs.Waived.{waived, waived_append}
use Rattle.records.specs.Sized.{masked_in, Bytes}
use Rattle.records.specs.declared.Form.{Form}
use Rattle.records.specs.Forms.{size_of, masking, refusing}
use Rattle.records.proofs.SizedReading.{form_size}
use Rattle.table.specs.TableRules.{form_rules}
use Rattle.table.specs.Conditions.{AcceptedBy}
use Rattle.table.proofs.SizedMasking.{in_strict_waived, in_masked_routes, in_masked_length, in_masked_rules}
use Rattle.calls.specs.Rewriting.{result_of, takes_set, reply_by, written_of, output_of, RewritesBy, Outcome, rewritten_says}
use Rattle.calls.proofs.Masking.{choosing, by_waived}
use Rattle.plain.specs.Rewriting.{is_known, plain_rules}
use Rattle.plain.proofs.Calls.{plain_settled}

-- The default is the strict choice with number 6 waived.
plain_waived : (long : Bool) (t : List ℕ) (mode default : ℕ) (ranks : List ℕ) (room : ℕ)
    → waived 6 (plain_rules (refusing long) t mode default ranks room) ≡ plain_rules (masking long) t mode default ranks room
unfolding plain_rules
plain_waived long t mode default ranks room =
    ap (λ (l : List Rule).
    rule 1 0 (is_known mode)
    ∷ rule 16 0 (not (eqb mode 2))
    ∷ rule 2 0 (not (eqb mode 5) || leb default 63)
    ∷ rule 15 0 (not (leb 4 mode) || is_ranking 64 ranks)
    ∷ l)
    (waived_append 6 (form_rules (refusing long) (takes_set mode) t) last ∙ ap (λ (l : List Rule). l ++ last) (in_strict_waived (size_of (masking long)) (takes_set mode) t))
  where
    last : List Rule
    last = rule 11 0 (leb (size_of (masking long) * length (result_of (size_of (masking long)) t mode default ranks)) room) ∷ []

-- A rewrite that is not refused by 6 under the strict choice is the default's: the answer and the output.
pub plain_carried : (long : Bool) (t : List ℕ) (mode default : ℕ) (ranks o : List ℕ) (r q : Outcome) (o' p' : List ℕ)
    → RewritesBy (size_of (masking long)) (plain_rules (refusing long) t mode default ranks (length o)) t mode default ranks o r o'
    → RewritesBy (size_of (masking long)) (plain_rules (masking long) t mode default ranks (length o)) t mode default ranks o q p'
    → ((i : ℕ) → rewritten_says r ≡ refuses 6 i → ⊥) → (q ≡ r) × (p' ≡ o')
plain_carried long t mode default ranks o r q o' p' one other h =
    plain_settled (masking long) t mode default ranks o q r p' o' other
    (subst (λ (rules : List Rule). RewritesBy (size_of (masking long)) rules t mode default ranks o r o') (plain_waived long t mode default ranks (length o))
    (by_waived (size_of (masking long)) (plain_rules (refusing long) t mode default ranks (length o)) t mode default ranks o r o' one h))

-- The masked bytes of a table that is accepted as a set or as a map, under either choice, satisfy the table's own statement, and no other answer does.
pub plain_masked : (form : Form) (s : Bool) (t : List ℕ) → Bytes t → AcceptedBy form s t
    → (other : Bool) (mode default : ℕ) (ranks o : List ℕ) (r : Outcome) (o' : List ℕ)
    → RewritesBy (size_of form) (plain_rules (choosing other form.long) (masked_in (size_of form) t) mode default ranks (length o)) (masked_in (size_of form) t) mode default ranks o r o'
    → RewritesBy (size_of form) (plain_rules (masking form.long) t mode default ranks (length o)) t mode default ranks o r o'
unfolding reply_by plain_rules result_of
plain_masked form s t bytes ok other mode default ranks o r o' a =
    let same : reply_by (size_of form) (plain_rules (choosing other form.long) (masked_in (size_of form) t) mode default ranks (length o)) (masked_in (size_of form) t) mode default ranks
    ≡ reply_by (size_of form) (plain_rules (masking form.long) t mode default ranks (length o)) t mode default ranks =
    rw (in_masked_rules (size_of form) (form_size form) form.strict s t bytes ok other (takes_set mode), in_masked_routes (size_of form) (form_size form) form.strict s t bytes ok) in
    record {
      answer = a.answer ∙ ap₂ written_of (ap (λ (n : ℕ). n / size_of form) (in_masked_length (size_of form) (form_size form) form.strict s t bytes ok)) same;
      output = a.output ∙ ap (output_of (size_of form) o) same;
    }
