-- Host bits in the list of what has no route: an answer under the strict choice is the default's wherever it is not refused by 6, and the masked bytes of an
-- accepted table have its list. Assumes of a table, where it says so, that its elements are bytes.
use mathlib.Core.Path.{◌≡◌, sym, ap, ap₂, ◌∙◌}
use mathlib.Core.Bool.{Bool, false}
use mathlib.Core.List.{List, [], ◌∷◌, ◌++◌}
use Prim.Native.Nat.{ℕ, ◌*◌}
use lib.Dec.{leb}
use lib.ListN.{length}
use Rattle.theory.specs.Routes.{Route}
use Rattle.refusals.specs.Rules.{Rule, rule, refuses, judge}
use Rattle.std.specs.Prelude.{Result}
use Rattle.refusals.specs.declared.Refusal.{Refusal}
use Rattle.refusals.proofs.Judged.{refuses_any}
use Rattle.refusals.proofs.Waived.{waived, waived_append, waived_judge, waived_answer}
use Rattle.records.specs.Sized.{width_in, masked_in, Bytes}
use Rattle.records.specs.declared.Form.{Form}
use Rattle.records.specs.Forms.{size_of, masking, refusing}
use Rattle.records.proofs.SizedReading.{form_size}
use Rattle.table.specs.Conditions.{AcceptedBy}
use Rattle.table.specs.TableRules.{form_rules}
use Rattle.table.proofs.SizedMasking.{in_strict_waived, in_masked_routes, in_masked_rules}
use Rattle.calls.specs.Rewriting.{output_of}
use Rattle.calls.proofs.Masking.{choosing}
use Rattle.holes.specs.Holes.{holes}
use Rattle.holes.specs.Listing.{holes_of, unrouted_rules, listed_says, Lists}
use Rattle.holes.proofs.Calls.{listed_same}

-- ---- The strict choice, at either size of a record.
module _ (long : Bool) where
  abbrev size : ℕ
  size = size_of (masking long)

  -- The default is the strict choice with number 6 waived.
  unrouted_waived : (t : List ℕ) (room : ℕ) → waived 6 (unrouted_rules (refusing long) t room) ≡ unrouted_rules (masking long) t room
  unfolding unrouted_rules
  unrouted_waived t room =
      waived_append 6 (form_rules (refusing long) false t) last ∙ ap (λ (l : List Rule). l ++ last) (in_strict_waived size false t)
    where
      last : List Rule
      last = rule 11 0 (leb (size * length (holes_of size t)) room) ∷ []

  -- So what is not refused by 6 is the default's: the answer and the output.
  pub unrouted_carried : (t o : List ℕ) (r q : Result ℕ Refusal) (o' p' : List ℕ) → Lists (refusing long) t o r o' → Lists (masking long) t o q p'
      → ((i : ℕ) → listed_says r ≡ refuses 6 i → ⊥) → (q ≡ r) × (p' ≡ o')
  unrouted_carried t o r q o' p' one other h =
      let rules = unrouted_rules (refusing long) t (length o) in
      let default : waived 6 rules ≡ unrouted_rules (masking long) t (length o) = unrouted_waived t (length o) in
      let same : judge (waived 6 rules) (holes_of size t) ≡ judge rules (holes_of size t) =
      waived_judge 6 rules (holes_of size t) (λ i e. h i (one.answer ∙ refuses_any rules (holes_of size t) (length (holes_of size t)) 6 i e)) in (
        waived_answer listed_says listed_same 6 rules (length (holes_of size t)) r q one.answer
            (other.answer ∙ ap (λ (l : List Rule). judge l (length (holes_of size t))) (sym default)) h,
        other.output
            ∙ ap (λ (l : List Rule). output_of size o (judge l (holes_of size t))) (sym default)
            ∙ ap (output_of size o) same
            ∙ sym one.output,
      )

-- ---- The masked bytes, read by a form of the same size, in place of a table that is accepted as a set or as a map.
module _ (form : Form) (s : Bool) (t : List ℕ) (bytes : Bytes t) (ok : AcceptedBy form s t) (other : Bool) where
  same_holes : holes_of (size_of form) (masked_in (size_of form) t) ≡ holes_of (size_of form) t
  same_holes = ap (holes (width_in (size_of form))) (in_masked_routes (size_of form) (form_size form) form.strict s t bytes ok)

  same_rules : (room : ℕ) → unrouted_rules (choosing other form.long) (masked_in (size_of form) t) room ≡ unrouted_rules (masking form.long) t room
  unfolding unrouted_rules
  same_rules room = rw (in_masked_rules (size_of form) (form_size form) form.strict s t bytes ok other false, same_holes)

  -- What is said of them is what is said of the table by default, and no other answer is: the same answer and output.
  pub unrouted-masked : (o : List ℕ) (r : Result ℕ Refusal) (o' : List ℕ) → Lists (choosing other form.long) (masked_in (size_of form) t) o r o'
      → Lists (masking form.long) t o r o'
  unrouted-masked o r o' a =
      let rules = same_rules (length o) in
      record {
        answer = a.answer ∙ ap₂ (λ (l : List Rule) (rs : List Route). judge l (length rs)) rules same_holes;
        output = a.output ∙ ap₂ (λ (l : List Rule) (rs : List Route). output_of (size_of form) o (judge l rs)) rules same_holes;
      }
