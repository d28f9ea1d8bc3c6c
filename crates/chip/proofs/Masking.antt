-- Host bits in the chip loader: an answer under the strict choice is the default's wherever it is not refused by 6, and the masked bytes of an accepted table have
-- its image. Assumes of a table, where it says so, that its elements are bytes.
use mathlib.Core.Path.{◌≡◌, sym, ap, ap₂, ◌∙◌}
use mathlib.Core.Bool.{Bool, false}
use mathlib.Core.List.{List, [], ◌∷◌, ◌++◌}
use Prim.Native.Nat.{ℕ, ◌/◌}
use lib.Dec.{eqb}
use lib.ListN.{length}
use Rattle.refusals.specs.declared.Refusal.{Refusal}
use Rattle.std.specs.Prelude.{Result}
use Rattle.theory.specs.Routes.{Route}
use Rattle.theory.specs.Falling.{falling}
use Rattle.refusals.specs.Rules.{Rule, rule, refuses, judge}
use Rattle.refusals.proofs.Judged.{refuses_any}
use Rattle.refusals.proofs.Waived.{waived, waived_append, waived_judge, waived_answer}
use Rattle.records.specs.Wire.{records, masked_bytes}
use Rattle.records.specs.Sized.{Bytes}
use Rattle.records.specs.declared.Form.{Form}
use Rattle.records.specs.Forms.{by_default, strictly}
use Rattle.table.specs.Conditions.{Accepted}
use Rattle.table.specs.TableRules.{table_rules}
use Rattle.table.proofs.AtEight.{strict_waived, masked-routes, masked-length, masked_rules}
use Rattle.chip.specs.Loading.{load_rules, load_order, loaded_says, image_after, Loads}
use Rattle.chip.proofs.Calls.{loaded_same}

-- The default is the strict choice with number 6 waived.
load_waived : (t : List ℕ) (size : ℕ) → waived 6 (load_rules strictly t size) ≡ load_rules by_default t size
unfolding load_rules
load_waived t size = waived_append 6 (table_rules strictly false t) last ∙ ap (λ (l : List Rule). l ++ last) (strict_waived false t)
  where
    last : List Rule
    last = rule 12 0 (eqb size 8192) ∷ []

-- So what is not refused by 6 is the default's: the answer and the image.
pub load_carried : (t m : List ℕ) (r q : Result ℕ Refusal) (m' p' : List ℕ) → Loads strictly t m r m' → Loads by_default t m q p'
    → ((i : ℕ) → loaded_says r ≡ refuses 6 i → ⊥) → (q ≡ r) × (p' ≡ m')
load_carried t m r q m' p' one other h =
    let rules = load_rules strictly t (length m) in
    let not_six : (i : ℕ) → loaded_says r ≡ refuses 6 i → ⊥ = h in
    let default : waived 6 rules ≡ load_rules by_default t (length m) = load_waived t (length m) in
    let same : judge (waived 6 rules) (load_order t) ≡ judge rules (load_order t) =
    waived_judge 6 rules (load_order t) (λ i e. not_six i (one.answer ∙ refuses_any rules (load_order t) (records t) 6 i e)) in (
      waived_answer loaded_says loaded_same 6 rules (records t) r q one.answer
          (other.answer ∙ ap (λ (l : List Rule). judge l (records t)) (sym default)) not_six,
      other.image ∙ ap (λ (l : List Rule). image_after m (judge l (load_order t))) (sym default) ∙ ap (image_after m) same ∙ sym one.image,
    )

-- ---- The masked bytes, read by any form, in place of a table that is accepted as a set or as a map.
module _ (form : Form) (s : Bool) (t : List ℕ) (bytes : Bytes t) (ok : Accepted form s t) (other : Form) where
  same_order : load_order (masked_bytes t) ≡ load_order t
  unfolding load_order
  same_order = ap (falling 32) (masked-routes form s t bytes ok)

  same_records : records (masked_bytes t) ≡ records t
  same_records = ap (λ (n : ℕ). n / 8) (masked-length form s t bytes ok)

  same_rules : (size : ℕ) → load_rules other (masked_bytes t) size ≡ load_rules by_default t size
  unfolding load_rules
  same_rules size = rw (masked_rules form s t bytes ok other false)

  -- They satisfy the table's own statement by default, and no other answer does: the same answer and image.
  pub load_same : (m : List ℕ) (r : Result ℕ Refusal) (m' : List ℕ) → Loads other (masked_bytes t) m r m' → Loads by_default t m r m'
  load_same m r m' a =
      let rules = same_rules (length m) in
      record {
        answer = a.answer ∙ ap₂ (λ (l : List Rule) (n : ℕ). judge l n) rules same_records;
        image = a.image ∙ ap₂ (λ (l : List Rule) (rs : List Route). image_after m (judge l rs)) rules same_order;
      }
