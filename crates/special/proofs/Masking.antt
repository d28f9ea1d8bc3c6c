-- Host bits in the special-use call: an answer under the strict choice is the default's wherever it is not refused by 6, and the masked bytes of an accepted
-- table are answered as the table. Assumes of a table, where it says so, that its elements are bytes.
use mathlib.Core.Path.{◌≡◌, sym, ap, ◌∙◌}
use mathlib.Core.Bool.{Bool, false}
use mathlib.Core.List.{List, ◌∷◌}
use Prim.Native.Nat.{ℕ}
use Rattle.std.specs.Prelude.{Option, Result}
use Rattle.refusals.specs.declared.Refusal.{Refusal}
use Rattle.refusals.specs.Rules.{Rule, rule, judge, refuses}
use Rattle.refusals.proofs.Waived.{waived, waived_answer}
use Rattle.records.specs.Wire.{routes, masked_bytes}
use Rattle.records.specs.Sized.{Bytes}
use Rattle.records.specs.declared.Form.{Form}
use Rattle.records.specs.Forms.{by_default, strictly}
use Rattle.table.specs.Conditions.{Accepted}
use Rattle.table.proofs.AtEight.{strict_waived, masked-routes, masked_rules}
use Rattle.special.specs.Calls.{special_says, special_rules, special_reply}
use Rattle.special.specs.Editions.{is_edition, ranges_of}
use Rattle.special.specs.Ranges.{Place, first_special}
use Rattle.special.proofs.Calls.{special_same}

-- The default is the strict choice with number 6 waived.
special_waived : (t : List ℕ) (edition : ℕ) → waived 6 (special_rules strictly t edition) ≡ special_rules by_default t edition
unfolding special_rules
special_waived t edition = ap (λ (l : List Rule). rule 14 0 (is_edition edition) ∷ l) (strict_waived false t)

-- So what is not refused by 6 is the default's.
pub special_carried : (t : List ℕ) (edition : ℕ) (r q : Result (Option ℕ) Refusal) → special_says r ≡ special_reply strictly t edition → special_says q ≡ special_reply by_default t edition
    → ((i : ℕ) → special_says r ≡ refuses 6 i → ⊥) → q ≡ r
special_carried t edition r q one other h =
    let place : Place = first_special 32 (ranges_of edition) (routes t) in
    waived_answer special_says special_same 6 (special_rules strictly t edition) place r q one
    (other ∙ ap (λ (l : List Rule). judge l place) (sym (special_waived t edition)))
    h

-- The masked bytes of a table that is accepted as a set or as a map, read by any form, have the right reply for the table by default.
pub special_masked : (form : Form) (s : Bool) (t : List ℕ) → Bytes t → Accepted form s t → (other : Form) (edition : ℕ)
    → special_reply other (masked_bytes t) edition ≡ special_reply by_default t edition
unfolding special_rules
special_masked form s t bytes ok other edition = rw (masked_rules form s t bytes ok other false, masked-routes form s t bytes ok)
