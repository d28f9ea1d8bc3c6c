-- Host bits in lookup and addresses held: an answer under the strict choice is the default's wherever it is not refused by 6, and the masked bytes of an
-- accepted table have its answers. Lookup at either size, addresses held at 8 bytes. Assumes of a table, where it says so, that its elements are bytes.
use mathlib.Core.Path.{◌≡◌, ap₂}
use mathlib.Core.Bool.{Bool, false}
use mathlib.Core.List.{List}
use Prim.Native.Nat.{ℕ, ◌%◌, ◌^◌}
use Rattle.theory.specs.Routes.{Route as Entry, lookup}
use Rattle.theory.specs.Reach.{reach}
use Rattle.std.specs.Prelude.{Option, Result}
use Rattle.refusals.specs.Rules.{Rule, refuses, judge}
use Rattle.refusals.specs.declared.Refusal.{Refusal}
use Rattle.records.specs.Wire.{routes, masked_bytes}
use Rattle.records.specs.Sized.{Bytes, width_in, masked_in}
use Rattle.records.specs.declared.Form.{Form}
use Rattle.records.specs.Forms.{size_of, masking, refusing, by_default, strictly}
use Rattle.records.proofs.SizedReading.{form_size}
use Rattle.table.specs.Conditions.{Accepted, AcceptedBy}
use Rattle.table.proofs.SizedMasking.{in_table_carried, in_masked_routes, in_masked_rules}
use Rattle.table.proofs.AtEight.{table_carried, masked-routes, masked_rules}
use Rattle.lookup.specs.declared.answers.Match.{Match as Found}
use Rattle.lookup.specs.Calls.{match_in, lookup_says, lookup_reply, held_says, held_reply}
use Rattle.lookup.proofs.Calls.{lookup_same, count_same}

-- ---- The strict choice.
pub lookup_carried : (long : Bool) (t : List ℕ) (x : ℕ) (r q : Result (Option Found) Refusal) → lookup_says r ≡ lookup_reply (refusing long) t x → lookup_says q ≡ lookup_reply (masking long) t x
    → ((i : ℕ) → lookup_says r ≡ refuses 6 i → ⊥) → q ≡ r
lookup_carried long t x r q one other h =
    let size = size_of (masking long) in
    in_table_carried lookup_says lookup_same size false t (match_in size t x) r q one other h

pub held_carried : (t : List ℕ) (r q : Result ℕ Refusal) → held_says r ≡ held_reply strictly t → held_says q ≡ held_reply by_default t
    → ((i : ℕ) → held_says r ≡ refuses 6 i → ⊥) → q ≡ r
held_carried t r q one other h =
    table_carried held_says count_same false t (reach 32 (routes t)) r q one other h

-- ---- The masked bytes, read by either choice, in place of the table.
pub lookup-masked : (strict long s : Bool) (t : List ℕ) → Bytes t → AcceptedBy (record { strict = strict; long = long }) s t → (other : Bool) (x : ℕ)
    → lookup_reply (record { strict = other; long = long }) (masked_in (size_of (masking long)) t) x ≡ lookup_reply (masking long) t x
lookup-masked strict long s t bytes ok other x =
    let size = size_of (masking long) in
    ap₂ (λ (rules : List Rule) (rs : List Entry). judge rules (lookup (width_in size) rs (x % 2 ^ width_in size)))
    (in_masked_rules size (form_size (masking long)) strict s t bytes ok other false)
    (in_masked_routes size (form_size (masking long)) strict s t bytes ok)

pub held-masked : (form : Form) (s : Bool) (t : List ℕ) → Bytes t → Accepted form s t → (other : Form) → held_reply other (masked_bytes t) ≡ held_reply by_default t
held-masked form s t bytes ok other =
    ap₂ (λ (rules : List Rule) (rs : List Entry). judge rules (reach 32 rs)) (masked_rules form s t bytes ok other false) (masked-routes form s t bytes ok)
