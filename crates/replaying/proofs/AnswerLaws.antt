-- Whose text is kept, and what a call leaves in the rooms that were filled before it. Assumes nothing.
use mathlib.Core.Path.{◌≡◌, refl, ap, ◌∙◌}
use mathlib.Core.Bool.{true}
use mathlib.Core.List.{List}
use Prim.Native.Nat.{ℕ, ◌*◌, ◌≤◌}
use native.Mathlib.Nat.{mul-zero}
use native.Mathlib.Omega.{arith}
use borrow.Author.Tests.{eq-eqb, ne_eqb}
use lib.ListN.{length, drop, replicate}
use lib.Seq.{drop_at}
use Rattle.theory.specs.Routes.{Route}
use Rattle.std.specs.Prelude.{Bool, Result, Ok, Err}
use Rattle.refusals.specs.Rules.{Rule, Reply, gives, refuses}
use Rattle.refusals.specs.Numbers.{number_of}
use Rattle.refusals.specs.declared.Refusal.{Refusal}
use Rattle.records.specs.Sized.{records_in, bytes_in}
use Rattle.records.specs.Forms.{size_of}
use Rattle.records.specs.declared.Form.{Form}
use Rattle.records.proofs.SizedReading.{form_size}
use Rattle.records.proofs.SizedWritten.{in_length_bytes}
use Rattle.rooms.specs.Rooms.{all_are}
use Rattle.calls.specs.Covering.{covers_says, cover_reply, Queried}
use Rattle.calls.specs.Conditions.{Guarded}
use Rattle.calls.specs.Rewriting.{Outcome, count_of, result_of, reply_by, written_of, output_of, RewritesBy, Rewrites}
use Rattle.calls.proofs.Engines.{by_records}
use Rattle.holes.specs.Listing.{listed_count, Lists}
use Rattle.holes.proofs.Calls.{refusal_changes_nothing, unrouted_rest}
use Rattle.text.specs.Answers.{said, cover_line, covers_text}
use Rattle.kept.proofs.KeptLaws.{all_replicate, all_dropped}
use Rattle.kept.specs.declared.call.Call.{Call}
use Rattle.kept.specs.declared.call.Call.TheVariants.{Rewrite, Covers, Lookup, AddressesHeld, Unrouted, Plain, Load, CheckPlan, Plan, SpecialUse, Live}
use Rattle.kept.specs.Kept.{byte, call_number, call_by, form_by, address_of, words_of, room_of}
use Rattle.replaying.specs.Answers.{rewrite_answer, cover_answer, lookup_answer, held_answer, answer_text}

-- ---- Whose text it is: an answer that says the right reply has its text.

pub covers_kept : (r : Result Bool Refusal) (form : Form) (t : List ℕ) (address len words : ℕ) → covers_says r ≡ cover_reply form t address len words
    → covers_text r ≡ cover_answer form t address len words
unfolding covers_text
covers_kept r form t address len words e = ap (said cover_line) e

-- Any other call has a number from 3 on.
pub other_call : (call : Call) → (call ≡ Rewrite → ⊥) → (call ≡ Covers → ⊥) → (call ≡ Lookup → ⊥) → 3 ≤ call_number call
other_call Rewrite a b c = absurd (a refl)
other_call Covers a b c = absurd (b refl)
other_call Lookup a b c = absurd (c refl)
other_call AddressesHeld a b c = omega arith
other_call Unrouted a b c = omega arith
other_call Plain a b c = omega arith
other_call Load a b c = omega arith
other_call CheckPlan a b c = omega arith
other_call Plan a b c = omega arith
other_call SpecialUse a b c = omega arith
other_call Live a b c = omega arith

-- The text of a case is that of its call.
module _ (head query t ranks : List ℕ) where
  abbrev form : Form
  form = form_by (byte head 0)

  abbrev call : ℕ
  call = call_by (byte head 0)

  pub case_rewrite : call ≡ 0 → rewrite_answer form t (byte head 1) (byte head 2) ranks (room_of head) (words_of head) ≡ answer_text head query t ranks
  unfolding answer_text
  case_rewrite e = rw (eq-eqb call 0 e)

  module _ (not-rewrite : call ≡ 0 → ⊥) where
    pub case_cover : call ≡ 1 → cover_answer form t (address_of head query) (byte head 3) (words_of head) ≡ answer_text head query t ranks
    unfolding answer_text
    case_cover e = rw (ne_eqb call 0 not-rewrite, eq-eqb call 1 e)

    module _ (not-cover : call ≡ 1 → ⊥) where
      pub case_lookup : call ≡ 2 → lookup_answer form t (address_of head query) ≡ answer_text head query t ranks
      unfolding answer_text
      case_lookup e = rw (ne_eqb call 0 not-rewrite, ne_eqb call 1 not-cover, eq-eqb call 2 e)

      pub case_held : (call ≡ 2 → ⊥) → held_answer form t ≡ answer_text head query t ranks
      unfolding answer_text
      case_held not-lookup = rw (ne_eqb call 0 not-rewrite, ne_eqb call 1 not-cover, ne_eqb call 2 not-lookup)

-- ---- What a call leaves in the rooms.

-- Both calls leave the room zero.
pub rewrite_zero : {form : Form} {t : List ℕ} {mode default : ℕ} {ranks o : List ℕ} {words : ℕ} {r : Outcome} {o' w' : List ℕ}
    → Rewrites form t mode default ranks o words r o' w' → all_are 0 w' ≡ true
rewrite_zero {words = words} ok = ap (all_are 0) ok.zero ∙ all_replicate 0 words

pub covers_zero : {form : Form} {t : List ℕ} {address len words : ℕ} {r : Result Bool Refusal} {w' : List ℕ} → Queried form t address len words r w' → all_are 0 w' ≡ true
covers_zero {words = words} ok = ap (all_are 0) ok.zero ∙ all_replicate 0 words

-- A refusal leaves the output.
output-left : (size before number index : ℕ) (o : List ℕ) (q : Reply (List Route)) → refuses number index ≡ written_of before q → output_of size o q ≡ o
output-left size before number index o (refuses m i) e = refl
output-left size before number index o (gives rs) e = let z : ◌≡◌ {A = ℕ} 0 1 = cc in absurd (omega arith)

-- Past the records that any engine answers with, an output of one value is as it was.
module _ (form : Form) (rules : List Rule) (t : List ℕ) (mode default : ℕ) (ranks o : List ℕ) (guarded : Guarded form rules t mode default ranks (length o)) (o' : List ℕ)
    (v n : ℕ) (filled : o ≡ replicate n v) where
  abbrev size : ℕ
  size = size_of form

  pub output-filled : (r : Outcome) → RewritesBy size rules t mode default ranks o r o' → all_are v (drop (size * count_of r) o') ≡ true
  output-filled (Ok w) ok =
      let f = by_records form rules t mode default ranks o guarded (Ok w) o' ok w.count w.change refl in
      let rs = result_of size t mode default ranks in
      ap (λ (m : ℕ). all_are v (drop (size * m) o')) f.1
      ∙ ap (λ (l : List ℕ). all_are v (drop (size * length rs) l)) f.3
      ∙ ap (all_are v) (drop_at (bytes_in size rs) (drop (size * length rs) o) (size * length rs) (in_length_bytes size (form_size form) rs))
      ∙ ap (λ (l : List ℕ). all_are v (drop (size * length rs) l)) filled
      ∙ all_dropped v (size * length rs) n
  output-filled (Err e) ok =
      let none : drop (size * 0) o' ≡ o' = ap (λ (m : ℕ). drop m o') (mul-zero size) in
      ap (all_are v) (none ∙ ok.output ∙ output-left size (records_in size t) (number_of e.cause) e.index o (reply_by size rules t mode default ranks) ok.answer ∙ filled) ∙ all_replicate v n

-- The same of a list of what has no route.
module _ (form : Form) (t o o' : List ℕ) (v n : ℕ) (filled : o ≡ replicate n v) where
  pub list_filled : (r : Result ℕ Refusal) → Lists form t o r o' → all_are v (drop (size_of form * listed_count r) o') ≡ true
  list_filled (Ok count) ok =
      ap (all_are v) (unrouted_rest form t o (Ok count) o' ok count refl)
      ∙ ap (λ (l : List ℕ). all_are v (drop (size_of form * count) l)) filled
      ∙ all_dropped v (size_of form * count) n
  list_filled (Err e) ok =
      ap (λ (m : ℕ). all_are v (drop m o')) (mul-zero (size_of form))
      ∙ ap (all_are v) (refusal_changes_nothing form t o (Err e) o' ok (number_of e.cause) e.index refl ∙ filled) ∙ all_replicate v n
