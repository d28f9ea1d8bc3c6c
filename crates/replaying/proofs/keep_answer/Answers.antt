-- `keep_answer` meets its contract: what is read of the 16 bytes is what the case says. Assumes nothing.
use mathlib.Core.Path.{◌≡◌, sym, ap, ap₂, ◌∙◌}
use Prim.Native.Nat.{ℕ, ◌≤◌}
use native.Mathlib.Omega.{arith}
use borrow.Author.Rules.{rules}
use lib.Seq.{length-take-le}
use Rattle.records.specs.declared.Form.{Form}
use Rattle.text.proofs.Puts.{put_as}
use Rattle.kept.specs.Kept.{byte, call_number, call_by, address_of, words_of, room_of}
use Rattle.replaying.specs.Answers.{rewrite_answer, cover_answer, lookup_answer, held_answer}
use Rattle.replaying.proofs.AnswerLaws.{other_call, case_rewrite, case_cover, case_lookup, case_held}
use Rattle.replaying.proofs.keep_answer.Goals as goal
use Rattle.replaying.proofs.keep_answer.Goals.{in_default-via-in-Ok+in_default, in_default-via-in_default}

pub returns-in-Ok-Rewrite : goal.returns-in-Ok-Rewrite
returns-in-Ok-Rewrite c =
    let s = c.args in
    let room = c.join2-room in
    let words = c.join4-words in
    let called : 0 ≡ call_by (byte s.head.now 0) = rw c.in-Ok-Rewrite.field-0-is at c.in-Ok-Rewrite.ensures in
    put_as
    (ap₂ (rewrite_answer c.form_of-form.result s.table.now (byte s.head.now 1) (byte s.head.now 2) s.ranks.now)
    (length-take-le _ _ (omega (arith, room.ensures.upper_bound, c.requires.value_2)) ∙ room.ensures.value)
    (length-take-le _ _ (omega (arith, words.ensures, c.requires.head_in_bounds)) ∙ words.ensures)
    ∙ ap (λ (form : Form). rewrite_answer form s.table.now (byte s.head.now 1) (byte s.head.now 2) s.ranks.now (room_of s.head.now) (words_of s.head.now))
    c.form_of-form.ensures
    ∙ case_rewrite s.head.now s.query.now s.table.now s.ranks.now (sym called))
    c.keep_rewritten.ensures

pub returns-in-Ok-Covers : goal.returns-in-Ok-Covers
returns-in-Ok-Covers c =
    let s = c.args in
    let words = c.join4-words in
    let called : 1 ≡ call_by (byte s.head.now 0) = rw c.in-Ok-Covers.field-0-is at c.in-Ok-Covers.ensures in
    put_as
    (ap₂ (λ (address words : ℕ). cover_answer c.form_of-form.result s.table.now address (byte s.head.now 3) words) c.address_of-address.ensures
    (length-take-le _ _ (omega (arith, words.ensures, c.requires.head_in_bounds)) ∙ words.ensures)
    ∙ ap (λ (form : Form). cover_answer form s.table.now (address_of s.head.now s.query.now) (byte s.head.now 3) (words_of s.head.now)) c.form_of-form.ensures
    ∙ case_cover s.head.now s.query.now s.table.now s.ranks.now (λ e. omega arith) (sym called))
    c.keep_covers.ensures

pub returns-in-Ok-Lookup : goal.returns-in-Ok-Lookup
returns-in-Ok-Lookup c =
    let s = c.args in
    let called : 2 ≡ call_by (byte s.head.now 0) = rw c.in-Ok-Lookup.field-0-is at c.in-Ok-Lookup.ensures in
    put_as
    (ap₂ (λ (form : Form) (address : ℕ). lookup_answer form s.table.now address) c.form_of-form.ensures c.address_of-address.ensures
    ∙ case_lookup s.head.now s.query.now s.table.now s.ranks.now (λ e. omega arith) (λ e. omega arith) (sym called))
    c.keep_lookup.ensures

pub returns-in_default : goal.returns-in_default
returns-in_default c =
    let s = c.args in
    let other : 3 ≤ call_by (byte s.head.now 0) = elim c.in_default.branch [
      | in_default-via-in-Ok+in_default w ↦
          let call : call_number w.in_default.field-0 ≡ call_by (byte s.head.now 0) = search rules in
          omega (arith, call, other_call w.in_default.field-0 (search rules) (search rules) (search rules))
      | in_default-via-in_default w ↦ search rules
    ] in
    put_as
    (ap (λ (form : Form). held_answer form s.table.now) c.form_of-form.ensures
    ∙ case_held s.head.now s.query.now s.table.now s.ranks.now (λ e. omega arith) (λ e. omega arith) (λ e. omega arith))
    c.keep_held.ensures
