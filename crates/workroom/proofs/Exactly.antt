-- What the statement settles: no second answer satisfies it, and each case of an answer stands for exactly these facts; and what it says of host bits.
-- Assumes of a table, where it says so, that its elements are bytes.
use mathlib.Core.Path.{◌≡◌, refl, ap₂}
use mathlib.Core.Bool.{Bool}
use mathlib.Core.List.{List}
use mathlib.Core.Logic.{◌↔◌}
use Prim.Native.Nat.{ℕ, ◌*◌}
use Rattle.theory.specs.Routes.{Route}
use Rattle.std.specs.Prelude.{Result, Ok}
use Rattle.refusals.specs.Rules.{Rule, refuses, judge}
use Rattle.refusals.specs.Order.{First}
use Rattle.refusals.specs.declared.Refusal.{Refusal}
use Rattle.refusals.proofs.Replies.{reply_same}
use Rattle.records.specs.Sized.{Bytes, width_in, masked_in}
use Rattle.records.specs.declared.Form.{Form}
use Rattle.records.specs.Forms.{size_of, masking, refusing}
use Rattle.records.proofs.SizedReading.{form_size}
use Rattle.table.specs.Conditions.{FormCondition, AcceptedBy}
use Rattle.table.proofs.SizedAlone.{in_table_unique, in_table_gives, in_table_says_refused}
use Rattle.table.proofs.SizedMasking.{in_table_carried, in_masked_routes, in_masked_rules}
use Rattle.nodecount.specs.Nodes.{nodes}
use Rattle.workroom.specs.Needed.{words_in, words_says, words_reply}

-- Answers that say the same are the same.
words_same : (a b : Result ℕ Refusal) → words_says a ≡ words_says b → a ≡ b
words_same = reply_same (λ n. n) (λ m n e. e)

module _ (form : Form) (s : Bool) (t : List ℕ) where
  -- No second answer satisfies the statement.
  pub words_unique : (a b : Result ℕ Refusal) → words_says a ≡ words_reply form s t → words_says b ≡ words_reply form s t → a ≡ b
  words_unique = in_table_unique words_says words_same (size_of form) (form_size form) form.strict s t (words_in (size_of form) t)

  module _ (r : Result ℕ Refusal) (e : words_says r ≡ words_reply form s t) where
    -- It answers a number exactly for an accepted table, and the number is the one below which document 01's number 10 is due.
    pub words-exactly : (n : ℕ) → r ≡ Ok n ↔ (AcceptedBy form s t × (words_in (size_of form) t ≡ n))
    words-exactly n = in_table_gives words_says words_same (size_of form) (form_size form) form.strict s t (words_in (size_of form) t) r e (Ok n) n refl

    -- It answers a refusal exactly when its number and index are those of the first condition that holds.
    pub words_refused_exactly : (n i : ℕ) → words_says r ≡ refuses n i ↔ First (FormCondition form s t) n i
    words_refused_exactly = in_table_says_refused words_says words_same (size_of form) (form_size form) form.strict s t (words_in (size_of form) t) r e

-- ---- Host bits.

-- An answer under the strict choice is the default's wherever it is not refused by 6.
pub words_carried : (long s : Bool) (t : List ℕ) (r q : Result ℕ Refusal) → words_says r ≡ words_reply (refusing long) s t → words_says q ≡ words_reply (masking long) s t
    → ((i : ℕ) → words_says r ≡ refuses 6 i → ⊥) → q ≡ r
words_carried long s t r q one other h =
    let size = size_of (masking long) in
    in_table_carried words_says words_same size s t (words_in size t) r q one other h

-- The masked bytes of a table that is accepted as one kind need, as either kind and under either choice, what the table needs.
pub words-masked : (strict long s : Bool) (t : List ℕ) → Bytes t → AcceptedBy (record { strict = strict; long = long }) s t → (other kind : Bool)
    → words_reply (record { strict = other; long = long }) kind (masked_in (size_of (masking long)) t) ≡ words_reply (masking long) kind t
words-masked strict long s t bytes ok other kind =
    let size = size_of (masking long) in
    ap₂ (λ (rules : List Rule) (rs : List Route). judge rules (160 * nodes (width_in size) rs))
    (in_masked_rules size (form_size (masking long)) strict s t bytes ok other kind)
    (in_masked_routes size (form_size (masking long)) strict s t bytes ok)
