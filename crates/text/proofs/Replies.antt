-- The text of an answer that meets its statement is the text of the right reply. Assumes of the table that its elements are bytes.
use mathlib.Core.Path.{◌≡◌, refl, sym, ap, ap₂, ◌∙◌}
use mathlib.Core.Bool.{Bool, false}
use mathlib.Core.List.{List, ◌++◌}
use Prim.Native.Nat.{ℕ, ◌*◌, ◌≤◌}
use native.Mathlib.Omega.{arith}
use lib.IntN.{ℤ}
use lib.ListN.{length}
use Rattle.theory.specs.Routes.{Route}
use Rattle.refusals.specs.Rules.{Rule, Reply, refuses, judge}
use Rattle.refusals.proofs.Judged.{gives_any, refuses_any}
use Rattle.records.specs.Sized.{records_in, Bytes}
use Rattle.records.specs.Forms.{size_of}
use Rattle.records.specs.declared.Form.{Form}
use Rattle.std.specs.Prelude.{Result, Ok, Err}
use Rattle.std.specs.Result.{MatchResult, IsErrAnd}
use Rattle.refusals.specs.Numbers.{number_of}
use Rattle.refusals.specs.declared.Refusal.{Refusal}
use Rattle.calls.specs.Conditions.{Guarded}
use Rattle.calls.specs.Rewriting.{Outcome, count_of, result_of, rewrite_rules, reply_by, rewrite_reply, written_of, RewritesBy, Rewrites}
use Rattle.calls.proofs.Engines.{by_reply, by_records, by_length, by_reads}
use Rattle.calls.proofs.Refusals.{rewrite_guarded}
use Rattle.holes.specs.Listing.{holes_of, unrouted_rules, listed_count, Lists}
use Rattle.holes.proofs.Calls.{unrouted-listed, unrouted-length, unrouted-reads}
use Rattle.text.specs.declared.Refused.{Refused}
use Rattle.text.specs.Text.{lines_in, change_line, refused_of, total_end}
use Rattle.text.specs.Answers.{rewritten_text, reply_text, as_said, records_said, listed_text, list_text}

-- A reply that is said as a refusal is that refusal.
said_refused : (before number index : ℕ) (q : Reply (List Route)) → refuses number index ≡ written_of before q → q ≡ refuses number index
said_refused before number index (Rattle.refusals.specs.Rules.gives rs) e = cc
said_refused before number index (refuses m i) e = cc

-- ---- Of a rewrite, by any engine.
module _ (form : Form) (rules : List Rule) (t : List ℕ) (mode default : ℕ) (ranks o : List ℕ) (guarded : Guarded form rules t mode default ranks (length o)) (o' : List ℕ) where
  pub by_text : (hex hops : Bool) → Bytes t → (r : Outcome) → RewritesBy (size_of form) rules t mode default ranks o r o'
      → rewritten_text (size_of form) hex hops r o' ≡ reply_text (size_of form) hex hops (records_in (size_of form) t) (reply_by (size_of form) rules t mode default ranks)
  unfolding rewritten_text reply_text result_of
  by_text hex hops bytes (Ok w) ok =
      ap₂ (λ (rs : List Route) (z : ℤ). lines_in (size_of form) hex hops rs ++ change_line z)
      (by_reads form rules t mode default ranks o guarded (Ok w) o' ok w.count w.change refl bytes)
      (by_records form rules t mode default ranks o guarded (Ok w) o' ok w.count w.change refl).2
      ∙ sym (ap (reply_text (size_of form) hex hops (records_in (size_of form) t)) (by_reply form rules t mode default ranks o guarded (Ok w) o' ok w.count w.change refl))
  by_text hex hops bytes (Err e) ok =
      sym (ap (reply_text (size_of form) hex hops (records_in (size_of form) t)) (said_refused (records_in (size_of form) t) (number_of e.cause) e.index (reply_by (size_of form) rules t mode default ranks) ok.answer))

  -- The records that are answered with stand in the output.
  pub by_fits : (r : Outcome) → RewritesBy (size_of form) rules t mode default ranks o r o' → size_of form * count_of r ≤ length o'
  by_fits (Ok w) ok =
      let f = by_records form rules t mode default ranks o guarded (Ok w) o' ok w.count w.change refl in
      let n = ap (λ (m : ℕ). size_of form * m) f.1 in
      omega (arith, f.0.enough_output, n, by_length form rules t mode default ranks o guarded (Ok w) o' ok)
  by_fits (Err e) ok = omega arith

-- By that over nodes.
module _ (form : Form) (t : List ℕ) (mode default : ℕ) (ranks o : List ℕ) (words : ℕ) (o' w' : List ℕ) where
  guarded : Guarded form (rewrite_rules form t mode default ranks (length o) words) t mode default ranks (length o)
  guarded = rewrite_guarded form t mode default ranks (length o) words

  pub rewritten_text_lem : (hex hops : Bool) → Bytes t → (r : Outcome) → Rewrites form t mode default ranks o words r o' w'
      → rewritten_text (size_of form) hex hops r o' ≡ reply_text (size_of form) hex hops (records_in (size_of form) t) (rewrite_reply form t mode default ranks (length o) words)
  rewritten_text_lem hex hops bytes r ok = by_text form (rewrite_rules form t mode default ranks (length o) words) t mode default ranks o guarded o' hex hops bytes r ok.inner

  pub rewritten_fits : (r : Outcome) → Rewrites form t mode default ranks o words r o' w' → size_of form * count_of r ≤ length o'
  rewritten_fits r ok = by_fits form (rewrite_rules form t mode default ranks (length o) words) t mode default ranks o guarded o' r ok.inner

-- ---- An answer whose refusal is said, as `map_err` makes it.
pub said_as : {A : Type 0} (r : Result A Refusal) (said : Result A Refused) → MatchResult r (λ a. said ≡ Ok a) (λ e. IsErrAnd said (λ x. x ≡ refused_of e)) → said ≡ as_said r
said_as (Ok a) said e = e
said_as (Err refusal) (Ok a) e = absurd e
said_as (Err refusal) (Err x) e = ap Err e

-- ---- A list of what has no route.
-- It has as many records with its refusal said.
pub count_said : (r : Result ℕ Refusal) → records_said (as_said r) ≡ listed_count r
count_said (Ok count) = refl
count_said (Err e) = refl

module _ (form : Form) (t o o' : List ℕ) where
  pub listed-text : (hex total : Bool) (r : Result ℕ Refusal) → Lists form t o r o'
      → listed_text (size_of form) hex total (as_said r) o' ≡ list_text (size_of form) hex total (judge (unrouted_rules form t (length o)) (holes_of (size_of form) t))
  unfolding listed_text list_text
  listed-text hex total (Ok count) ok =
      ap₂ (λ (rs : List Route) (n : ℕ). lines_in (size_of form) hex false rs ++ total_end total n) (unrouted-reads form t o (Ok count) o' ok count refl)
      (sym ((unrouted-listed form t o (Ok count) o' ok count).0 refl).2)
      ∙ sym (ap (list_text (size_of form) hex total) (gives_any (unrouted_rules form t (length o)) (length (holes_of (size_of form) t)) count (holes_of (size_of form) t) (sym ok.answer)))
  listed-text hex total (Err e) ok =
      sym (ap (list_text (size_of form) hex total) (refuses_any (unrouted_rules form t (length o)) (length (holes_of (size_of form) t)) (holes_of (size_of form) t) (number_of e.cause) e.index (sym ok.answer)))

  -- The records that are answered with stand in the output.
  pub listed-fits : (r : Result ℕ Refusal) → Lists form t o r o' → size_of form * listed_count r ≤ length o'
  listed-fits (Ok count) ok =
      let f = (unrouted-listed form t o (Ok count) o' ok count).0 refl in
      let n = ap (λ (m : ℕ). size_of form * m) f.2 in
      omega (arith, f.1, n, unrouted-length form t o (Ok count) o' ok)
  listed-fits (Err e) ok = omega arith
