-- The tables that mode 2 wrote, which is retired: for a set table t that is accepted it wrote its members with no member above them. Each is a set table that
-- is accepted, and mode 1, with room enough, writes for it the records that it writes for t, whatever the default and the ranks. Assumes of t that its elements
-- are bytes.
use mathlib.Core.Path.{◌≡◌, refl, sym, ap, ap₂, subst, ◌∙◌}
use mathlib.Core.Bool.{Bool, true}
use mathlib.Core.List.{List, ◌++◌}
use Prim.Native.Nat.{ℕ, ◌*◌, ◌≤◌}
use native.Mathlib.Omega.{arith}
use lib.IntN.{ℤ, pos, ◌-ℤ◌}
use lib.ListN.{length, take, drop}
use Rattle.theory.specs.Results.{aggregate_set, result, smallest}
use Rattle.theory.specs.Retired.{consistent_set}
use Rattle.theory.specs.Routes.{Route}
use Rattle.theory.proofs.Retired.{retired_same, retired-table, retired-each, retired-length}
use Rattle.refusals.specs.Rules.{Rule}
use Rattle.records.specs.Sized.{width_in, routes_in, bytes_in, Bytes}
use Rattle.records.specs.declared.Form.{Form}
use Rattle.records.specs.Forms.{size_of}
use Rattle.records.proofs.SizedReading.{form_size}
use Rattle.records.proofs.SizedWritten.{in_records_bytes, in_routes_bytes}
use Rattle.table.specs.SizedConditions.{AcceptedIn, LawfulIn}
use Rattle.table.proofs.SizedTables.{in_lawful, in_accepted_written}
use Rattle.nodecount.specs.Nodes.{nodes}
use Rattle.calls.specs.Conditions.{Guarded}
use Rattle.calls.specs.Rewriting.{result_of, RewritesBy, Rewrites, Outcome, records_out}
use Rattle.calls.proofs.Engines.{by_written}
use Rattle.calls.proofs.Refusals.{answerable_exactly}
use Rattle.calls.proofs.Results.{rewrite_result}

module _ (form : Form) (t : List ℕ) (bytes : Bytes t) (strict : Bool) (set : AcceptedIn (size_of form) strict true t) where
  -- What mode 2 wrote.
  abbrev wrote : List ℕ
  wrote = bytes_in (size_of form) (consistent_set (width_in (size_of form)) (routes_in (size_of form) t))

  lawful : LawfulIn (size_of form) true (consistent_set (width_in (size_of form)) (routes_in (size_of form) t))
  lawful =
      let l = in_lawful (size_of form) (form_size form) strict true t bytes set in
      record {
        table = retired-table (width_in (size_of form)) (routes_in (size_of form) t) l.table;
        hops = retired-each (width_in (size_of form)) (routes_in (size_of form) t) l.hops;
        few = omega (arith, l.few, retired-length (width_in (size_of form)) (routes_in (size_of form) t));
      }

  -- It is accepted, however it is read.
  pub retired-accepted : (other : Bool)
      → AcceptedIn (size_of form) other true (bytes_in (size_of form) (consistent_set (width_in (size_of form)) (routes_in (size_of form) t)))
  retired-accepted other = in_accepted_written (size_of form) (form_size form) other true (consistent_set (width_in (size_of form)) (routes_in (size_of form) t)) lawful

  reads : routes_in (size_of form) wrote ≡ consistent_set (width_in (size_of form)) (routes_in (size_of form) t)
  reads = in_routes_bytes (size_of form) (form_size form) (consistent_set (width_in (size_of form)) (routes_in (size_of form) t)) lawful.table.valid

  -- Mode 1 makes of it what it makes of t.
  pub retired-result : (default d : ℕ) (ranks other : List ℕ)
      → result_of (size_of form) (bytes_in (size_of form) (consistent_set (width_in (size_of form)) (routes_in (size_of form) t))) 1 default ranks
      ≡ result_of (size_of form) t 1 d other
  unfolding result_of result
  retired-result default d ranks other = ap (result smallest (width_in (size_of form)) aggregate_set) reads ∙ retired_same (width_in (size_of form)) (routes_in (size_of form) t) smallest

  -- So any engine writes the same records.
  pub retired_by : (rules : List Rule) (default d : ℕ) (ranks other o : List ℕ)
      → Guarded form rules (bytes_in (size_of form) (consistent_set (width_in (size_of form)) (routes_in (size_of form) t))) 1 default ranks (length o)
      → (count : ℕ) (change : ℤ) (o' : List ℕ)
      → RewritesBy (size_of form) rules (bytes_in (size_of form) (consistent_set (width_in (size_of form)) (routes_in (size_of form) t))) 1 default ranks o (records_out count change) o'
      → take (size_of form * count) o' ≡ bytes_in (size_of form) (result_of (size_of form) t 1 d other)
  retired_by rules default d ranks other o guarded count change o' ok =
      by_written form rules wrote 1 default ranks o guarded (records_out count change) o' ok count change refl ∙ ap (bytes_in (size_of form)) (retired-result default d ranks other)

  -- With room enough the engine over nodes answers with them.
  pub retired-answers : (default d : ℕ) (ranks other o : List ℕ) (words : ℕ) (r : Outcome) (o' w' : List ℕ)
      → size_of form * length (result_of (size_of form) t 1 d other) ≤ length o
      → 160 * nodes (width_in (size_of form)) (consistent_set (width_in (size_of form)) (routes_in (size_of form) t)) ≤ words
      → Rewrites form (bytes_in (size_of form) (consistent_set (width_in (size_of form)) (routes_in (size_of form) t))) 1 default ranks o words r o' w'
      → (r ≡ records_out (length (result_of (size_of form) t 1 d other)) (pos (length (result_of (size_of form) t 1 d other)) -ℤ pos (length (consistent_set (width_in (size_of form)) (routes_in (size_of form) t)))))
      × (o' ≡ bytes_in (size_of form) (result_of (size_of form) t 1 d other) ++ drop (size_of form * length (result_of (size_of form) t 1 d other)) o)
  unfolding result_of
  retired-answers default d ranks other o words r o' w' fits enough ok =
      let same = retired-result default d ranks other in
      let size = ap (λ (rs : List Route). length rs) same in
      let none =
      (answerable_exactly form wrote 1 default ranks (length o) words).1 (
        record {
          known_mode = (omega arith, omega arith, λ e. omega arith);
          small_default = λ e. absurd (omega arith);
          lawful_ranks = λ h. absurd (omega arith);
          accepted = retired-accepted form.strict;
          enough_output = subst (λ (n : ℕ). size_of form * n ≤ length o) (sym size) fits;
        },
        rw reads enough,
      ) in
      let f = rewrite_result form wrote 1 default ranks o words r o' w' ok none in (
        f.0 ∙ ap₂ records_out size (ap₂ (λ (a b : ℕ). pos a -ℤ pos b) size (in_records_bytes (size_of form) (form_size form) (consistent_set (width_in (size_of form)) (routes_in (size_of form) t)))),
        f.1 ∙ ap (λ (rs : List Route). bytes_in (size_of form) rs ++ drop (size_of form * length rs) o) same,
      )
