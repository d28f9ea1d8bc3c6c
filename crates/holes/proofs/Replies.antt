-- The call's statement, case by case of the check and of the output's room, over the size of a record. Assumes nothing.
use Prim.Native.Nat.{ℕ, ◌-◌, ◌*◌, ◌/◌, ◌^◌, ◌≤◌, ◌<◌}
use mathlib.Core.Path.{◌≡◌, sym, ap, subst, ◌∙◌}
use mathlib.Core.Bool.{Bool, true, false}
use mathlib.Core.List.{List, [], ◌∷◌, ◌++◌}
use mathlib.Core.Logic.{inl, inr}
use native.Mathlib.Nat.{sub-zero, zero-div, zero-mul}
use native.Mathlib.Omega.{arith}
use lib.Dec.{leb}
use lib.ListN.{length}
use borrow.Author.Tests.{leb-true, leb-false, le-leb, lt-leb}
use Rattle.theory.specs.Routes.{Route}
use Rattle.refusals.specs.Rules.{Rule, rule, gives, refuses, judge}
use Rattle.std.specs.Prelude.{Result, Ok, Err}
use Rattle.refusals.specs.Numbers.{number_of}
use Rattle.refusals.specs.declared.Cause.TheVariants.{OutputRoom}
use Rattle.refusals.specs.declared.Refusal.{Refusal}
use Rattle.refusals.proofs.Judged.{gives_any, kept_next, broken-here, all_next, some-here}
use Rattle.records.specs.Sized.{IsSize, width_in, records_in, bytes_in, Bytes, laid}
use Rattle.records.specs.declared.Form.{Form}
use Rattle.records.specs.Forms.{size_of}
use Rattle.table.specs.Checking.{check_reply_in}
use Rattle.table.specs.SizedRules.{table_rules_in}
use Rattle.table.proofs.SizedTables.{in_accepted_table}
use Rattle.calls.specs.Rewriting.{output_of}
use Rattle.calls.proofs.Ending.{laid-output}
use Rattle.runs.specs.Runs.{RunAt}
use Rattle.runs.proofs.Halves.{whole_run}
use Rattle.runs.proofs.Records.{run-whole}
use Rattle.holes.specs.Holes.{address_in, holes_in, holes_at}
use Rattle.holes.specs.Kinds.{Position}
use Rattle.holes.specs.Listing.{holes_of, unrouted_rules, listed_says, Lists}

-- The call's rules over the size and the choice on host bits.
abbrev rules_in : ℕ → Bool → List ℕ → ℕ → List Rule
rules_in size strict t room = table_rules_in size strict false t ++ (rule 11 0 (leb (size * length (holes_of size t)) room) ∷ [])

-- ---- The rules, one after the other.
module _ (size : ℕ) (strict : Bool) (t : List ℕ) (room : ℕ) {A : Type 0} (a : A) where
  -- The rule of the output.
  abbrev last : List Rule
  last = rule 11 0 (leb (size * length (holes_of size t)) room) ∷ []

  -- A table that is refused.
  refused_reply : {k i : ℕ} → check_reply_in size strict false t ≡ refuses k i → judge (rules_in size strict t room) a ≡ refuses k i
  refused_reply {k} {i} e = some-here a (records_in size t) k i (table_rules_in size strict false t) last e

  module _ {n : ℕ} (valid : check_reply_in size strict false t ≡ gives n) where
    -- One that is not: the list is given where it fits the output.
    given_reply : size * length (holes_of size t) ≤ room → judge (rules_in size strict t room) a ≡ gives a
    unfolding judge
    given_reply le =
        all_next a (records_in size t) {c = n} (table_rules_in size strict false t) last valid
        ∙ kept_next a 11 0 [] (le-leb (size * length (holes_of size t)) room le)

    short-reply : room < size * length (holes_of size t) → judge (rules_in size strict t room) a ≡ refuses 11 0
    short-reply lt =
        all_next a (records_in size t) {c = n} (table_rules_in size strict false t) last valid
        ∙ broken-here a 11 0 [] (lt-leb (size * length (holes_of size t)) room lt)

-- ---- The output's room, as the code asks for it.
times : (size n room : ℕ) → IsSize size → (n ≤ room / size → size * n ≤ room) × (room / size < n → room < size * n)
times size n room (inl e) = rw e (λ h. omega arith, λ h. omega arith)
times size n room (inr e) = rw e (λ h. omega arith, λ h. omega arith)

module _ (size : ℕ) (is : IsSize size) (t : List ℕ) (n : ℕ) (o : List ℕ) {b : Bool}
    (asked : b ≡ leb (length (holes_at size t 0 n 0 0)) (length o / size)) where
  pub room_enough : b ≡ true → size * length (holes_at size t 0 n 0 0) ≤ length o
  room_enough e =
      (times size (length (holes_at size t 0 n 0 0)) (length o) is).0
      (leb-true (length (holes_at size t 0 n 0 0)) (length o / size) (sym asked ∙ e))

  pub room-short : b ≡ false → length o < size * length (holes_at size t 0 n 0 0)
  room-short e =
      (times size (length (holes_at size t 0 n 0 0)) (length o) is).1
      (leb-false (length (holes_at size t 0 n 0 0)) (length o / size) (sym asked ∙ e))

-- ---- What the walk begins with.

-- The key 0 is that of address 0.
zero-address : (size : ℕ) → address_in size 0 ≡ 0
zero-address size = zero-div (2 ^ (64 - width_in size))

module _ (size : ℕ) (is : IsSize size) (strict : Bool) (t : List ℕ) {n : ℕ} (valid : check_reply_in size strict false t ≡ gives n) where
  -- The check says how many records there are,
  all_records : records_in size t ≡ n
  all_records = let e = gives_any (table_rules_in size strict false t) (records_in size t) n (records_in size t) valid in cc

  -- so its holes are those of its run.
  pub whole-holes : holes_at size t 0 n 0 0 ≡ holes_of size t
  whole-holes =
      rw (sym all_records, zero-address size, sub-zero (width_in size)) (ap (λ (u : List Route). holes_in (width_in size) u (width_in size) 0) (run-whole size t))

  -- It is accepted: what the walk asks.
  module _ (bytes : Bytes t) where
    pub accepted-position : Position size t 0 n 0 0
    accepted-position =
        record {
          sized = is;
          short = omega arith;
          exact = sym (rw (zero-address size) (zero-mul (2 ^ (64 - width_in size))));
          at =
              rw (zero-address size, sub-zero (width_in size)) (subst (λ (k : ℕ). RunAt size (width_in size) t 0 k (width_in size) 0) all_records
              (whole_run size (width_in size) (in_accepted_table size is strict false t bytes (records_in size t) n valid).0.table));
        }

    pub accepted-few : n ≤ 1024
    accepted-few =
        let k = in_accepted_table size is strict false t bytes (records_in size t) n valid in
        let few = k.0.few in
        let size = k.1 in
        omega (arith, all_records)

-- ---- The statement, of a table that is read by a form of this size.
module _ (form : Form) (t : List ℕ) {size : ℕ} (sized : size ≡ size_of form) (is : IsSize size) where
  -- It is that of the rules over the size.
  lists_in : {o o' : List ℕ} {r : Result ℕ Refusal} → listed_says r ≡ judge (rules_in size form.strict t (length o)) (length (holes_of size t))
      → o' ≡ output_of size o (judge (rules_in size form.strict t (length o)) (holes_of size t)) → Lists form t o r o'
  unfolding unrouted_rules
  lists_in {o} {o'} {r} answer output =
      record {
        answer = subst (λ (k : ℕ). listed_says r ≡ judge (rules_in k form.strict t (length o)) (length (holes_of k t))) sized answer;
        output = subst (λ (k : ℕ). o' ≡ output_of k o (judge (rules_in k form.strict t (length o)) (holes_of k t))) sized output;
      }

  -- The table is refused.
  pub lists_refused : (o : List ℕ) (r : Refusal) → check_reply_in size form.strict false t ≡ refuses (number_of r.cause) r.index → Lists form t o (Err r) o
  lists_refused o r e =
      lists_in (sym (refused_reply size form.strict t (length o) (length (holes_of size t)) e))
      (sym (ap (output_of size o) (refused_reply size form.strict t (length o) (holes_of size t) e)))

  module _ {n : ℕ} (valid : check_reply_in size form.strict false t ≡ gives n) where
    whole : holes_at size t 0 n 0 0 ≡ holes_of size t
    whole = whole-holes size is form.strict t valid

    -- The list fits the output, and is written.
    pub lists_given : (o : List ℕ) {o' : List ℕ} {count : ℕ} → size * length (holes_at size t 0 n 0 0) ≤ length o
        → count ≡ length (holes_at size t 0 n 0 0) → o' ≡ laid 0 (bytes_in size (holes_at size t 0 n 0 0)) o → Lists form t o (Ok count) o'
    lists_given o fits counted wrote =
        let le : size * length (holes_of size t) ≤ length o = rw whole at fits in
        lists_in (ap gives (counted ∙ ap length whole) ∙ sym (given_reply size form.strict t (length o) (length (holes_of size t)) valid le))
        (wrote ∙ ap (λ (rs : List Route). laid 0 (bytes_in size rs) o) whole
        ∙ laid-output size is (holes_of size t) o
        ∙ sym (ap (output_of size o) (given_reply size form.strict t (length o) (holes_of size t) valid le)))

    -- It does not, and nothing is.
    pub lists-short : (o : List ℕ) → length o < size * length (holes_at size t 0 n 0 0) → Lists form t o (Err (record { cause = OutputRoom; index = 0 })) o
    lists-short o short =
        let lt : length o < size * length (holes_of size t) = rw whole at short in
        lists_in (sym (short-reply size form.strict t (length o) (length (holes_of size t)) valid lt))
        (sym (ap (output_of size o) (short-reply size form.strict t (length o) (holes_of size t) valid lt)))
