-- What the call's statement settles: no second answer satisfies it, each case of an answer stands for exactly these facts, and what is written is the
-- list. The answer of a call is any r, and the output o', of which the call's `ensures` holds. Assumes nothing.
use Prim.{tt}
use Prim.Native.Nat.{ℕ, ◌+◌, ◌-◌, ◌*◌, ◌%◌, ◌^◌, ◌≤◌}
use mathlib.Core.Path.{◌≡◌, refl, sym, ap, subst, ◌∙◌}
use mathlib.Core.Bool.{true, false}
use mathlib.Core.List.{List, [], ◌∷◌, ◌++◌}
use mathlib.Core.Logic.{◌⊎◌, inl, inr, ◌↔◌}
use native.Mathlib.Decide.{dec_le}
use native.Mathlib.Nat.{mod-lt}
use native.Mathlib.Omega.{arith}
use lib.Dec.{leb}
use lib.ListN.{length, take, drop, length-append, length-drop}
use lib.Pow.{pow_pos}
use lib.Seq.{take_at, drop_at}
use borrow.Author.Tests.{leb-false, lt-leb}
use Rattle.theory.specs.Routes.{Route, held, All, Table, Member}
use Rattle.theory.proofs.Routed.{Bare}
use Rattle.refusals.specs.Rules.{Rule, rule, refuses, judge}
use Rattle.refusals.specs.Order.{rank, First, None}
use Rattle.std.specs.Prelude.{Option, None as NoRoute, Result, Ok, Err}
use Rattle.refusals.specs.Numbers.{number_of}
use Rattle.refusals.specs.declared.Cause.TheVariants.{OutputRoom}
use Rattle.refusals.specs.declared.Refusal.{Refusal}
use Rattle.refusals.proofs.Replies.{reply_same}
use Rattle.refusals.proofs.Caused.{AllCaused, caused_append, judge_caused, reply_met}
use Rattle.refusals.proofs.Answered.{given_exactly, says_refused}
use Rattle.refusals.proofs.Judged.{Broken, gives_any, refuses_any}
use Rattle.refusals.proofs.Ranked.{broken-left, broken-right, sound-each, sound-append, singles, ranked_append, Ranked}
use Rattle.records.specs.Sized.{width_in, records_in, routes_in, bytes_in, Bytes}
use Rattle.records.specs.declared.Form.{Form}
use Rattle.records.specs.Forms.{size_of}
use Rattle.records.proofs.SizedReading.{form_size}
use Rattle.records.proofs.SizedWritten.{in_length_bytes, in_routes_bytes}
use Rattle.table.specs.Conditions.{AcceptedBy}
use Rattle.table.specs.TableRules.{form_rules}
use Rattle.table.proofs.Caused.{table_caused}
use Rattle.table.proofs.SizedAccepted.{in_accepted_exactly, in_not_refused}
use Rattle.table.proofs.SizedTested.{in_table_tests, in_table_ranked, in_table_numbers}
use Rattle.lookup.specs.Calls.{lookup_says, lookup_reply}
use Rattle.lookup.specs.declared.answers.Match.{Match}
use Rattle.lookup.proofs.Calls.{miss-held, lookup_none_exactly}
use Rattle.calls.specs.Rewriting.{output_of}
use Rattle.holes.specs.Conditions.{UnroutedCondition, of_table, short_output}
use Rattle.holes.specs.Holes.{IsHole}
use Rattle.holes.specs.Listing.{holes_of, unrouted_rules, listed_says, Lists}
use Rattle.holes.proofs.Holes.{holes_hold, holes-table, holes-bare, holes-listed}
use Rattle.holes.proofs.Most.{holes_sure}
use Rattle.holes.proofs.Replies.{accepted-position, whole-holes}

-- Answers that say the same are the same.
pub listed_same : (a b : Result ℕ Refusal) → listed_says a ≡ listed_says b → a ≡ b
listed_same = reply_same (λ n. n) (λ m n e. e)

-- ---- The rules test the conditions, and stand in the order of the checks.
module _ (form : Form) (t : List ℕ) (room : ℕ) where
  abbrev Holds : ℕ → ℕ → Type 0
  Holds = UnroutedCondition form t room

  abbrev need : ℕ
  need = size_of form * length (holes_of (size_of form) t)

  abbrev last : List Rule
  last = rule 11 0 (leb need room) ∷ []

  pub unrouted_ranked : Ranked 4 11 (unrouted_rules form t room)
  unfolding unrouted_rules rank
  unrouted_ranked =
      ranked_append 4 7 11 (form_rules form false t) last (omega arith) (omega arith) (in_table_ranked (size_of form) (form_size form) form.strict false t)
      (singles 7 11 last refl).1

  unrouted-broken : (n i : ℕ) → Broken (unrouted_rules form t room) n i → Holds n i
  unfolding unrouted_rules
  unrouted-broken =
      sound-append Holds (form_rules form false t) last (λ n i b. of_table ((in_table_tests (size_of form) (form_size form) form.strict false t n i).0 b))
      (sound-each Holds last (λ e. short_output (leb-false need room e), tt))

  unrouted_breaks : (n i : ℕ) → Holds n i → Broken (unrouted_rules form t room) n i
  unfolding unrouted_rules
  unrouted_breaks n i (of_table c) = broken-left (form_rules form false t) last n i ((in_table_tests (size_of form) (form_size form) form.strict false t n i).1 c)
  unrouted_breaks n i (short_output h) = broken-right (form_rules form false t) last n i (inl (lt-leb need room h, refl, refl))

  pub unrouted_tests : (n i : ℕ) → Broken (unrouted_rules form t room) n i ↔ UnroutedCondition form t room n i
  unrouted_tests n i = (unrouted-broken n i, unrouted_breaks n i)

  -- What can be decided holds if its contrary is impossible.
  holds : {P : Type 0} → Dec P → ((P → ⊥) → ⊥) → P
  holds (yes p) n = p
  holds (no p) n = absurd (n p)

  -- None holds exactly for an accepted table whose list fits the output.
  pub none_exactly : None (UnroutedCondition form t room) ↔ (AcceptedBy form false t × (size_of form * length (holes_of (size_of form) t) ≤ room))
  none_exactly = (
    λ none. (
      (in_accepted_exactly (size_of form) (form_size form) form.strict false t).1 (λ n i c. none n i (of_table c)),
      holds (dec_le need room) (λ f. none 11 0 (short_output (omega arith))),
    ),
    λ (ok, fits) n i c. go ok fits n i c,
  )
    where
      go : AcceptedBy form false t → need ≤ room → (n i : ℕ) → Holds n i → ⊥
      go ok fits n i (of_table c) = (in_accepted_exactly (size_of form) (form_size form) form.strict false t).0 ok n i c
      go ok fits n i (short_output h) = omega arith

-- ---- No second answer and no second output satisfies the statement, and for every input some do.
pub unrouted_settled : (form : Form) (t o : List ℕ) (r r₁ : Result ℕ Refusal) (o' o₁ : List ℕ) → Lists form t o r o' → Lists form t o r₁ o₁ → (r ≡ r₁) × (o' ≡ o₁)
unrouted_settled form t o r r₁ o' o₁ a b = (listed_same r r₁ (a.answer ∙ sym b.answer), a.output ∙ sym b.output)

-- The numbers of its rules are causes'.
unrouted_caused : (form : Form) (t : List ℕ) (room : ℕ) → AllCaused (unrouted_rules form t room)
unfolding unrouted_rules
unrouted_caused form t room = caused_append _ _ (table_caused (size_of form) form.strict false t) ((OutputRoom, refl), tt)

pub unrouted_met : (form : Form) (t o : List ℕ) → (r : Result ℕ Refusal) × ((o' : List ℕ) × Lists form t o r o')
unrouted_met form t o =
    let rules = unrouted_rules form t (length o) in
    let count = length (holes_of (size_of form) t) in
    let a = reply_met (λ (n : ℕ). n) (λ n. (n, refl)) (judge rules count) (judge_caused rules count (unrouted_caused form t (length o))) in
    (a.0, (output_of (size_of form) o (judge rules (holes_of (size_of form) t)), record { answer = a.1; output = refl }))

module _ (form : Form) (t o : List ℕ) (r : Result ℕ Refusal) (o' : List ℕ) (ok : Lists form t o r o') where
  -- The size of a record and the bits of an address; the table's routes and their holes; the rules.
  abbrev size : ℕ
  size = size_of form

  abbrev bits : ℕ
  bits = width_in size

  abbrev rs : List Route
  rs = routes_in size t

  abbrev list : List Route
  list = holes_of size t

  abbrev rules : List Rule
  rules = unrouted_rules form t (length o)

  -- ---- Refusals.

  -- It is refused with a number and an index exactly when they are those of the first condition that holds: of 3 to 8, then 11.
  pub unrouted_refused : (n i : ℕ) → listed_says r ≡ refuses n i ↔ First (UnroutedCondition form t (length o)) n i
  unrouted_refused =
      says_refused listed_says listed_same rules (unrouted_tests form t (length o)) (unrouted_ranked form t (length o)).order (length list) r ok.answer

  -- A refusal leaves the output as it was.
  pub refusal_changes_nothing : (n i : ℕ) → listed_says r ≡ refuses n i → o' ≡ o
  refusal_changes_nothing n i e =
      ok.output ∙ ap (output_of size o) (refuses_any rules (length list) list n i (sym ok.answer ∙ e))

  -- It gives the numbers 3 to 8 and 11 alone.
  pub unrouted-numbers : (n i : ℕ) → listed_says r ≡ refuses n i → ((3 ≤ n) × (n ≤ 8)) ⊎ (n ≡ 11)
  unrouted-numbers n i e = go n i ((unrouted_refused n i).0 e).0
    where
      go : (n i : ℕ) → UnroutedCondition form t (length o) n i → ((3 ≤ n) × (n ≤ 8)) ⊎ (n ≡ 11)
      go n i (of_table c) = inl (in_table_numbers size (form_size form) form.strict false t n i c)
      go n i (short_output h) = inr refl

  -- ---- Answers.

  -- It answers with a number exactly for an accepted table whose list has so many records and fits the output.
  pub unrouted-listed : (count : ℕ) → r ≡ Ok count ↔ (AcceptedBy form false t × (size * length list ≤ length o) × (length list ≡ count))
  unrouted-listed count =
      let exactly =
      given_exactly listed_says listed_same rules (unrouted_tests form t (length o)) (unrouted_ranked form t (length o)).order (length list) r ok.answer
      (Ok count) count refl in (
        λ e. let f = exactly.0 e in let k = (none_exactly form t (length o)).0 f.0 in (k.0, k.1, f.1),
        λ f. exactly.1 ((none_exactly form t (length o)).1 (f.0, f.1), f.2),
      )

  -- Answered or refused, the output keeps its length.
  pub unrouted-length : length o' ≡ length o
  unrouted-length = go r refl
    where
      go : (q : Result ℕ Refusal) → r ≡ q → length o' ≡ length o
      go (Err refusal) e = ap length (refusal_changes_nothing (number_of refusal.cause) refusal.index (ap listed_says e))
      go (Ok count) e =
          let fits = ((unrouted-listed count).0 e).1 in
          ap length (ok.output ∙ ap (output_of size o) (gives_any rules (length list) count list (sym ok.answer ∙ ap listed_says e)))
          ∙ simp (length-append, length-drop, in_length_bytes size (form_size form)) (omega arith)

  module _ (count : ℕ) (answered : r ≡ Ok count) where
    -- What is written, read back.
    abbrev listed : List Route
    listed = routes_in size (take (size * count) o')

    counted : length list ≡ count
    counted = ((unrouted-listed count).0 answered).2

    whole-output : o' ≡ bytes_in size list ++ drop (size * length list) o
    whole-output =
        ok.output ∙ ap (output_of size o) (gives_any rules (length list) count list (sym ok.answer ∙ ap listed_says answered))

    -- The list's records stand at the output's start, and behind them the output is as it was.
    pub unrouted-written : take (size * count) o' ≡ bytes_in size list
    unrouted-written =
        let bytes = in_length_bytes size (form_size form) list ∙ ap (λ (n : ℕ). size * n) counted in
        ap (take (size * count)) whole-output
        ∙ take_at (bytes_in size list) (drop (size * length list) o) (size * count) bytes

    pub unrouted_rest : drop (size * count) o' ≡ drop (size * count) o
    unrouted_rest =
        let bytes = in_length_bytes size (form_size form) list ∙ ap (λ (n : ℕ). size * n) counted in
        ap (drop (size * count)) whole-output
        ∙ drop_at (bytes_in size list) (drop (size * length list) o) (size * count) bytes
        ∙ ap (λ (n : ℕ). drop (size * n) o) counted

    -- Read back they are the list.
    pub unrouted-reads : listed ≡ list
    unrouted-reads = ap (routes_in size) unrouted-written ∙ in_routes_bytes size (form_size form) list (holes-table bits rs).valid

    -- An address lies in a listed prefix exactly when lookup, in whatever way it is called, finds no route for it. Of a number its lowest bits are the
    -- address, as many as the records' addresses have.
    pub unrouted_addresses : (x : ℕ) (a : Result (Option Match) Refusal) → lookup_says a ≡ lookup_reply form t x
        → (held bits listed (x % 2 ^ bits) ≡ true) ↔ (a ≡ Ok NoRoute)
    unrouted_addresses x a said =
        let y = x % 2 ^ bits in
        let none = lookup_none_exactly form t x a said in
        let hold = holes_hold bits rs y (mod-lt x (pow_pos bits)) in
        let miss-is = miss-held bits rs y in
        let read : held bits listed y ≡ held bits list y =
        ap (λ (u : List Route). held bits u y) unrouted-reads in (
          λ h. none.1 (((unrouted-listed count).0 answered).0, miss-is.0 (hold.0 (sym read ∙ h))),
          λ e. read ∙ hold.1 (miss-is.1 (none.0 e).1),
        )

    -- The listed prefixes are exactly the holes,
    pub unrouted-holes : (q : Route) → Member q listed ↔ IsHole bits rs q
    unrouted-holes q =
        let exactly = holes-listed bits rs q in (
          λ m. exactly.0 (subst (Member q) unrouted-reads m),
          λ h. subst (Member q) (sym unrouted-reads) (exactly.1 h),
        )

    -- each once and in table order,
    pub unrouted_order : Table bits listed
    unrouted_order = subst (Table bits) (sym unrouted-reads) (holes-table bits rs)

    -- with the hop zero.
    pub unrouted-bare : All Bare listed
    unrouted-bare = subst (All Bare) (sym unrouted-reads) (holes-bare bits rs)

    -- They are at most 22,528 at 32 bits and 55,296 at 64, and fewer for fewer records.
    pub unrouted-most : Bytes t → count ≤ (bits - 11) * records_in size t + 1024
    unrouted-most bytes =
        let is = form_size form in
        let valid = in_not_refused size is form.strict false t (records_in size t) ((unrouted-listed count).0 answered).0 in
        omega (arith, counted, holes_sure (accepted-position size is form.strict t valid bytes), ap length (whole-holes size is form.strict t valid))
