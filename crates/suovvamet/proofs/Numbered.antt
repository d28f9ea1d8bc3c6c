-- What the result of a function for C says: it is 0 exactly when the call is answered, and else it is, with the index, the first refusal of document
-- 01's order. Assumes nothing.
use mathlib.Core.Path.{◌≡◌, refl, sym, ap, ap₂, ◌∙◌}
use mathlib.Core.Bool.{Bool, false}
use mathlib.Core.List.{List}
use mathlib.Core.Logic.{◌↔◌, ◌⊎◌, inl, inr}
use Prim.Native.Nat.{ℕ, ◌≤◌, ◌<◌}
use native.Mathlib.Omega.{arith}
use lib.IntN.{ℤ}
use lib.ListN.{length}
use Rattle.std.specs.Prelude.{Option, Result, Ok, Err}
use Rattle.lookup.specs.Calls.{lookup_says, held_says}
use Rattle.refusals.specs.declared.Refusal.{Refusal}
use Rattle.refusals.proofs.Replies.{number_some}
use Rattle.refusals.specs.Rules.{Reply, gives, refuses, judge}
use Rattle.table.specs.SizedRules.{table_rules_in}
use Rattle.table.specs.SizedConditions.{TableConditionIn}
use Rattle.table.specs.Conditions.{TableCondition, FormCondition}
use Rattle.table.proofs.SizedTested.{in_table_numbers}
use Rattle.table.proofs.SizedAccepted.{in_accepted_exactly, in_not_refused, in_accepted, in_refused_exactly}
use Rattle.calls.specs.Conditions.{RewriteCondition, no_mode, retired, large_default, bad_ranks, of_table, short_work, short_output, CoverCondition, of_set, long_query, short_room}
use Rattle.refusals.specs.Order.{First, None}
use Rattle.refusals.proofs.Judged.{gives-exactly}
use Rattle.records.specs.Sized.{IsSize}
use Rattle.records.specs.Wire.{records, routes}
use Rattle.records.specs.declared.Form.{Form}
use Rattle.records.specs.Forms.{size_of}
use Rattle.records.proofs.Reading.{eight}
use Rattle.records.proofs.SizedReading.{form_size}
use Rattle.workroom.specs.Needed.{words_says, words_in}
use Rattle.workroom.proofs.Exactly.{words-exactly}
use Rattle.calls.specs.Covering.{covered_by, covers_says}
use Rattle.calls.specs.Rewriting.{Written, rewritten_says, Outcome, records_out}
use Rattle.calls.proofs.Refusals.{rewrite_refused, rewrite_accepted, covers_refused, covers_answered}
use Rattle.calls.proofs.Settled.{rewritten_same}
use Rattle.plain.specs.Conditions.{PlainCondition, no_mode as no-plain-mode, retired as plain-retired, large_default as plain-large-default, bad_ranks as plain-bad-ranks, of_table as of-plain-table, short_output as short-plain-output}
use Rattle.plain.proofs.Calls.{plain_accepted, plain_refused}
use Rattle.holes.specs.Conditions.{UnroutedCondition, of_table as of_map, short_output as short-list}
use Rattle.holes.specs.Listing.{holes_of, listed_says}
use Rattle.holes.proofs.Calls.{listed_same, none_exactly, unrouted-listed, unrouted_refused}
use Rattle.special.specs.Calls.{special_says, special_rules, SpecialCondition, no_edition, of_table as of-searched}
use Rattle.special.specs.Editions.{ranges_of}
use Rattle.special.specs.Ranges.{Place, first_special}
use Rattle.special.proofs.Calls.{special_tests, special_refused}
use Rattle.chip.specs.Conditions.{LoadCondition, of_table as of-loaded, wrong_size}
use Rattle.chip.specs.Loading.{load_rules, loaded_says}
use Rattle.chip.proofs.Calls.{load_tests, load_refused}
use Rattle.plans.specs.Judging.{tables_rules, check_rules, judged_says}
use Rattle.plans.specs.Conditions.{TablesCondition, PlanCondition}
use Rattle.plans.specs.declared.answers.Step.{Step}
use Rattle.plans.proofs.Tested.{check_tests, tables_tests}
use Rattle.plans.proofs.Refusals.{tables_numbers, check_refused, check_numbers}
use Rattle.planner.specs.Planning.{planned_says, chosen}
use Rattle.planner.proofs.Calls.{plan_refused}
use Rattle.suovvamet.specs.Numbers.{form_by, number_of, index_of, is_set_by, words_of}
use Rattle.suovvamet.specs.Calls.{RewriteInC, PlainInC, CoversInC, LookupInC, HeldInC, WordsInC, UnroutedInC, SpecialInC, ChipInC, CheckPlanInC, PlanInC}

-- ---- No condition has the number 0.
table-number : (size : ℕ) → IsSize size → {strict s : Bool} {t : List ℕ} {n i : ℕ} → TableConditionIn size strict s t n i → 1 ≤ n
table-number size is {strict} {s} {t} {n} {i} c = omega (arith, (in_table_numbers size is strict s t n i c).0)

rewrite_number : {form : Form} {t : List ℕ} {mode default : ℕ} {ranks : List ℕ} {room words n i : ℕ} → RewriteCondition form t mode default ranks room words n i → 1 ≤ n
rewrite_number (no_mode f) = omega arith
rewrite_number (retired e) = omega arith
rewrite_number (large_default e h) = omega arith
rewrite_number (bad_ranks h f) = omega arith
rewrite_number {form} (of_table c) = table-number (size_of form) (form_size form) c
rewrite_number (short_work h) = omega arith
rewrite_number (short_output h) = omega arith

plain_number : {form : Form} {t : List ℕ} {mode default : ℕ} {ranks : List ℕ} {room n i : ℕ} → PlainCondition form t mode default ranks room n i → 1 ≤ n
plain_number (no-plain-mode f g) = omega arith
plain_number (plain-retired e) = omega arith
plain_number (plain-large-default e h) = omega arith
plain_number (plain-bad-ranks h f) = omega arith
plain_number {form} (of-plain-table c) = table-number (size_of form) (form_size form) c
plain_number (short-plain-output h) = omega arith

cover-number : {form : Form} {t : List ℕ} {len words n i : ℕ} → CoverCondition form t len words n i → 1 ≤ n
cover-number {form} (of_set c) = table-number (size_of form) (form_size form) c
cover-number (long_query h) = omega arith
cover-number (short_room h) = omega arith

unrouted-number : {form : Form} {t : List ℕ} {room n i : ℕ} → UnroutedCondition form t room n i → 1 ≤ n
unrouted-number {form} (of_map c) = table-number (size_of form) (form_size form) c
unrouted-number (short-list h) = omega arith

special_number : {form : Form} {t : List ℕ} {edition n i : ℕ} → SpecialCondition form t edition n i → 1 ≤ n
special_number (no_edition f) = omega arith
special_number (of-searched c) = table-number 8 eight c

load_number : {form : Form} {t : List ℕ} {size n i : ℕ} → LoadCondition form t size n i → 1 ≤ n
load_number (of-loaded c) = table-number 8 eight c
load_number (wrong_size f) = omega arith

-- ---- Number 10 is the work room's alone.
table_below : (size : ℕ) → IsSize size → {strict s : Bool} {t : List ℕ} {n i : ℕ} → TableConditionIn size strict s t n i → n ≤ 8
table_below size is {strict} {s} {t} {n} {i} c = (in_table_numbers size is strict s t n i c).1

rewrite_ten : {form : Form} {t : List ℕ} {mode default : ℕ} {ranks : List ℕ} {room words n i : ℕ} → RewriteCondition form t mode default ranks room words n i → n ≡ 10 → words < words_in (size_of form) t
rewrite_ten (no_mode f) e = absurd (omega arith)
rewrite_ten (retired p) e = absurd (omega arith)
rewrite_ten (large_default d h) e = absurd (omega arith)
rewrite_ten (bad_ranks h f) e = absurd (omega arith)
rewrite_ten {form} (of_table c) e = let k = table_below (size_of form) (form_size form) c in absurd (omega arith)
rewrite_ten (short_work h) e = h
rewrite_ten (short_output h) e = absurd (omega arith)

cover_ten : {form : Form} {t : List ℕ} {len words n i : ℕ} → CoverCondition form t len words n i → n ≡ 10 → words < words_in (size_of form) t
cover_ten {form} (of_set c) e = let k = table_below (size_of form) (form_size form) c in absurd (omega arith)
cover_ten (long_query h) e = absurd (omega arith)
cover_ten (short_room h) e = h

-- ---- Any reply: N says when it gives a value, F when it refuses, and no refusal has the number 0.
module _ {A : Type 0} (q : Reply A) {N : Type 0} (given : ((a : A) × (q ≡ gives a)) ↔ N)
    {F : ℕ → ℕ → Type 0} (refused : (n i : ℕ) → q ≡ refuses n i ↔ F n i) (above : (n i : ℕ) → F n i → 1 ≤ n)
    {number index : ℕ} (number_is : number ≡ number_of q) (index_is : index ≡ index_of q) where
  zero_given : (p : Reply A) → q ≡ p → number_of p ≡ 0 → N
  zero_given (gives a) e z = given.0 (a, e)
  zero_given (refuses n i) e z = let f = above n i ((refused n i).0 e) in absurd (omega arith)

  numbered_refused : (p : Reply A) → q ≡ p → (n i : ℕ) → 1 ≤ n → number_of p ≡ n → index_of p ≡ i → F n i
  numbered_refused (gives a) e n i p d f = absurd (omega arith)
  numbered_refused (refuses m j) e n i p d f = (refused n i).0 (e ∙ ap₂ refuses d f)

  -- The number is 0 exactly when a value is given.
  answered : number ≡ 0 ↔ N
  answered = (λ e. zero_given q refl (sym number_is ∙ e), λ f. number_is ∙ ap number_of (given.1 f).1)

  -- The number, not 0, and the index are those of the refusal.
  numbered : (n i : ℕ) → ((1 ≤ n) × (number ≡ n) × (index ≡ i)) ↔ F n i
  numbered n i = (
    λ f. numbered_refused q refl n i f.0 (sym number_is ∙ f.1) (sym index_is ∙ f.2),
    λ f. let e = (refused n i).1 f in (above n i f, number_is ∙ ap number_of e, index_is ∙ ap index_of e),
  )

-- ---- A rewrite, by either engine: it says records exactly when it is an answer with records.
gave : (r : Outcome) → ((w : Written) × (rewritten_says r ≡ gives w)) ↔ ((count : ℕ) × ((change : ℤ) × (r ≡ records_out count change)))
gave r = (
  λ (w, e). (w.count, (w.change, rewritten_same r (records_out w.count w.change) e)),
  λ (count, (change, e)). (_, ap rewritten_says e),
)

-- By that over nodes.
module _ (t : List ℕ) (flags mode default : ℕ) (ranks o work : List ℕ) {number count : ℕ} {change : ℤ} {index : ℕ} {o' w' : List ℕ}
    (ok : RewriteInC t flags mode default ranks o work number count change index o' w') where
  abbrev Refusing : ℕ → ℕ → Type 0
  Refusing = RewriteCondition (form_by flags) t mode default ranks (length o) (length work)

  given : ((w : Written) × (rewritten_says ok.answer ≡ gives w)) ↔ None Refusing
  given =
      let exactly = rewrite_accepted (form_by flags) t mode default ranks o (length work) ok.answer o' w' ok.rewrites in
      (λ f. exactly.0 ((gave ok.answer).0 f), λ none. (gave ok.answer).1 (exactly.1 none))

  refused : (n i : ℕ) → rewritten_says ok.answer ≡ refuses n i ↔ First Refusing n i
  refused = rewrite_refused (form_by flags) t mode default ranks o (length work) ok.answer o' w' ok.rewrites

  -- The result is 0 exactly when no condition of document 01 holds.
  pub rewrite_in_c_answered : number ≡ 0 ↔ None (RewriteCondition (form_by flags) t mode default ranks (length o) (length work))
  rewrite_in_c_answered = answered (rewritten_says ok.answer) given refused (λ n i f. rewrite_number f.0) ok.number_is ok.index_is

  -- Else it is, with the index, the first that holds.
  pub rewrite_in_c_refused : (n i : ℕ) → ((1 ≤ n) × (number ≡ n) × (index ≡ i)) ↔ First (RewriteCondition (form_by flags) t mode default ranks (length o) (length work)) n i
  rewrite_in_c_refused = numbered (rewritten_says ok.answer) given refused (λ n i f. rewrite_number f.0) ok.number_is ok.index_is

-- By the plain one.
module _ (t : List ℕ) (flags mode default : ℕ) (ranks o : List ℕ) {number count : ℕ} {change : ℤ} {index : ℕ} {o' : List ℕ}
    (ok : PlainInC t flags mode default ranks o number count change index o') where
  given_plain : ((w : Written) × (rewritten_says ok.answer ≡ gives w)) ↔ None (PlainCondition (form_by flags) t mode default ranks (length o))
  given_plain =
      let exactly = plain_accepted (form_by flags) t mode default ranks o ok.answer o' ok.rewrites in
      (λ f. exactly.0 ((gave ok.answer).0 f), λ none. (gave ok.answer).1 (exactly.1 none))

  refused_plain : (n i : ℕ) → rewritten_says ok.answer ≡ refuses n i ↔ First (PlainCondition (form_by flags) t mode default ranks (length o)) n i
  refused_plain = plain_refused (form_by flags) t mode default ranks o ok.answer o' ok.rewrites

  -- The result is 0 exactly when no condition for a refusal holds.
  pub plain_in_c_answered : number ≡ 0 ↔ None (PlainCondition (form_by flags) t mode default ranks (length o))
  plain_in_c_answered = answered (rewritten_says ok.answer) given_plain refused_plain (λ n i f. plain_number f.0) ok.number_is ok.index_is

  -- Else it is, with the index, the first that holds.
  pub plain_in_c_refused : (n i : ℕ) → ((1 ≤ n) × (number ≡ n) × (index ≡ i)) ↔ First (PlainCondition (form_by flags) t mode default ranks (length o)) n i
  plain_in_c_refused = numbered (rewritten_says ok.answer) given_plain refused_plain (λ n i f. plain_number f.0) ok.number_is ok.index_is

-- ---- The cover query.
module _ (t : List ℕ) (flags address len : ℕ) (work : List ℕ) {number covered index : ℕ} {w' : List ℕ}
    (ok : CoversInC t flags address len work number covered index w') where
  given_cover : ((b : Bool) × (covers_says ok.answer ≡ gives b)) ↔ None (CoverCondition (form_by flags) t len (length work))
  given_cover =
      let exactly = covers_answered (form_by flags) t address len (length work) ok.answer w' ok.queried in
      (λ (b, e). ((exactly b).0 e).0, λ none. (covered_by (size_of (form_by flags)) t address len, (exactly _).1 (none, refl)))

  refused_cover : (n i : ℕ) → covers_says ok.answer ≡ refuses n i ↔ First (CoverCondition (form_by flags) t len (length work)) n i
  refused_cover = covers_refused (form_by flags) t address len (length work) ok.answer w' ok.queried

  -- The result is 0 exactly when no condition of document 01 holds.
  pub covers_in_c_answered : number ≡ 0 ↔ None (CoverCondition (form_by flags) t len (length work))
  covers_in_c_answered = answered (covers_says ok.answer) given_cover refused_cover (λ n i f. cover-number f.0) ok.number_is ok.index_is

  -- Else it is, with the index, the first that holds.
  pub covers_in_c_refused : (n i : ℕ) → ((1 ≤ n) × (number ≡ n) × (index ≡ i)) ↔ First (CoverCondition (form_by flags) t len (length work)) n i
  covers_in_c_refused = numbered (covers_says ok.answer) given_cover refused_cover (λ n i f. cover-number f.0) ok.number_is ok.index_is

-- ---- A call that judges a table, of a set or of a map, and nothing else.
module _ {A : Type 0} (size : ℕ) (is : IsSize size) (strict s : Bool) (t : List ℕ) (v : A) (q : Reply A) (judged : q ≡ judge (table_rules_in size strict s t) v) where
  given_table : ((a : A) × (q ≡ gives a)) ↔ None (TableConditionIn size strict s t)
  given_table = (
    λ (a, e). (in_accepted_exactly size is strict s t).0 (in_accepted size is strict s t v (sym judged ∙ e)),
    λ none. (v, judged ∙ in_not_refused size is strict s t v ((in_accepted_exactly size is strict s t).1 none)),
  )

  refused_table : (n i : ℕ) → q ≡ refuses n i ↔ First (TableConditionIn size strict s t) n i
  refused_table n i = (
    λ e. (in_refused_exactly size is strict s t v n i).0 (sym judged ∙ e),
    λ f. judged ∙ (in_refused_exactly size is strict s t v n i).1 f,
  )

  -- The number, for a call that answers so, is 0 exactly when no condition holds,
  table-answered : {number index : ℕ} → number ≡ number_of q → index ≡ index_of q → number ≡ 0 ↔ None (TableConditionIn size strict s t)
  table-answered e f = answered q given_table refused_table (λ n i c. table-number size is c.0) e f

  -- and is, with the index, the first that does else.
  table_refused : {number index : ℕ} → number ≡ number_of q → index ≡ index_of q → (n i : ℕ) → ((1 ≤ n) × (number ≡ n) × (index ≡ i)) ↔ First (TableConditionIn size strict s t) n i
  table_refused e f = numbered q given_table refused_table (λ n i c. table-number size is c.0) e f

-- ---- A lookup.
module _ (t : List ℕ) (flags address : ℕ) {number found hop len index : ℕ} (ok : LookupInC t flags address number found hop len index) where
  -- The result is 0 exactly when no condition of document 01 holds.
  pub lookup_in_c_answered : number ≡ 0 ↔ None (FormCondition (form_by flags) false t)
  lookup_in_c_answered =
      table-answered (size_of (form_by flags)) (form_size (form_by flags)) (form_by flags).strict false t _ (lookup_says ok.answer) ok.looked ok.number_is ok.index_is

  -- Else it is, with the index, the first that holds.
  pub lookup_in_c_refused : (n i : ℕ) → ((1 ≤ n) × (number ≡ n) × (index ≡ i)) ↔ First (FormCondition (form_by flags) false t) n i
  lookup_in_c_refused =
      table_refused (size_of (form_by flags)) (form_size (form_by flags)) (form_by flags).strict false t _ (lookup_says ok.answer) ok.looked ok.number_is ok.index_is

-- ---- Addresses held.
module _ (t : List ℕ) (flags : ℕ) {number addresses index : ℕ} (ok : HeldInC t flags number addresses index) where
  -- The result is 0 exactly when no condition of document 01 holds.
  pub held_in_c_answered : number ≡ 0 ↔ None (TableCondition (form_by flags) false t)
  held_in_c_answered =
      table-answered 8 eight (form_by flags).strict false t _ (held_says ok.answer) ok.held ok.number_is ok.index_is

  -- Else it is, with the index, the first that holds.
  pub held_in_c_refused : (n i : ℕ) → ((1 ≤ n) × (number ≡ n) × (index ≡ i)) ↔ First (TableCondition (form_by flags) false t) n i
  held_in_c_refused =
      table_refused 8 eight (form_by flags).strict false t _ (held_says ok.answer) ok.held ok.number_is ok.index_is

-- ---- Work words.
module _ (t : List ℕ) (flags is_set : ℕ) {number needed index : ℕ} (ok : WordsInC t flags is_set number needed index) where
  -- The result is 0 exactly when no condition of document 01 holds.
  pub words_in_c_answered : number ≡ 0 ↔ None (FormCondition (form_by flags) (is_set_by is_set) t)
  words_in_c_answered =
      table-answered (size_of (form_by flags)) (form_size (form_by flags)) (form_by flags).strict (is_set_by is_set) t _ (words_says ok.answer) ok.replies ok.number_is ok.index_is

  -- Else it is, with the index, the first that holds.
  pub words_in_c_refused : (n i : ℕ) → ((1 ≤ n) × (number ≡ n) × (index ≡ i)) ↔ First (FormCondition (form_by flags) (is_set_by is_set) t) n i
  words_in_c_refused =
      table_refused (size_of (form_by flags)) (form_size (form_by flags)) (form_by flags).strict (is_set_by is_set) t _ (words_says ok.answer) ok.replies ok.number_is ok.index_is

  module _ (zero : number ≡ 0) where
    needed_is : (r : Result ℕ Refusal) → ok.answer ≡ r → needed ≡ words_in (size_of (form_by flags)) t
    needed_is (Ok n) e = ok.words_is ∙ ap words_of e ∙ sym ((words-exactly (form_by flags) (is_set_by is_set) t ok.answer ok.replies n).0 e).1
    needed_is (Err refusal) e =
        let same = ok.number_is ∙ ap (λ (r : Result ℕ Refusal). number_of (words_says r)) e in
        let k = number_some refusal.cause in
        absurd (omega arith)

    -- An answer is the number of words below which a rewrite has its condition 10.
    pub words_in_c_rewrite : (mode default : ℕ) (ranks : List ℕ) (room words : ℕ) → words < needed ↔ RewriteCondition (form_by flags) t mode default ranks room words 10 0
    words_in_c_rewrite mode default ranks room words =
        let is = needed_is ok.answer refl in
        (λ h. short_work (omega arith), λ c. let h = rewrite_ten c refl in omega arith)

    -- And the cover query.
    pub words_in_c_cover : (len words : ℕ) → words < needed ↔ CoverCondition (form_by flags) t len words 10 0
    words_in_c_cover len words =
        let is = needed_is ok.answer refl in
        (λ h. short_room (omega arith), λ c. let h = cover_ten c refl in omega arith)

-- ---- A list of what has no route.
module _ (t : List ℕ) (flags : ℕ) (o : List ℕ) {number count index : ℕ} {o' : List ℕ} (ok : UnroutedInC t flags o number count index o') where
  given_list : ((n : ℕ) × (listed_says ok.answer ≡ gives n)) ↔ None (UnroutedCondition (form_by flags) t (length o))
  given_list =
      let exactly = unrouted-listed (form_by flags) t o ok.answer o' ok.lists in
      let none = none_exactly (form_by flags) t (length o) in (
        λ (n, e). let f = (exactly n).0 (listed_same ok.answer (Ok n) e) in none.1 (f.0, f.1),
        λ no. let f = none.0 no in (length (holes_of (size_of (form_by flags)) t), ap listed_says ((exactly (length (holes_of (size_of (form_by flags)) t))).1 (f.0, f.1, refl))),
      )

  refused_list : (n i : ℕ) → listed_says ok.answer ≡ refuses n i ↔ First (UnroutedCondition (form_by flags) t (length o)) n i
  refused_list = unrouted_refused (form_by flags) t o ok.answer o' ok.lists

  -- The result is 0 exactly when no condition for a refusal holds.
  pub unrouted_in_c_answered : number ≡ 0 ↔ None (UnroutedCondition (form_by flags) t (length o))
  unrouted_in_c_answered = answered (listed_says ok.answer) given_list refused_list (λ n i f. unrouted-number f.0) ok.number_is ok.index_is

  -- Else it is, with the index, the first that holds.
  pub unrouted_in_c_refused : (n i : ℕ) → ((1 ≤ n) × (number ≡ n) × (index ≡ i)) ↔ First (UnroutedCondition (form_by flags) t (length o)) n i
  unrouted_in_c_refused = numbered (listed_says ok.answer) given_list refused_list (λ n i f. unrouted-number f.0) ok.number_is ok.index_is

-- ---- Special use.
module _ (t : List ℕ) (flags edition : ℕ) {number found place index : ℕ} (ok : SpecialInC t flags edition number found place index) where
  abbrev first : Place
  first = first_special 32 (ranges_of edition) (routes t)

  given_special : ((p : Place) × (special_says ok.answer ≡ gives p)) ↔ None (SpecialCondition (form_by flags) t edition)
  given_special = (
    λ (p, e). ((gives-exactly (special_rules (form_by flags) t edition) (special_tests (form_by flags) t edition) first {b = p}).0 (sym ok.replies ∙ e)).0,
    λ none. (first, ok.replies ∙ (gives-exactly (special_rules (form_by flags) t edition) (special_tests (form_by flags) t edition) first {b = first}).1 (none, refl)),
  )

  refused_special : (n i : ℕ) → special_says ok.answer ≡ refuses n i ↔ First (SpecialCondition (form_by flags) t edition) n i
  refused_special = special_refused (form_by flags) t edition ok.answer ok.replies

  -- The result is 0 exactly when no condition for a refusal holds.
  pub special_in_c_answered : number ≡ 0 ↔ None (SpecialCondition (form_by flags) t edition)
  special_in_c_answered = answered (special_says ok.answer) given_special refused_special (λ n i f. special_number f.0) ok.number_is ok.index_is

  -- Else it is, with the index, the first that holds.
  pub special_in_c_refused : (n i : ℕ) → ((1 ≤ n) × (number ≡ n) × (index ≡ i)) ↔ First (SpecialCondition (form_by flags) t edition) n i
  special_in_c_refused = numbered (special_says ok.answer) given_special refused_special (λ n i f. special_number f.0) ok.number_is ok.index_is

-- ---- The chip loader.
module _ (t : List ℕ) (flags : ℕ) (m : List ℕ) {number slots index : ℕ} {m' : List ℕ} (ok : ChipInC t flags m number slots index m') where
  given_chip : ((n : ℕ) × (loaded_says ok.answer ≡ gives n)) ↔ None (LoadCondition (form_by flags) t (length m))
  given_chip = (
    λ (n, e). ((gives-exactly (load_rules (form_by flags) t (length m)) (load_tests (form_by flags) t (length m)) (records t) {b = n}).0 (sym ok.loads.answer ∙ e)).0,
    λ none. (
      records t,
      ok.loads.answer ∙ (gives-exactly (load_rules (form_by flags) t (length m)) (load_tests (form_by flags) t (length m)) (records t) {b = records t}).1 (none, refl),
    ),
  )

  refused_chip : (n i : ℕ) → loaded_says ok.answer ≡ refuses n i ↔ First (LoadCondition (form_by flags) t (length m)) n i
  refused_chip = load_refused (form_by flags) t m ok.answer m' ok.loads

  -- The result is 0 exactly when no condition for a refusal holds.
  pub chip_in_c_answered : number ≡ 0 ↔ None (LoadCondition (form_by flags) t (length m))
  chip_in_c_answered = answered (loaded_says ok.answer) given_chip refused_chip (λ n i f. load_number f.0) ok.number_is ok.index_is

  -- Else it is, with the index, the first that holds.
  pub chip_in_c_refused : (n i : ℕ) → ((1 ≤ n) × (number ≡ n) × (index ≡ i)) ↔ First (LoadCondition (form_by flags) t (length m)) n i
  chip_in_c_refused = numbered (loaded_says ok.answer) given_chip refused_chip (λ n i f. load_number f.0) ok.number_is ok.index_is

-- ---- The checker of a plan.
tables_number : {n : ℕ} → ((3 ≤ n) × (n ≤ 8)) ⊎ ((23 ≤ n) × (n ≤ 28)) → 1 ≤ n
tables_number (inl k) = omega (arith, k.0)
tables_number (inr k) = omega (arith, k.0)

plan-number : {n : ℕ} → (((3 ≤ n) × (n ≤ 8)) ⊎ ((23 ≤ n) × (n ≤ 28))) ⊎ (n ≡ 13) → 1 ≤ n
plan-number (inl k) = tables_number k
plan-number (inr e) = omega arith

module _ (t u : List ℕ) (flags : ℕ) (ss : List Step) {number yes index : ℕ} (ok : CheckPlanInC t u flags ss number yes index) where
  given_check : ((b : Bool) × (judged_says ok.answer ≡ gives b)) ↔ None (PlanCondition (form_by flags) t u ss)
  given_check = (
    λ (b, e). ((gives-exactly (check_rules (form_by flags) t u ss) (check_tests (form_by flags) t u ss) ok.judges.word {b = b}).0 (sym ok.judges.answer ∙ e)).0,
    λ none. (
      ok.judges.word,
      ok.judges.answer ∙ (gives-exactly (check_rules (form_by flags) t u ss) (check_tests (form_by flags) t u ss) ok.judges.word {b = ok.judges.word}).1 (none, refl),
    ),
  )

  refused_check : (n i : ℕ) → judged_says ok.answer ≡ refuses n i ↔ First (PlanCondition (form_by flags) t u ss) n i
  refused_check = check_refused (form_by flags) t u ss ok.answer ok.judges

  above_check : (n i : ℕ) → First (PlanCondition (form_by flags) t u ss) n i → 1 ≤ n
  above_check n i f = plan-number (check_numbers (form_by flags) t u ss ok.answer ok.judges n i ((check_refused (form_by flags) t u ss ok.answer ok.judges n i).1 f))

  -- The result is 0 exactly when no condition for a refusal holds.
  pub check_plan_in_c_answered : number ≡ 0 ↔ None (PlanCondition (form_by flags) t u ss)
  check_plan_in_c_answered = answered (judged_says ok.answer) given_check refused_check above_check ok.number_is ok.index_is

  -- Else it is, with the index, the first that holds.
  pub check_plan_in_c_refused : (n i : ℕ) → ((1 ≤ n) × (number ≡ n) × (index ≡ i)) ↔ First (PlanCondition (form_by flags) t u ss) n i
  check_plan_in_c_refused = numbered (judged_says ok.answer) given_check refused_check above_check ok.number_is ok.index_is

-- ---- The planner.
module _ (t u : List ℕ) (flags : ℕ) (room : List Step) {number given count index : ℕ} {room' : List Step} (ok : PlanInC t u flags room number given count index room') where
  abbrev right : Option ℕ
  right = chosen t u (length room)

  given_plan : ((p : Option ℕ) × (planned_says ok.answer ≡ gives p)) ↔ None (TablesCondition (form_by flags) t u)
  given_plan = (
    λ (p, e). ((gives-exactly (tables_rules (form_by flags) t u) (tables_tests (form_by flags) t u) right {b = p}).0 (sym ok.plans.answer ∙ e)).0,
    λ none. (right, ok.plans.answer ∙ (gives-exactly (tables_rules (form_by flags) t u) (tables_tests (form_by flags) t u) right {b = right}).1 (none, refl)),
  )

  refused_plan : (n i : ℕ) → planned_says ok.answer ≡ refuses n i ↔ First (TablesCondition (form_by flags) t u) n i
  refused_plan = plan_refused (form_by flags) t u room ok.answer room' ok.plans

  above-plan : (n i : ℕ) → First (TablesCondition (form_by flags) t u) n i → 1 ≤ n
  above-plan n i f = tables_number (tables_numbers (form_by flags) t u n i f.0)

  -- The result is 0 exactly when no condition for a refusal holds.
  pub plan_in_c_answered : number ≡ 0 ↔ None (TablesCondition (form_by flags) t u)
  plan_in_c_answered = answered (planned_says ok.answer) given_plan refused_plan above-plan ok.number_is ok.index_is

  -- Else it is, with the index, the first that holds.
  pub plan_in_c_refused : (n i : ℕ) → ((1 ≤ n) × (number ≡ n) × (index ≡ i)) ↔ First (TablesCondition (form_by flags) t u) n i
  plan_in_c_refused = numbered (planned_says ok.answer) given_plan refused_plan above-plan ok.number_is ok.index_is
