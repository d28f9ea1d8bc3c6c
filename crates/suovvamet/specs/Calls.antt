-- The statements of the functions for C: for the table, read as the flags say, there is an answer that satisfies the call's own statement, and the numbers
-- are those of this answer.
use Rattle.std.specs.Prelude.{ℕ, ◌≡◌, Bool, List, ℤ, length, Option, Result}
use Rattle.refusals.specs.declared.Refusal.{Refusal}
use Rattle.records.specs.Forms.{size_of}
use Rattle.lookup.specs.declared.answers.Match.{Match}
use Rattle.lookup.specs.Calls.{lookup_says, lookup_reply, held_says, held_reply}
use Rattle.workroom.specs.Needed.{words_says, words_reply}
use Rattle.calls.specs.Rewriting.{rewritten_says, count_of, change_of, Outcome, RewritesBy, Rewrites}
use Rattle.calls.specs.Covering.{covers_says, Queried}
use Rattle.plain.specs.Rewriting.{plain_rules}
use Rattle.holes.specs.Listing.{listed_says, listed_count, Lists}
use Rattle.special.specs.Calls.{special_says, special_reply}
use Rattle.chip.specs.Loading.{loaded_says, Loads}
use Rattle.plans.specs.Judging.{judged_says, Judges}
use Rattle.plans.specs.declared.answers.Step.{Step}
use Rattle.planner.specs.Planning.{planned_says, Plans}
use Rattle.suovvamet.specs.Numbers.{form_by, number_of, index_of, covered_of, found_of, hop_of, length_of, addresses_of, is_set_by, words_of, named_of, record_of, slots_used, yes_of, given_of, steps_given}

-- Of a rewrite: the table t, the ranks, the output o and the room work were lent; the output is o' then and the room work'.
pub record RewriteInC (t : List ℕ) (flags mode default : ℕ) (ranks o work : List ℕ) (number count : ℕ) (change : ℤ) (index : ℕ) (o' work' : List ℕ) : Type 0 where
  pub answer : Outcome
  pub rewrites : Rewrites (form_by flags) t mode default ranks o (length work) answer o' work'
  pub number_is : number ≡ number_of (rewritten_says answer)
  pub index_is : index ≡ index_of (rewritten_says answer)
  pub count_is : count ≡ count_of answer
  pub change_is : change ≡ change_of answer

-- Of a rewrite by the plain engine, which is lent no room.
pub record PlainInC (t : List ℕ) (flags mode default : ℕ) (ranks o : List ℕ) (number count : ℕ) (change : ℤ) (index : ℕ) (o' : List ℕ) : Type 0 where
  pub answer : Outcome
  pub rewrites : RewritesBy (size_of (form_by flags)) (plain_rules (form_by flags) t mode default ranks (length o)) t mode default ranks o answer o'
  pub number_is : number ≡ number_of (rewritten_says answer)
  pub index_is : index ≡ index_of (rewritten_says answer)
  pub count_is : count ≡ count_of answer
  pub change_is : change ≡ change_of answer

-- Of the cover query: the table t and the room work were lent, and the room is work' then.
pub record CoversInC (t : List ℕ) (flags address len : ℕ) (work : List ℕ) (number covered index : ℕ) (work' : List ℕ) : Type 0 where
  pub answer : Result Bool Refusal
  pub queried : Queried (form_by flags) t address len (length work) answer work'
  pub number_is : number ≡ number_of (covers_says answer)
  pub index_is : index ≡ index_of (covers_says answer)
  pub covered_is : covered ≡ covered_of answer

-- Of a lookup.
pub record LookupInC (t : List ℕ) (flags address number found hop len index : ℕ) : Type 0 where
  pub answer : Result (Option Match) Refusal
  pub looked : lookup_says answer ≡ lookup_reply (form_by flags) t address
  pub number_is : number ≡ number_of (lookup_says answer)
  pub index_is : index ≡ index_of (lookup_says answer)
  pub found_is : found ≡ found_of answer
  pub hop_is : hop ≡ hop_of answer
  pub length_is : len ≡ length_of answer

-- Of addresses held.
pub record HeldInC (t : List ℕ) (flags number addresses index : ℕ) : Type 0 where
  pub answer : Result ℕ Refusal
  pub held : held_says answer ≡ held_reply (form_by flags) t
  pub number_is : number ≡ number_of (held_says answer)
  pub index_is : index ≡ index_of (held_says answer)
  pub addresses_is : addresses ≡ addresses_of answer

-- Of work words, for a table of a set where is_set is not 0, else of a map.
pub record WordsInC (t : List ℕ) (flags is_set number needed index : ℕ) : Type 0 where
  pub answer : Result ℕ Refusal
  pub replies : words_says answer ≡ words_reply (form_by flags) (is_set_by is_set) t
  pub number_is : number ≡ number_of (words_says answer)
  pub index_is : index ≡ index_of (words_says answer)
  pub words_is : needed ≡ words_of answer

-- Of a list of what has no route: the table t and the output o were lent, and the output is o' then.
pub record UnroutedInC (t : List ℕ) (flags : ℕ) (o : List ℕ) (number count index : ℕ) (o' : List ℕ) : Type 0 where
  pub answer : Result ℕ Refusal
  pub lists : Lists (form_by flags) t o answer o'
  pub number_is : number ≡ number_of (listed_says answer)
  pub index_is : index ≡ index_of (listed_says answer)
  pub count_is : count ≡ listed_count answer

-- Of special use: whether a record was found, and its index.
pub record SpecialInC (t : List ℕ) (flags edition number found place index : ℕ) : Type 0 where
  pub answer : Result (Option ℕ) Refusal
  pub replies : special_says answer ≡ special_reply (form_by flags) t edition
  pub number_is : number ≡ number_of (special_says answer)
  pub index_is : index ≡ index_of (special_says answer)
  pub found_is : found ≡ named_of answer
  pub place_is : place ≡ record_of answer

-- Of the chip loader: the table t and the image m were lent, and the image is m' then.
pub record ChipInC (t : List ℕ) (flags : ℕ) (m : List ℕ) (number slots index : ℕ) (m' : List ℕ) : Type 0 where
  pub answer : Result ℕ Refusal
  pub loads : Loads (form_by flags) t m answer m'
  pub number_is : number ≡ number_of (loaded_says answer)
  pub index_is : index ≡ index_of (loaded_says answer)
  pub slots_is : slots ≡ slots_used answer

-- Of the checker of a plan: the installed table t, the new one u and the steps were lent.
pub record CheckPlanInC (t u : List ℕ) (flags : ℕ) (ss : List Step) (number yes index : ℕ) : Type 0 where
  pub answer : Result Bool Refusal
  pub judges : Judges (form_by flags) t u ss answer
  pub number_is : number ≡ number_of (judged_says answer)
  pub index_is : index ≡ index_of (judged_says answer)
  pub yes_is : yes ≡ yes_of answer

-- Of the planner: the installed table t, the new one u and a room for steps were lent; the room is room' then.
pub record PlanInC (t u : List ℕ) (flags : ℕ) (room : List Step) (number given count index : ℕ) (room' : List Step) : Type 0 where
  pub answer : Result (Option ℕ) Refusal
  pub plans : Plans (form_by flags) t u room answer room'
  pub number_is : number ≡ number_of (planned_says answer)
  pub index_is : index ≡ index_of (planned_says answer)
  pub given_is : given ≡ given_of answer
  pub count_is : count ≡ steps_given answer
