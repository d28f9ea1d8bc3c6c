-- The flags of the calls, and their answers, in numbers. The count and the change of a rewrite are `count_of` and `change_of` of the crate calls, the count
-- of a list of what has no route is `listed_count` of the crate holes.
use Rattle.std.specs.Prelude.{ℕ, ◌/◌, ◌%◌, Bool, true, false, not, eqb, Option, None, Some, Result, Ok, Err}
use Rattle.refusals.specs.Rules.{Reply, gives, refuses}
use Rattle.refusals.specs.declared.Refusal.{Refusal}
use Rattle.records.specs.declared.Form.{Form}
use Rattle.lookup.specs.declared.answers.Match.{Match}

-- ---- Of any call.

-- How a table is read: strictly where the lowest bit of the flags is set, and as one of records of 16 bytes where the next is. The others are ignored.
abbrev pub form_by : ℕ → Form
form_by flags = record { strict = not (eqb (flags % 2) 0); long = not (eqb (flags / 2 % 2) 0) }

-- Document 01's number of a refusal, 0 where there is none.
abbrev pub number_of : {A : Type 0} → Reply A → ℕ
number_of (gives a) = 0
number_of (refuses number index) = number

-- The index that a refusal names, 0 where there is none.
abbrev pub index_of : {A : Type 0} → Reply A → ℕ
index_of (gives a) = 0
index_of (refuses number index) = index

-- ---- Of the cover query: 1 for covered, else 0.
abbrev pub covered_of : Result Bool Refusal → ℕ
covered_of (Ok true) = 1
covered_of (Ok false) = 0
covered_of (Err refusal) = 0

-- ---- Of a lookup.

-- 1 for a route, else 0.
abbrev pub found_of : Result (Option Match) Refusal → ℕ
found_of (Ok (Some route)) = 1
found_of (Ok None) = 0
found_of (Err refusal) = 0

-- Its hop, 0 where there is none.
abbrev pub hop_of : Result (Option Match) Refusal → ℕ
hop_of (Ok (Some route)) = route.hop
hop_of (Ok None) = 0
hop_of (Err refusal) = 0

-- Its length, 0 where there is none.
abbrev pub length_of : Result (Option Match) Refusal → ℕ
length_of (Ok (Some route)) = route.length
length_of (Ok None) = 0
length_of (Err refusal) = 0

-- ---- Of addresses held: how many they are, 0 in a refusal.
abbrev pub addresses_of : Result ℕ Refusal → ℕ
addresses_of (Ok n) = n
addresses_of (Err refusal) = 0

-- ---- Of work words.

-- Is a set meant? By any number but 0.
abbrev pub is_set_by : ℕ → Bool
is_set_by n = not (eqb n 0)

-- The words, 0 in a refusal.
abbrev pub words_of : Result ℕ Refusal → ℕ
words_of (Ok n) = n
words_of (Err refusal) = 0

-- ---- Of special use.

-- 1 for a record, else 0.
abbrev pub named_of : Result (Option ℕ) Refusal → ℕ
named_of (Ok (Some i)) = 1
named_of (Ok None) = 0
named_of (Err refusal) = 0

-- Its index, 0 where there is none.
abbrev pub record_of : Result (Option ℕ) Refusal → ℕ
record_of (Ok (Some i)) = i
record_of (Ok None) = 0
record_of (Err refusal) = 0

-- ---- Of the chip loader: the slots used, 0 in a refusal.
abbrev pub slots_used : Result ℕ Refusal → ℕ
slots_used (Ok used) = used
slots_used (Err refusal) = 0

-- ---- Of the checker of a plan: 1 for yes, else 0.
abbrev pub yes_of : Result Bool Refusal → ℕ
yes_of (Ok true) = 1
yes_of (Ok false) = 0
yes_of (Err refusal) = 0

-- ---- Of the planner.

-- 1 for a plan, else 0.
abbrev pub given_of : Result (Option ℕ) Refusal → ℕ
given_of (Ok (Some count)) = 1
given_of (Ok None) = 0
given_of (Err refusal) = 0

-- Its steps, 0 where there is none.
abbrev pub steps_given : Result (Option ℕ) Refusal → ℕ
steps_given (Ok (Some count)) = count
steps_given (Ok None) = 0
steps_given (Err refusal) = 0
