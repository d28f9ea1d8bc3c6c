-- The text of each call's answer, and of the reply to a rewrite.
use Rattle.std.specs.Prelude.{ℕ, ◌*◌, Bool, true, false, List, [], ◌∷◌, ◌++◌, pos, ◌-ℤ◌, length, take, Option, Result, Ok, Err}
use Rattle.theory.specs.Routes.{Route, Match, miss, hit}
use Rattle.refusals.specs.Rules.{Reply, gives, refuses}
use Rattle.refusals.specs.declared.Refusal.{Refusal}
use Rattle.records.specs.Sized.{routes_in}
use Rattle.lookup.specs.Calls.{lookup_says, held_says}
use Rattle.lookup.specs.declared.answers.Match.{Match as Found}
use Rattle.calls.specs.Rewriting.{Outcome}
use Rattle.calls.specs.Covering.{covers_says}
use Rattle.text.specs.declared.Refused.{Refused}
use Rattle.text.specs.Text.{lines_in, change_line, refused_line, refused_of, refusal_line, found_line, addresses_line, total_end}

-- Of a rewrite that left the output o, of records of so many bytes: the records' lines, then the change; or the refusal. The addresses are in hex digits
-- where `hex` says so.
unfoldable pub rewritten_text : ℕ → Bool → Bool → Outcome → List ℕ → List ℕ
rewritten_text size hex hops (Ok w) o = lines_in size hex hops (routes_in size (take (size * w.count) o)) ++ change_line w.change
rewritten_text size hex hops (Err refusal) o = refusal_line refusal

-- Of the reply to a rewrite of a table with so many records: the lines of the result, then the change; or the refusal.
unfoldable pub reply_text : ℕ → Bool → Bool → ℕ → Reply (List Route) → List ℕ
reply_text size hex hops before (gives rs) = lines_in size hex hops rs ++ change_line (pos (length rs) -ℤ pos before)
reply_text size hex hops before (refuses number index) = refused_line number index

-- Of a reply: that of the value that it gives, or the refusal.
abbrev pub said : {A : Type 0} → (A → List ℕ) → Reply A → List ℕ
said text (gives a) = text a
said text (refuses number index) = refused_line number index

-- Of the cover query: `covered`, `uncovered` or the refusal.
abbrev pub cover_line : Bool → List ℕ
cover_line true = 99 ∷ 111 ∷ 118 ∷ 101 ∷ 114 ∷ 101 ∷ 100 ∷ 10 ∷ []
cover_line false = 117 ∷ 110 ∷ 99 ∷ 111 ∷ 118 ∷ 101 ∷ 114 ∷ 101 ∷ 100 ∷ 10 ∷ []

unfoldable pub covers_text : Result Bool Refusal → List ℕ
covers_text r = said cover_line (covers_says r)

-- Of a lookup: the match, `no route` or the refusal.
abbrev pub match_line : Match → List ℕ
match_line (hit len hop) = found_line hop len
match_line miss = 110 ∷ 111 ∷ 32 ∷ 114 ∷ 111 ∷ 117 ∷ 116 ∷ 101 ∷ 10 ∷ []

unfoldable pub lookup_text : Result (Option Found) Refusal → List ℕ
lookup_text r = said match_line (lookup_says r)

-- Of addresses held: their number or the refusal.
unfoldable pub held_text : Result ℕ Refusal → List ℕ
held_text r = said addresses_line (held_says r)

-- An answer whose refusal is said.
abbrev pub as_said : {A : Type 0} → Result A Refusal → Result A Refused
as_said (Ok a) = Ok a
as_said (Err refusal) = Err (refused_of refusal)

-- The count of a list, 0 in a refusal.
abbrev pub records_said : Result ℕ Refused → ℕ
records_said (Ok count) = count
records_said (Err refused) = 0

-- Of a list of what has no route, in the output o: a prefix a line, then the total, if it is wanted; or the refusal, whatever its number and index.
unfoldable pub listed_text : ℕ → Bool → Bool → Result ℕ Refused → List ℕ → List ℕ
listed_text size hex total (Ok count) o = lines_in size hex false (routes_in size (take (size * count) o)) ++ total_end total count
listed_text size hex total (Err refused) o = refused_line refused.number refused.index

-- Of the reply to that call.
unfoldable pub list_text : ℕ → Bool → Bool → Reply (List Route) → List ℕ
list_text size hex total (gives rs) = lines_in size hex false rs ++ total_end total (length rs)
list_text size hex total (refuses number index) = refused_line number index
