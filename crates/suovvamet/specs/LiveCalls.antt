-- The statements of the functions for C on a live map: for the room there is an answer that satisfies the call's own statement, and the numbers are those
-- of this answer.
use Rattle.std.specs.Prelude.{ℕ, ◌≡◌, true, false, List, Option, Result, Ok, Err}
use Rattle.refusals.specs.declared.Refusal.{Refusal}
use Rattle.lookup.specs.Calls.{lookup_says}
use Rattle.lookup.specs.declared.answers.Match.{Match}
use Rattle.live.specs.Calls.{Done, Taken, done_says, kept_says, Makes, Puts, Takes, look_reply}
use Rattle.suovvamet.specs.Numbers.{form_by, number_of, found_of, hop_of, length_of}

-- Was the prefix there, to be taken? 1 where it was, else 0.
abbrev pub present_of : Taken → ℕ
present_of (Ok true) = 1
present_of (Ok false) = 0
present_of (Err refusal) = 0

-- Of making an empty map: the room was lent, and is `after` then.
pub record MakeInC (room : List ℕ) (number : ℕ) (after : List ℕ) : Type 0 where
  pub answer : Done
  pub makes : Makes room answer after
  pub number_is : number ≡ number_of (done_says answer)

-- Of a put.
pub record PutInC (room : List ℕ) (flags a l h number : ℕ) (after : List ℕ) : Type 0 where
  pub answer : Done
  pub puts : Puts room (form_by flags) a l h answer after
  pub number_is : number ≡ number_of (done_says answer)

-- Of a take.
pub record TakeInC (room : List ℕ) (flags a l number present : ℕ) (after : List ℕ) : Type 0 where
  pub answer : Taken
  pub takes : Takes room (form_by flags) a l answer after
  pub number_is : number ≡ number_of (kept_says answer)
  pub present_is : present ≡ present_of answer

-- Of a lookup.
pub record LiveLookupInC (room : List ℕ) (x number found hop len : ℕ) : Type 0 where
  pub answer : Result (Option Match) Refusal
  pub looked : lookup_says answer ≡ look_reply room x
  pub number_is : number ≡ number_of (lookup_says answer)
  pub found_is : found ≡ found_of answer
  pub hop_is : hop ≡ hop_of answer
  pub length_is : len ≡ length_of answer
