-- Sequences of calls on one room, and what a simple table of routes says to the same calls.
use Rattle.std.specs.Prelude.{ℕ, ◌≡◌, Bool, List, [], ◌∷◌, Option, Result}
use Rattle.theory.specs.Routes.{Route, Match, lookup}
use Rattle.refusals.specs.Rules.{Reply, gives, refuses}
use Rattle.refusals.specs.declared.Refusal.{Refusal}
use Rattle.records.specs.declared.Form.{Form}
use Rattle.lookup.specs.Calls.{lookup_says}
use Rattle.lookup.specs.declared.answers.Match.{Match as Found}
use Rattle.live.specs.Tables.{putting, taking, table_put, table_take}
use Rattle.live.specs.Calls.{Done, done_says, Taken, kept_says, look_reply, Puts, Takes}

-- A call: a route is put, by address, length and hop; a prefix is taken; an address is looked up.
pub data Call : Type 0 where
  puts : Form → ℕ → ℕ → ℕ → Call
  takes : Form → ℕ → ℕ → Call
  looks : ℕ → Call

-- What is said to one.
pub data Said : Type 0 where
  changed : Reply Bool → Said
  found : Reply Match → Said

-- ---- A simple table, where `most` nodes fit.

abbrev pub table_says : ℕ → List Route → Call → Said
table_says most t (puts form a l h) = changed (table_put most t form a l h)
table_says most t (takes form a l) = changed (table_take t form a l)
table_says most t (looks x) = found (gives (lookup 32 t x))

-- The table t after a call that changes it to s unless it refuses.
abbrev pub kept_by : Reply Bool → List Route → List Route → List Route
kept_by (gives b) s t = s
kept_by (refuses n i) s t = t

abbrev pub table_next : ℕ → List Route → Call → List Route
table_next most t (puts form a l h) = kept_by (table_put most t form a l h) (putting t a l h) t
table_next most t (takes form a l) = kept_by (table_take t form a l) (taking t a l) t
table_next most t (looks x) = t

-- What it says to one call after another.
unfoldable pub table_answers : ℕ → List Route → List Call → List Said
table_answers most t [] = []
table_answers most t (c ∷ cs) = table_says most t c ∷ table_answers most (table_next most t c) cs

-- ---- Calls on a room, one after another, each as its statement has it: the first list is asked, the second is said.

pub data Runs : List ℕ → List Call → List Said → Type 0 where
  nothing : {room : List ℕ} → Runs room [] []
  put_then : {room after : List ℕ} {form : Form} {a l h : ℕ} {cs : List Call} {ss : List Said} (k : Done) → Puts room form a l h k after
      → Runs after cs ss → Runs room (puts form a l h ∷ cs) (changed (done_says k) ∷ ss)
  take_then : {room after : List ℕ} {form : Form} {a l : ℕ} {cs : List Call} {ss : List Said} (k : Taken) → Takes room form a l k after
      → Runs after cs ss → Runs room (takes form a l ∷ cs) (changed (kept_says k) ∷ ss)
  look_then : {room : List ℕ} {x : ℕ} {cs : List Call} {ss : List Said} (k : Result (Option Found) Refusal) → lookup_says k ≡ look_reply room x
      → Runs room cs ss → Runs room (looks x ∷ cs) (found (lookup_says k) ∷ ss)
