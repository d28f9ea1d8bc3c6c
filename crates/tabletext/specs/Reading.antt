-- What a text says: the records of its lines in their order, each with the number of its line, from 1 on; or the first line that is wrong, and why.
use Rattle.std.specs.Prelude.{ℕ, ◌+◌, ◌*◌, ◌≡◌, Bool, cond, ◌&&◌, List, [], ◌∷◌, leb, ltb, eqb, length, get_or, drop, set, Some, None, Result, Ok, Err}
use Rattle.theory.specs.Routes.{Route}
use Rattle.records.specs.Wire.{record_of, bytes_of}
use Rattle.records.specs.Sized.{route, laid}
use Rattle.tabletext.specs.Lines.{Said, said}
use Rattle.tabletext.specs.declared.Reason.{Reason}
use Rattle.tabletext.specs.declared.Reason.TheVariants.{TooMany}
use Rattle.tabletext.specs.declared.Record.{Record}
use Rattle.tabletext.specs.declared.ReadError.{ReadError}
use Rattle.tabletext.specs.declared.ReadError.TheVariants.{WrongLine, NoRoom}

-- ---- The lines of a text.

-- A byte before the first line.
abbrev pub on_first : ℕ → List (List ℕ) → List (List ℕ)
on_first x [] = (x ∷ []) ∷ []
on_first x (l ∷ ls) = (x ∷ l) ∷ ls

-- The lines between line feeds: one more than there are line feeds. The last one may be empty.
unfoldable pub lines_in : List ℕ → List (List ℕ)
lines_in [] = [] ∷ []
lines_in (x ∷ s) = cond (eqb x 10) ([] ∷ lines_in s) (on_first x (lines_in s))

-- Does a text begin with a byte order mark?
unfoldable pub marked : List ℕ → Bool
marked s = leb 3 (length s) && (eqb (get_or s 0 0) 239 && (eqb (get_or s 1 0) 187 && eqb (get_or s 2 0) 191))

-- A text without its byte order mark.
unfoldable pub unmarked : List ℕ → List ℕ
unmarked s = cond (marked s) (drop 3 s) s

-- ---- What is read.

-- How many records a text has, or why it is not read: the first wrong line and what is wrong with it, or rooms that are too short.
abbrev pub Read : Type 0
Read = Result ℕ ReadError

abbrev pub wrong_line : ℕ → Reason → Read
wrong_line k why = Err (WrongLine k why)

-- The route that a record says.
abbrev pub route_said : Record → Route
route_said r = route r.addr r.len r.hop

-- The routes of the lines before the first wrong one, addresses as they are written; the numbers of their lines; and the answer.
pub record Reading : Type 0 where
  pub routes : List Route
  pub lines : List ℕ
  pub answer : Read

-- No records more.
abbrev pub ends : Read → Reading
ends r = record { routes = []; lines = []; answer = r }

-- A record of line k, and more behind it.
abbrev pub before : Route → ℕ → Reading → Reading
before r k more = record { routes = r ∷ more.routes; lines = k ∷ more.lines; answer = more.answer }

-- Line k says this, with n records before it: what is read from it on, with what is read behind it if it has no record, and if it has one.
abbrev pub with_line : ℕ → ℕ → Said → Reading → Reading → Reading
with_line n k (Ok None) same more = same
with_line n k (Ok (Some r)) same more = cond (ltb n 1024) (before (route_said r) k more) (ends (wrong_line k TooMany))
with_line n k (Err why) same more = ends (wrong_line k why)

-- What is read from line k on, with n records before it.
unfoldable pub read_lines : Bool → ℕ → ℕ → List (List ℕ) → Reading
read_lines hops n k [] = ends (Ok n)
read_lines hops n k (l ∷ ls) = with_line n k (said hops l) (read_lines hops n (k + 1) ls) (read_lines hops (n + 1) (k + 1) ls)

-- What a text says.
unfoldable pub says : Bool → List ℕ → Reading
says hops text = read_lines hops 0 1 (lines_in (unmarked text))

-- ---- What is written.

-- The answer r to what is read, with the records and the numbers of their lines at the beginning of the rooms. All else stays.
pub record Written (g : Reading) (r : Read) (out lines out' lines' : List ℕ) : Type 0 where
  pub answers : r ≡ g.answer
  pub records : out' ≡ laid 0 (bytes_of g.routes) out
  pub numbers : lines' ≡ laid 0 g.lines lines

-- What is read into the rooms: nothing, where they are too short.
unfoldable pub read_into : Bool → List ℕ → List ℕ → List ℕ → Reading
read_into hops text out lines = cond (leb 8192 (length out) && leb 1024 (length lines)) (says hops text) (ends (Err NoRoom))

-- The right answer to a text, and what it leaves in the rooms.
abbrev pub Reads : Bool → List ℕ → Read → List ℕ → List ℕ → List ℕ → List ℕ → Type 0
Reads hops text r out lines = Written (read_into hops text out lines) r out lines

-- ---- What one line leaves, with n records before it: the count behind it, or what is wrong; the rooms.

unfoldable pub stored : ℕ → Said → Result ℕ Reason
stored n (Ok None) = Ok n
stored n (Ok (Some r)) = cond (ltb n 1024) (Ok (n + 1)) (Err TooMany)
stored n (Err why) = Err why

unfoldable pub stored_bytes : ℕ → Said → List ℕ → List ℕ
stored_bytes n (Ok None) out = out
stored_bytes n (Ok (Some r)) out = cond (ltb n 1024) (laid (8 * n) (record_of (route_said r)) out) out
stored_bytes n (Err why) out = out

unfoldable pub stored_numbers : ℕ → ℕ → Said → List ℕ → List ℕ
stored_numbers n k (Ok None) lines = lines
stored_numbers n k (Ok (Some r)) lines = cond (ltb n 1024) (set lines n k) lines
stored_numbers n k (Err why) lines = lines
