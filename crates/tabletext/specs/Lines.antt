-- What one line says: nothing, a record, or what is wrong with it. A line is a prefix, blanks, and a hop; in a set a prefix alone. What stands behind a `#`
-- does not count, nor does a carriage return at the end.
use Rattle.std.specs.Prelude.{ℕ, ◌-◌, Bool, cond, ◌&&◌, List, leb, ltb, eqb, length, get_or, take, Option, Some, None, Result, Ok, Err}
use Rattle.tabletext.specs.Pieces.{has, up_to, behind, unblank, none, number, prefix_address, prefix_length}
use Rattle.tabletext.specs.declared.Reason.{Reason}
use Rattle.tabletext.specs.declared.Reason.TheVariants.{NotPrefix, Colon, NoHop, HopInSet, NotHop, MoreWords, StrayReturn}
use Rattle.tabletext.specs.declared.Record.{Record}

-- What a line says: nothing, a record, or what is wrong with it.
abbrev pub Said : Type 0
Said = Result (Option Record) Reason

abbrev pub nothing : Said
nothing = Ok None

abbrev pub entry : ℕ → ℕ → ℕ → Said
entry addr len hop = Ok (Some (record { addr = addr; len = len; hop = hop }))

abbrev pub wrong : Reason → Said
wrong why = Err why

-- A record that is said, or what is wrong with it.
abbrev pub as_said : Result Record Reason → Said
as_said (Ok r) = Ok (Some r)
as_said (Err why) = Err why

-- Does a line end in a carriage return?
abbrev pub returns : List ℕ → Bool
returns l = ltb 0 (length l) && eqb (get_or l (length l - 1) 0) 13

-- A line without a carriage return at its end.
unfoldable pub unreturned : List ℕ → List ℕ
unreturned l = cond (returns l) (take (length l - 1) l) l

-- What stands behind the prefix of a set's line: nothing.
unfoldable pub end_of_set : ℕ → ℕ → List ℕ → Said
end_of_set addr len rest = cond (none rest) (entry addr len 0) (wrong HopInSet)

-- What stands behind the prefix of a map's line: a hop from 0 to 63.
unfoldable pub end_of_map : ℕ → ℕ → List ℕ → Said
end_of_map addr len rest =
    cond (none rest) (wrong NoHop)
    (cond (none (unblank (behind 32 rest))) (cond (ltb (number (up_to 32 rest)) 64) (entry addr len (number (up_to 32 rest))) (wrong NotHop)) (wrong MoreWords))

-- A prefix, and what stands behind it.
unfoldable pub of_prefix : Bool → ℕ → ℕ → List ℕ → Said
of_prefix hops addr len rest =
    cond (ltb addr 4294967296 && leb len 32) (cond hops (end_of_map addr len rest) (end_of_set addr len rest)) (wrong NotPrefix)

-- A line that begins with no blank, and has no comment.
unfoldable pub of_words : Bool → List ℕ → Said
of_words hops s = cond (none s) nothing (of_prefix hops (prefix_address (up_to 32 s)) (prefix_length (up_to 32 s)) (unblank (behind 32 s)))

-- A line without its comment: a colon stands in addresses of IPv6 alone.
unfoldable pub of_body : Bool → List ℕ → Said
of_body hops s = cond (has 58 s) (wrong Colon) (of_words hops (unblank s))

-- A line without the carriage return at its end: no other is taken.
unfoldable pub of_line : Bool → List ℕ → Said
of_line hops s = cond (has 13 s) (wrong StrayReturn) (of_body hops (up_to 35 s))

-- What a line says.
unfoldable pub said : Bool → List ℕ → Said
said hops l = of_line hops (unreturned l)
