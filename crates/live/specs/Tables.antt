-- What a simple table of routes answers to the calls of a live map, with no room and no words: `most` nodes fit.
use Rattle.std.specs.Prelude.{ℕ, ◌-◌, Bool, true, not, ◌||◌, List, [], ◌∷◌, ◌++◌, leb, length}
use Rattle.theory.specs.Results.{start_of}
use Rattle.theory.specs.Routes.{Route}
use Rattle.words.specs.Prefix.{host_clear}
use Rattle.refusals.specs.Rules.{Rule, rule, Reply, judge}
use Rattle.records.specs.Sized.{route}
use Rattle.records.specs.declared.Form.{Form}
use Rattle.nodecount.specs.Nodes.{nodes}
use Rattle.steps.specs.Steps.{present, put, without}

-- The start of a call's prefix: the address without its bits past the length.
abbrev pub masked : ℕ → ℕ → ℕ
masked a l = start_of (32 - l) a

-- The table with the route put, and without the prefix taken.
abbrev pub putting : List Route → ℕ → ℕ → ℕ → List Route
putting t a l h = put (route (masked a l) l h) t

abbrev pub taking : List Route → ℕ → ℕ → List Route
taking t a l = without (masked a l) l t

-- ---- Rules.

-- Of a prefix: its length is in range and, under the strict choice, no host bits are set.
abbrev pub prefix_rules : Form → ℕ → ℕ → List Rule
prefix_rules form a l = rule 5 0 (leb l 32) ∷ rule 6 0 (not form.strict || host_clear 32 a l) ∷ []

-- Of a table that is to be held: its routes are not too many, nor its nodes.
abbrev pub room_rules : ℕ → List Route → List Rule
room_rules most t = rule 17 0 (leb (length t) 1024) ∷ rule 10 0 (leb (nodes 32 t) most) ∷ []

-- Of a put: the prefix's, then the hop is in range, then those of the table with the route.
abbrev pub put_rules : ℕ → List Route → Form → ℕ → ℕ → ℕ → List Rule
put_rules most t form a l h = prefix_rules form a l ++ (rule 7 0 (leb h 63) ∷ room_rules most (putting t a l h))

-- ---- Replies.

-- A put gives that it is done; a take gives whether the prefix was there.
abbrev pub table_put : ℕ → List Route → Form → ℕ → ℕ → ℕ → Reply Bool
table_put most t form a l h = judge (put_rules most t form a l h) true

abbrev pub table_take : List Route → Form → ℕ → ℕ → Reply Bool
table_take t form a l = judge (prefix_rules form a l) (present t (masked a l) l)
