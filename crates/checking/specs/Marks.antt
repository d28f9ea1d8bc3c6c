-- The lengths at which a prefix has a hop, as two words.
use Rattle.std.specs.Prelude.{ℕ, zero, suc, ◌+◌, ◌-◌, ◌*◌, ◌/◌, ◌%◌, ◌^◌, Bool, false, cond, not, ◌||◌, ◌&&◌, List, eqb, ltb, get_or}
use Rattle.std.specs.Int.Bits.{bit_and, bit_or}
use Rattle.positions.specs.Runs.{no_hop}
use Rattle.checking.specs.declared.marks.Marks.{Marks}

-- The set of a hop, or the empty one; that of two answers; and whether a hop is in a set.
abbrev pub alone_of : ℕ → ℕ
alone_of hop = cond (ltb hop no_hop) (1 * 2 ^ hop % 2 ^ 64) 0

abbrev pub fine_of : ℕ → ℕ → ℕ
fine_of was goal = bit_or (alone_of was) (alone_of goal)

abbrev pub is_fine : ℕ → ℕ → Bool
is_fine fine hop = cond (ltb hop no_hop) (eqb (fine / 2 ^ hop % 2) 1) false

-- The mark of a length, and a word without it.
abbrev pub mark_of : ℕ → ℕ
mark_of l = 1 * 2 ^ (l + 1) % 2 ^ 64

abbrev pub cleared_of : ℕ → ℕ → ℕ
cleared_of m l = bit_and m ((2 ^ 64 - 1) - mark_of l)

-- The word with the mark or without it.
abbrev pub set_to : ℕ → ℕ → Bool → ℕ
set_to m l on = cond on (bit_or (cleared_of m l) (mark_of l)) (cleared_of m l)

-- The marks once a length has this hop, or none.
abbrev pub marked_of : ℕ → Marks → ℕ → ℕ → Marks
marked_of fine m l hop =
    record { fair = set_to m.fair l (is_fine fine hop); foul = set_to m.foul l (ltb hop no_hop && not (is_fine fine hop)) }

-- The marks of no route.
abbrev pub bare_of : ℕ → ℕ → Marks
bare_of was goal = record { fair = cond (eqb was no_hop || eqb goal no_hop) 1 0; foul = cond (eqb was no_hop || eqb goal no_hop) 0 1 }

-- The marks of the hops at the lengths below k.
unfoldable pub marks_upto : ℕ → ℕ → List ℕ → ℕ → Marks
marks_upto was goal hops zero = bare_of was goal
marks_upto was goal hops (suc k) = marked_of (fine_of was goal) (marks_upto was goal hops k) k (get_or hops k 0)
