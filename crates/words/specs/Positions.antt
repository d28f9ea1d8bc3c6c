-- The positions of a node, by level and index. Level l has the positions (l, j) for j below 2 ^ l; above (l + 1, j) stands (l, j / 2), so that
-- (l + 1, 2 * j) and (l + 1, 2 * j + 1) stand below (l, j). Levels 0 to 4 are the node's 31 positions, bits 0 to 30 of a word. Level 5 is
-- its 32 child slots, bits 0 to 31 of another word.
use Rattle.std.specs.Prelude.{ℕ, zero, suc, ◌+◌, ◌-◌, ◌*◌, ◌/◌, ◌^◌, Bool, false, cond, ◌&&◌, ◌||◌, leb, ltb}
use Rattle.words.specs.Bits.{bit}

-- The number of the position (l, j), counting from the top, each level from its left.
abbrev pub position : ℕ → ℕ → ℕ
position l j = 2 ^ l - 1 + j

-- Does the position numbered k stand at level l?
abbrev pub at_level : ℕ → ℕ → Bool
at_level l k = leb (2 ^ l) (k + 1) && ltb (k + 1) (2 ^ (l + 1))

-- The number of the position that is bit 0 of the word with level l: the child slots, numbered from 31 on, have a word of their own.
abbrev pub first : ℕ → ℕ
first l = cond (ltb l 5) 0 31

-- Is the position (l, j), at level 4 or above, a member of d?
abbrev pub member : ℕ → ℕ → ℕ → Bool
member d l j = bit d (position l j)

-- Is a position strictly above (l, j) a member of d?
unfoldable pub under : ℕ → ℕ → ℕ → Bool
under d zero j = false
under d (suc l) j = member d l (j / 2) || under d l (j / 2)

-- Is the position (5 - m, j) wholly covered by the members d and the covered child slots cc: covered itself, or by its two halves?
unfoldable pub whole : ℕ → ℕ → ℕ → ℕ → Bool
whole d cc zero j = bit cc j
whole d cc (suc m) j = member d (4 - m) j || (whole d cc m (2 * j) && whole d cc m (2 * j + 1))
