-- The numbers on the command line.
use Rattle.std.specs.Prelude.{ℕ, ◌+◌, ◌-◌, ◌*◌, cond, ◌&&◌, List, [], ◌∷◌, leb, ltb}

-- What stands for no number, 2^32 - 1: neither a mode nor a hop.
abbrev pub no_number : ℕ
no_number = 4294967295

-- The number n of the digits so far, and one byte more. What is no digit, or makes it too large, makes it none, and that stays.
unfoldable pub behind : ℕ → ℕ → ℕ
behind n byte = cond (leb 48 byte && (leb byte 57 && ltb (n * 10 + (byte - 48)) no_number)) (n * 10 + (byte - 48)) no_number

-- The number of a word whose first bytes gave n.
unfoldable pub number_from : ℕ → List ℕ → ℕ
number_from n [] = n
number_from n (byte ∷ bytes) = number_from (behind n byte) bytes

-- The number that a word stands for: that of its decimal digits, 0 of an empty word, none of anything else.
abbrev pub word_number : List ℕ → ℕ
word_number = number_from 0
