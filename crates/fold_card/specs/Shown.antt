-- What the fold card shows, in ASCII.
use Rattle.std.specs.Prelude.{ℕ, zero, suc, ◌+◌, ◌*◌, ◌/◌, ◌%◌, Bool, true, false, cond, List, [], ◌∷◌, ◌++◌, ltb, get_or}
use Rattle.words.specs.Bits.{bit}

-- The hex digit of a number below 16: `0` to `9`, then `A` to `F`.
abbrev pub hex_digit : ℕ → ℕ
hex_digit n = cond (ltb n 10) (48 + n) (55 + n)

-- A bit: `0` or `1`.
abbrev pub bit_digit : Bool → ℕ
bit_digit b = cond b 49 48

-- A byte in hex behind a space.
abbrev pub hex_byte : ℕ → List ℕ
hex_byte b = 32 ∷ hex_digit (b / 16) ∷ hex_digit (b % 16) ∷ []

-- A line of a fold's box, up to the stroke at its right: the lower one has the fold's four bits, bit 3 first, the upper one its digit.
unfoldable pub box_line : Bool → ℕ → List ℕ
box_line true r = 32 ∷ bit_digit (bit r 3) ∷ bit_digit (bit r 2) ∷ bit_digit (bit r 1) ∷ bit_digit (bit r 0) ∷ 32 ∷ 124 ∷ []
box_line false r = 32 ∷ 32 ∷ 32 ∷ hex_digit r ∷ 32 ∷ 32 ∷ 124 ∷ []

-- The lower or the upper lines of the first n boxes of the row of a high half, from the left: byte high * 16 + k has the box k.
unfoldable pub boxes : Bool → List ℕ → ℕ → ℕ → List ℕ
boxes lower folds high zero = []
boxes lower folds high (suc n) = boxes lower folds high n ++ box_line lower (get_or folds (high * 16 + n) 0)

-- A row of 16 boxes: the line that begins with the high half has their digits, the line below it their bits.
unfoldable pub row_text : List ℕ → ℕ → List ℕ
row_text folds high =
    (32 ∷ hex_digit high ∷ 32 ∷ 124 ∷ [])
    ++ (boxes false folds high 16 ++ ((10 ∷ 32 ∷ 32 ∷ 32 ∷ 124 ∷ []) ++ (boxes true folds high 16 ++ (10 ∷ []))))
