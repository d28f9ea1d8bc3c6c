-- An input of any length.
use Rattle.std.specs.Prelude.{ℕ, ◌%◌, cond, leb, eqb}

-- How many bytes of an input of so many decide the answer: all, up to 8,200. A longer one is refused by its length, by number 3 or 4, and so are
-- its first 8,193 or 8,200 bytes.
unfoldable pub judged : ℕ → ℕ
judged size = cond (leb size 8200) size (cond (eqb (size % 8) 0) 8200 8193)
