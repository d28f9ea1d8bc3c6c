-- Prefixes of addresses of w bits, by arithmetic: the first n bits of an address are what is left of it after division by 2 ^ (w - n).
use Rattle.std.specs.Prelude.{ℕ, ◌-◌, ◌/◌, ◌%◌, ◌^◌, Bool, ◌&&◌, eqb, leb}

-- The first n of w bits set, the others clear.
abbrev pub mask_of : ℕ → ℕ → ℕ
mask_of w n = 2 ^ w - 2 ^ (w - n)

-- Do two addresses agree in their first n bits?
abbrev pub agree : ℕ → ℕ → ℕ → ℕ → Bool
agree w n x y = eqb (x / 2 ^ (w - n)) (y / 2 ^ (w - n))

-- Does the prefix a / n contain the prefix b / m: no longer than it, and their first n bits agree?
abbrev pub within : ℕ → ℕ → ℕ → ℕ → ℕ → Bool
within w a n b m = leb n m && agree w n b a

-- Are the bits of a past the first n clear?
abbrev pub host_clear : ℕ → ℕ → ℕ → Bool
host_clear w a n = eqb (a % 2 ^ (w - n)) 0
