-- How many digits a number is written with.
use Rattle.std.specs.Prelude.{ℕ, zero, suc, ◌/◌, cond, ltb}

-- To a base, without leading zeros, if that is at most fuel + 1.
unfoldable pub places : ℕ → ℕ → ℕ → ℕ
places base zero n = 1
places base (suc fuel) n = cond (ltb n base) 1 (suc (places base fuel (n / base)))
