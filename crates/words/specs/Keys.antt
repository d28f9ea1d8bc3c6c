-- Keys: an address of w bits as a number of 64, its first bit on top. So addresses of every width up to 64 are masked and compared alike.
use Rattle.std.specs.Prelude.{ℕ, ◌-◌, ◌*◌, ◌^◌}

-- The key of an address of w bits.
abbrev pub key_of : ℕ → ℕ → ℕ
key_of w a = a * 2 ^ (64 - w)
