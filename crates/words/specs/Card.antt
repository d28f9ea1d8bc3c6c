-- The rule of the fold card, which has a fold of four bits for each byte of child slots.
use Rattle.std.specs.Prelude.{ℕ, ◌+◌, ◌*◌, ◌^◌, ◌<◌, ◌≡◌, Bool, ◌&&◌, List, length, get_or}
use Rattle.words.specs.Bits.{bit}

-- Are bits 2 * k and 2 * k + 1 of x set, both of them?
abbrev pub pair_set : ℕ → ℕ → Bool
pair_set x k = bit x (2 * k) && bit x (2 * k + 1)

-- r is the fold of the byte x: it has four bits, and bit k is set exactly when pair k of x is.
pub record FoldedByte (x r : ℕ) : Type 0 where
  pub four_bits : r < 2 ^ 4
  pub pairs : (k : ℕ) → k < 4 → bit r k ≡ pair_set x k

-- The folds of all 256 bytes, in order: the entry at place x is the fold of x.
pub record Card (folds : List ℕ) : Type 0 where
  pub size : length folds ≡ 256
  pub entry : (x : ℕ) → x < 256 → FoldedByte x (get_or folds x 0)
