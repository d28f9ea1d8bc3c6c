-- Octets: a computed test for lists of them, and how large the number is that four of them write. Assumes nothing.
use mathlib.Core.Path.{◌≡◌}
use mathlib.Core.Bool.{Bool, true, ◌&&◌, and-eq-true_iff}
use mathlib.Core.List.{List, [], ◌∷◌}
use Prim.Native.Nat.{ℕ, zero, suc, ◌^◌, ◌<◌}
use native.Mathlib.Omega.{arith}
use lib.Dec.{ltb}
use borrow.Author.Tests.{ltb-true}
use Rattle.records.specs.Wire.{join}
use Rattle.records.specs.Sized.{Bytes}

-- Is each element an octet?
abbrev pub octets : List ℕ → Bool
octets [] = true
octets (b ∷ l) = ltb b 256 && octets l

-- Then they are bytes.
pub all_bytes : (l : List ℕ) → octets l ≡ true → Bytes l
all_bytes [] e k = omega arith
all_bytes (b ∷ l) e zero = ltb-true b 256 ((and-eq-true_iff (ltb b 256) (octets l)).0 e).0
all_bytes (b ∷ l) e (suc k) = all_bytes l ((and-eq-true_iff (ltb b 256) (octets l)).0 e).1 k

module _ (a b c d : ℕ) (ha : a < 256) (hb : b < 256) (hc : c < 256) (hd : d < 256) where
  -- The number of four octets has 32 bits.
  pub join-small : join a b c d < 2 ^ 32
  join-small = omega arith
