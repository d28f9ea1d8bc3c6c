-- An address of 64 bits as text: the upper half of an IPv6 address whose lower half is zero, written as RFC 5952, section 4, has it; or its hex digits.
use Rattle.std.specs.Prelude.{ℕ, suc, ◌+◌, ◌/◌, ◌%◌, max, cond, List, [], ◌∷◌, ◌++◌, eqb, ltb, take, drop}
use Rattle.io.specs.Digits.{last_digits}
use Rattle.text.specs.Places.{places}

-- ---- In hex, in lower case.

-- A number of up to 16 hex digits, without leading zeros.
unfoldable pub hexadecimal : ℕ → List ℕ
hexadecimal n = last_digits 16 (places 16 15 n) n

-- All 16 hex digits of a number of 64 bits.
unfoldable pub hex16 : ℕ → List ℕ
hex16 n = last_digits 16 16 n

-- ---- Groups.

-- Groups in hex, with colons between them.
unfoldable pub joined : List ℕ → List ℕ
joined [] = []
joined (g ∷ []) = hexadecimal g
joined (g ∷ h ∷ gs) = hexadecimal g ++ (58 ∷ joined (h ∷ gs))

-- A group and a colon, where not all that is left is zero.
unfoldable pub group_part : ℕ → ℕ → List ℕ
group_part g left = cond (eqb left 0) [] (hexadecimal g ++ (58 ∷ []))

-- How many zeros stand at the front.
unfoldable pub zeros : List ℕ → ℕ
zeros [] = 0
zeros (g ∷ gs) = cond (eqb g 0) (suc (zeros gs)) 0

-- The most zeros that stand in a row.
unfoldable pub longest : List ℕ → ℕ
longest [] = 0
longest (g ∷ gs) = max (zeros (g ∷ gs)) (longest gs)

-- The first place from which on exactly n zeros stand in a row.
unfoldable pub first_row : ℕ → List ℕ → ℕ
first_row n [] = 0
first_row n (g ∷ gs) = cond (eqb (zeros (g ∷ gs)) n) 0 (suc (first_row n gs))

-- Groups with the row of n zeros at place k shortened to `::`.
abbrev pub without : ℕ → ℕ → List ℕ → List ℕ
without k n gs = joined (take k gs) ++ (58 ∷ 58 ∷ joined (drop (k + n) gs))

-- Groups as RFC 5952 has them: the longest row of zeros, and of equally long ones the first, is shortened, if it has two or more.
unfoldable pub shortened : List ℕ → List ℕ
shortened gs = cond (ltb (longest gs) 2) (joined gs) (without (first_row (longest gs) gs) (longest gs) gs)

-- ---- The address.

-- The eight groups of 16 bits, the first the most significant: four of the address, and the lower half's, zero.
abbrev pub groups_of : ℕ → List ℕ
groups_of a = a / 281474976710656 ∷ a / 4294967296 % 65536 ∷ a / 65536 % 65536 ∷ a % 65536 ∷ 0 ∷ 0 ∷ 0 ∷ 0 ∷ []

-- The IPv6 address with this upper half: `2001:db8::`, or `::` of 0.
unfoldable pub ipv6 : ℕ → List ℕ
ipv6 a = shortened (groups_of a)
