-- Pieces of a line, as lists of bytes: what stands before a byte and behind it, words, numbers, addresses.
use Rattle.std.specs.Prelude.{ℕ, suc, ◌+◌, ◌-◌, ◌*◌, ◌≡◌, ◌≤◌, ◌<◌, Bool, cond, ◌&&◌, ◌||◌, List, [], ◌∷◌, leb, ltb, eqb, length, get_or, take, drop, Option, Some, None}
use Rattle.records.specs.Wire.{join}

-- ---- Before and behind.

-- Is x the byte b? A tab counts as a space.
abbrev pub is : ℕ → ℕ → Bool
is b x = eqb x b || (eqb b 32 && eqb x 9)

-- How many bytes stand before the first b; all, where there is none.
unfoldable pub place : ℕ → List ℕ → ℕ
place b [] = 0
place b (x ∷ s) = cond (is b x) 0 (suc (place b s))

-- Does a list have a b?
abbrev pub has : ℕ → List ℕ → Bool
has b s = ltb (place b s) (length s)

-- What stands before the first b.
unfoldable pub up_to : ℕ → List ℕ → List ℕ
up_to b s = take (place b s) s

-- What stands behind the first b; nothing, where there is none.
unfoldable pub behind : ℕ → List ℕ → List ℕ
behind b s = drop (place b s + 1) s

-- A list without the blanks, spaces and tabs, at its beginning.
unfoldable pub unblank : List ℕ → List ℕ
unblank [] = []
unblank (x ∷ s) = cond (is 32 x) (unblank s) (x ∷ s)

-- Is a list empty?
abbrev pub none : List ℕ → Bool
none s = eqb (length s) 0

-- ---- What a function answers: a number, if it is below a limit. What is no number counts as the limit or more.

abbrev pub Below : ℕ → Option ℕ → ℕ → Type 0
Below limit None n = limit ≤ n
Below limit (Some m) n = (m ≡ n) × (n < limit)

-- The same, where what is none counts as the limit exactly.
abbrev pub Reaches : ℕ → Option ℕ → ℕ → Type 0
Reaches limit None n = n ≡ limit
Reaches limit (Some m) n = (m ≡ n) × (n < limit)

-- ---- Numbers: one to three digits, without a leading zero. What is none counts as 1,000 or more.

-- The value of a digit from `low` to 9.
abbrev pub digit_from : ℕ → ℕ → ℕ
digit_from low x = cond (leb (48 + low) x && leb x 57) (x - 48) 1000

-- The number that a word is.
unfoldable pub number : List ℕ → ℕ
number s =
    cond (eqb (length s) 1) (digit_from 0 (get_or s 0 0))
    (cond (eqb (length s) 2) (digit_from 1 (get_or s 0 0) * 10 + digit_from 0 (get_or s 1 0))
    (cond (eqb (length s) 3) (digit_from 1 (get_or s 0 0) * 100 + digit_from 0 (get_or s 1 0) * 10 + digit_from 0 (get_or s 2 0)) 1000))

-- ---- Addresses: four numbers below 256 with dots between them. What is none counts as 2 ^ 32.

-- The address of four octets.
unfoldable pub joined : ℕ → ℕ → ℕ → ℕ → ℕ
joined a b c d = cond (ltb a 256 && (ltb b 256 && (ltb c 256 && ltb d 256))) (join a b c d) 4294967296

-- The address that a word is.
unfoldable pub address : List ℕ → ℕ
address s =
    joined (number (up_to 46 s)) (number (up_to 46 (behind 46 s))) (number (up_to 46 (behind 46 (behind 46 s)))) (number (behind 46 (behind 46 (behind 46 s))))

-- ---- Prefixes: an address, a slash and a length; or an address alone, of length 32; or `default`.

-- Is a word `default`?
unfoldable pub is_default : List ℕ → Bool
is_default s =
    eqb (length s) 7
    && (eqb (get_or s 0 0) 100
    && (eqb (get_or s 1 0) 101
    && (eqb (get_or s 2 0) 102 && (eqb (get_or s 3 0) 97 && (eqb (get_or s 4 0) 117 && (eqb (get_or s 5 0) 108 && eqb (get_or s 6 0) 116))))))

-- The address of a prefix, host bits and all; 2 ^ 32 where it is none.
unfoldable pub prefix_address : List ℕ → ℕ
prefix_address w = cond (is_default w) 0 (address (up_to 47 w))

-- The length of a prefix; above 32 where it is none.
unfoldable pub prefix_length : List ℕ → ℕ
prefix_length w = cond (is_default w) 0 (cond (has 47 w) (number (behind 47 w)) 32)
