-- The text of answers, as document 01's programs print it, in ASCII: each line ends in a line feed.
use Rattle.std.specs.Prelude.{ℕ, suc, ◌+◌, ◌-◌, ◌*◌, ◌/◌, ◌%◌, ◌≤◌, ◌≡◌, Bool, false, cond, List, [], ◌∷◌, ◌++◌, eqb, ℤ, pos, negsuc, length}
use Rattle.io.specs.Digits.{last_digits}
use Rattle.refusals.specs.Numbers.{number_of}
use Rattle.refusals.specs.declared.Refusal.{Refusal}
use Rattle.records.specs.Sized.{laid}
use Rattle.theory.specs.Routes.{Route}
use Rattle.text.specs.declared.Refused.{Refused}
use Rattle.text.specs.Places.{places}
use Rattle.text.specs.Ipv6.{hex16, ipv6}

-- ---- Numbers.

-- A number of up to 20 digits in decimal, without leading zeros.
unfoldable pub decimal : ℕ → List ℕ
decimal n = last_digits 10 (places 10 19 n) n

-- The number that digits read as, behind digits that read as v; and alone.
unfoldable pub read_from : ℕ → List ℕ → ℕ
read_from v [] = v
read_from v (d ∷ ds) = read_from (v * 10 + (d - 48)) ds

abbrev pub reading : List ℕ → ℕ
reading = read_from 0

-- A number with a sign only if it is negative.
unfoldable pub signed : ℤ → List ℕ
signed (pos n) = decimal n
signed (negsuc n) = 45 ∷ decimal (suc n)

-- ---- Lines.

-- An address as four numbers with dots between them, first octet first.
unfoldable pub dotted : ℕ → List ℕ
dotted a = decimal (a / 16777216) ++ (46 ∷ decimal (a / 65536 % 256) ++ (46 ∷ decimal (a / 256 % 256) ++ (46 ∷ decimal (a % 256))))

-- The end of a record's line: where `hops` says so, one space and the hop.
unfoldable pub hop_end : Bool → ℕ → List ℕ
hop_end hops hop = cond hops (32 ∷ decimal hop) [] ++ (10 ∷ [])

-- The address of a record of so many bytes: with dots at 8, at 16 as an IPv6 address or, where `hex` says so, in hex digits.
unfoldable pub address_in : ℕ → Bool → ℕ → List ℕ
address_in size hex a = cond (eqb size 8) (dotted a) (cond hex (hex16 a) (ipv6 a))

-- A record's line: `10.0.0.0/8 1`, `2001:db8::/32 1` or `20010db800000000/32 1`, or the same without the hop.
unfoldable pub line_in : ℕ → Bool → Bool → Route → List ℕ
line_in size hex hops r = address_in size hex r.addr ++ (47 ∷ decimal r.len ++ hop_end hops r.hop)

-- The lines of records, one after another.
unfoldable pub lines_in : ℕ → Bool → Bool → List Route → List ℕ
lines_in size hex hops [] = []
lines_in size hex hops (r ∷ rs) = line_in size hex hops r ++ lines_in size hex hops rs

-- Those of records of 8 bytes.
abbrev pub line_of : Bool → Route → List ℕ
line_of hops r = line_in 8 false hops r

abbrev pub lines_of : Bool → List Route → List ℕ
lines_of hops rs = lines_in 8 false hops rs

-- The line `change N`.
unfoldable pub change_line : ℤ → List ℕ
change_line n = 99 ∷ 104 ∷ 97 ∷ 110 ∷ 103 ∷ 101 ∷ 32 ∷ signed n ++ (10 ∷ [])

-- The line `refused N at I`.
unfoldable pub refused_line : ℕ → ℕ → List ℕ
refused_line number index =
    114 ∷ 101 ∷ 102 ∷ 117 ∷ 115 ∷ 101 ∷ 100 ∷ 32 ∷ decimal number ++ (32 ∷ 97 ∷ 116 ∷ 32 ∷ decimal index ++ (10 ∷ []))

-- A refusal as it is said.
abbrev pub refused_of : Refusal → Refused
refused_of refusal = record { number = number_of refusal.cause; index = refusal.index }

-- That of a refusal.
abbrev pub refusal_line : Refusal → List ℕ
refusal_line refusal = refused_line (number_of refusal.cause) refusal.index

-- The line `hop H length L`.
unfoldable pub found_line : ℕ → ℕ → List ℕ
found_line hop len =
    104 ∷ 111 ∷ 112 ∷ 32 ∷ decimal hop ++ (32 ∷ 108 ∷ 101 ∷ 110 ∷ 103 ∷ 116 ∷ 104 ∷ 32 ∷ decimal len ++ (10 ∷ []))

-- The line `addresses N`.
unfoldable pub addresses_line : ℕ → List ℕ
addresses_line n = 97 ∷ 100 ∷ 100 ∷ 114 ∷ 101 ∷ 115 ∷ 115 ∷ 101 ∷ 115 ∷ 32 ∷ decimal n ++ (10 ∷ [])

-- The line `unrouted N`.
unfoldable pub unrouted_line : ℕ → List ℕ
unrouted_line n = 117 ∷ 110 ∷ 114 ∷ 111 ∷ 117 ∷ 116 ∷ 101 ∷ 100 ∷ 32 ∷ decimal n ++ (10 ∷ [])

-- The end of a list of n prefixes: that line, where `total` says so.
unfoldable pub total_end : Bool → ℕ → List ℕ
total_end total n = cond total (unrouted_line n) []

-- ---- Where text is put.

-- o' is o with the text ws laid from `at` on, up to r, which o has room for.
pub record Put (ws : List ℕ) (at r : ℕ) (o o' : List ℕ) : Type 0 where
  pub ends : r ≡ at + length ws
  pub fits : r ≤ length o
  pub lays : o' ≡ laid at ws o
