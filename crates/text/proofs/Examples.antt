-- Worked lines, computed. Assumes nothing.
use mathlib.Core.Path.{◌≡◌, refl}
use mathlib.Core.Bool.{true, false}
use mathlib.Core.List.{[], ◌∷◌}
use lib.IntN.{pos, negsuc}
use Rattle.records.specs.Sized.{route}
use Rattle.text.specs.Places.{places}
use Rattle.text.specs.Ipv6.{hexadecimal, hex16, joined, zeros, longest, first_row, shortened, ipv6}
use Rattle.text.specs.Text.{decimal, signed, dotted, hop_end, address_in, line_in, line_of, change_line, refused_line}

-- `10.128.0.0/9 2`.
pub line_with_hop : line_of true (route 176160768 9 2) ≡ 49 ∷ 48 ∷ 46 ∷ 49 ∷ 50 ∷ 56 ∷ 46 ∷ 48 ∷ 46 ∷ 48 ∷ 47 ∷ 57 ∷ 32 ∷ 50 ∷ 10 ∷ []
unfolding places decimal dotted hop_end address_in line_in
line_with_hop = refl

-- `10.128.0.0/9`.
pub line-without-hop : line_of false (route 176160768 9 0) ≡ 49 ∷ 48 ∷ 46 ∷ 49 ∷ 50 ∷ 56 ∷ 46 ∷ 48 ∷ 46 ∷ 48 ∷ 47 ∷ 57 ∷ 10 ∷ []
unfolding places decimal dotted hop_end address_in line_in
line-without-hop = refl

-- `change -1` and `change 0`.
pub change_negative : change_line (negsuc 0) ≡ 99 ∷ 104 ∷ 97 ∷ 110 ∷ 103 ∷ 101 ∷ 32 ∷ 45 ∷ 49 ∷ 10 ∷ []
unfolding places decimal signed change_line
change_negative = refl

pub change_none : change_line (pos 0) ≡ 99 ∷ 104 ∷ 97 ∷ 110 ∷ 103 ∷ 101 ∷ 32 ∷ 48 ∷ 10 ∷ []
unfolding places decimal signed change_line
change_none = refl

-- `refused 6 at 0`.
pub refused_six : refused_line 6 0 ≡ 114 ∷ 101 ∷ 102 ∷ 117 ∷ 115 ∷ 101 ∷ 100 ∷ 32 ∷ 54 ∷ 32 ∷ 97 ∷ 116 ∷ 32 ∷ 48 ∷ 10 ∷ []
unfolding places decimal refused_line
refused_six = refl

-- ---- Addresses of 64 bits.
-- `::`, of 0.
pub ipv6_default : ipv6 0 ≡ 58 ∷ 58 ∷ []
unfolding places hexadecimal joined zeros longest first_row shortened ipv6
ipv6_default = refl

-- `2001:db8::`.
pub ipv6-short : ipv6 2306139568115548160 ≡ 50 ∷ 48 ∷ 48 ∷ 49 ∷ 58 ∷ 100 ∷ 98 ∷ 56 ∷ 58 ∷ 58 ∷ []
unfolding places hexadecimal joined zeros longest first_row shortened ipv6
ipv6-short = refl

-- `2001:db8:0:1::`: one zero is written out.
pub ipv6_one_zero : ipv6 2306139568115548161 ≡ 50 ∷ 48 ∷ 48 ∷ 49 ∷ 58 ∷ 100 ∷ 98 ∷ 56 ∷ 58 ∷ 48 ∷ 58 ∷ 49 ∷ 58 ∷ 58 ∷ []
unfolding places hexadecimal joined zeros longest first_row shortened ipv6
ipv6_one_zero = refl

-- `2001:0:0:1::`: the four zeros at the end are the longer row.
pub ipv6-two-zeros : ipv6 2306124484190404609 ≡ 50 ∷ 48 ∷ 48 ∷ 49 ∷ 58 ∷ 48 ∷ 58 ∷ 48 ∷ 58 ∷ 49 ∷ 58 ∷ 58 ∷ []
unfolding places hexadecimal joined zeros longest first_row shortened ipv6
ipv6-two-zeros = refl

-- `0:0:0:1::`: so they are even here.
pub ipv6-first-zero : ipv6 1 ≡ 48 ∷ 58 ∷ 48 ∷ 58 ∷ 48 ∷ 58 ∷ 49 ∷ 58 ∷ 58 ∷ []
unfolding places hexadecimal joined zeros longest first_row shortened ipv6
ipv6-first-zero = refl

-- `fe80:a:0:ffff::`.
pub ipv6-whole : ipv6 18338657725602398207 ≡ 102 ∷ 101 ∷ 56 ∷ 48 ∷ 58 ∷ 97 ∷ 58 ∷ 48 ∷ 58 ∷ 102 ∷ 102 ∷ 102 ∷ 102 ∷ 58 ∷ 58 ∷ []
unfolding places hexadecimal joined zeros longest first_row shortened ipv6
ipv6-whole = refl

-- Any eight groups, as in RFC 5952, section 4.2.
-- `2001:db8:0:1:1:1:1:1`: one zero alone is not shortened.
pub alone : shortened (8193 ∷ 3512 ∷ 0 ∷ 1 ∷ 1 ∷ 1 ∷ 1 ∷ 1 ∷ []) ≡ 50 ∷ 48 ∷ 48 ∷ 49 ∷ 58 ∷ 100 ∷ 98 ∷ 56 ∷ 58 ∷ 48 ∷ 58 ∷ 49 ∷ 58 ∷ 49 ∷ 58 ∷ 49 ∷ 58 ∷ 49 ∷ 58 ∷ 49 ∷ []
unfolding places hexadecimal joined zeros longest first_row shortened
alone = refl

-- `2001:0:0:1::1`: the longer row is.
pub the_longer : shortened (8193 ∷ 0 ∷ 0 ∷ 1 ∷ 0 ∷ 0 ∷ 0 ∷ 1 ∷ []) ≡ 50 ∷ 48 ∷ 48 ∷ 49 ∷ 58 ∷ 48 ∷ 58 ∷ 48 ∷ 58 ∷ 49 ∷ 58 ∷ 58 ∷ 49 ∷ []
unfolding places hexadecimal joined zeros longest first_row shortened
the_longer = refl

-- `2001:db8::1:0:0:1`: the first of two rows as long.
pub the_first : shortened (8193 ∷ 3512 ∷ 0 ∷ 0 ∷ 1 ∷ 0 ∷ 0 ∷ 1 ∷ []) ≡ 50 ∷ 48 ∷ 48 ∷ 49 ∷ 58 ∷ 100 ∷ 98 ∷ 56 ∷ 58 ∷ 58 ∷ 49 ∷ 58 ∷ 48 ∷ 58 ∷ 48 ∷ 58 ∷ 49 ∷ []
unfolding places hexadecimal joined zeros longest first_row shortened
the_first = refl

-- `20010db800000000`.
pub hex_digits : hex16 2306139568115548160 ≡ 50 ∷ 48 ∷ 48 ∷ 49 ∷ 48 ∷ 100 ∷ 98 ∷ 56 ∷ 48 ∷ 48 ∷ 48 ∷ 48 ∷ 48 ∷ 48 ∷ 48 ∷ 48 ∷ []
unfolding hex16
hex_digits = refl

-- `2001:db8::/32 2`.
pub long-line : line_in 16 false true (route 2306139568115548160 32 2) ≡ 50 ∷ 48 ∷ 48 ∷ 49 ∷ 58 ∷ 100 ∷ 98 ∷ 56 ∷ 58 ∷ 58 ∷ 47 ∷ 51 ∷ 50 ∷ 32 ∷ 50 ∷ 10 ∷ []
unfolding places hexadecimal joined zeros longest first_row shortened ipv6 decimal hop_end address_in line_in
long-line = refl
