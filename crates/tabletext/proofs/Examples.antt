-- Worked lines, computed. Assumes nothing.
use mathlib.Core.Path.{◌≡◌, refl}
use mathlib.Core.Bool.{true, false}
use mathlib.Core.List.{[], ◌∷◌}
use Rattle.tabletext.specs.Pieces.{place, up_to, behind, unblank, number, joined, address, is_default, prefix_address, prefix_length}
use Rattle.tabletext.specs.Lines.{nothing, entry, wrong, unreturned, end_of_set, end_of_map, of_prefix, of_words, of_body, of_line, said}
use Rattle.tabletext.specs.declared.Reason.TheVariants.{NotPrefix, Colon, NoHop, HopInSet, NotHop}

-- `10.0.0.0/8 1`, of a map.
pub route_of_a_map : said true (49 ∷ 48 ∷ 46 ∷ 48 ∷ 46 ∷ 48 ∷ 46 ∷ 48 ∷ 47 ∷ 56 ∷ 32 ∷ 49 ∷ []) ≡ entry 167772160 8 1
unfolding place up_to behind unblank number joined address is_default prefix_address prefix_length unreturned end_of_set end_of_map of_prefix of_words of_body of_line said
route_of_a_map = refl

-- `10.20.0.5/24  63 # a comment`, of a map.
pub host_bits_kept : said true (9 ∷ 49 ∷ 48 ∷ 46 ∷ 50 ∷ 48 ∷ 46 ∷ 48 ∷ 46 ∷ 53 ∷ 47 ∷ 50 ∷ 52 ∷ 32 ∷ 32 ∷ 54 ∷ 51 ∷ 32 ∷ 35 ∷ 32 ∷ 97 ∷ 32 ∷ 99 ∷ 111 ∷ 109 ∷ 109 ∷ 101 ∷ 110 ∷ 116 ∷ []) ≡ entry 169082885 24 63
unfolding place up_to behind unblank number joined address is_default prefix_address prefix_length unreturned end_of_set end_of_map of_prefix of_words of_body of_line said
host_bits_kept = refl

-- `default 0`, of a map.
pub default_route : said true (100 ∷ 101 ∷ 102 ∷ 97 ∷ 117 ∷ 108 ∷ 116 ∷ 32 ∷ 48 ∷ []) ≡ entry 0 0 0
unfolding place up_to behind unblank number joined address is_default prefix_address prefix_length unreturned end_of_set end_of_map of_prefix of_words of_body of_line said
default_route = refl

-- `192.168.0.1`, of a set.
pub bare-address : said false (49 ∷ 57 ∷ 50 ∷ 46 ∷ 49 ∷ 54 ∷ 56 ∷ 46 ∷ 48 ∷ 46 ∷ 49 ∷ []) ≡ entry 3232235521 32 0
unfolding place up_to behind unblank number joined address is_default prefix_address prefix_length unreturned end_of_set end_of_map of_prefix of_words of_body of_line said
bare-address = refl

-- `10.0.0.0/8` and a carriage return, of a set.
pub with_return : said false (49 ∷ 48 ∷ 46 ∷ 48 ∷ 46 ∷ 48 ∷ 46 ∷ 48 ∷ 47 ∷ 56 ∷ 13 ∷ []) ≡ entry 167772160 8 0
unfolding place up_to behind unblank number joined address is_default prefix_address prefix_length unreturned end_of_set end_of_map of_prefix of_words of_body of_line said
with_return = refl

-- `# 10.0.0.0/8 1`, of a map.
pub comment_alone : said true (35 ∷ 32 ∷ 49 ∷ 48 ∷ 46 ∷ 48 ∷ 46 ∷ 48 ∷ 46 ∷ 48 ∷ 47 ∷ 56 ∷ 32 ∷ 49 ∷ []) ≡ nothing
unfolding place up_to behind unblank number joined address is_default prefix_address prefix_length unreturned end_of_set end_of_map of_prefix of_words of_body of_line said
comment_alone = refl

-- `10.0.0.0/8 999`, of a map.
pub hop_999 : said true (49 ∷ 48 ∷ 46 ∷ 48 ∷ 46 ∷ 48 ∷ 46 ∷ 48 ∷ 47 ∷ 56 ∷ 32 ∷ 57 ∷ 57 ∷ 57 ∷ []) ≡ wrong NotHop
unfolding place up_to behind unblank number joined address is_default prefix_address prefix_length unreturned end_of_set end_of_map of_prefix of_words of_body of_line said
hop_999 = refl

-- `10.0.0.0/8`, of a map.
pub no_hop : said true (49 ∷ 48 ∷ 46 ∷ 48 ∷ 46 ∷ 48 ∷ 46 ∷ 48 ∷ 47 ∷ 56 ∷ []) ≡ wrong NoHop
unfolding place up_to behind unblank number joined address is_default prefix_address prefix_length unreturned end_of_set end_of_map of_prefix of_words of_body of_line said
no_hop = refl

-- `10.0.0.0/8 1`, of a set.
pub hop_in_a_set : said false (49 ∷ 48 ∷ 46 ∷ 48 ∷ 46 ∷ 48 ∷ 46 ∷ 48 ∷ 47 ∷ 56 ∷ 32 ∷ 49 ∷ []) ≡ wrong HopInSet
unfolding place up_to behind unblank number joined address is_default prefix_address prefix_length unreturned end_of_set end_of_map of_prefix of_words of_body of_line said
hop_in_a_set = refl

-- `2001:db8::/32 1`, of a map.
pub ipv6 : said true (50 ∷ 48 ∷ 48 ∷ 49 ∷ 58 ∷ 100 ∷ 98 ∷ 56 ∷ 58 ∷ 58 ∷ 47 ∷ 51 ∷ 50 ∷ 32 ∷ 49 ∷ []) ≡ wrong Colon
unfolding place up_to behind unblank number joined address is_default prefix_address prefix_length unreturned end_of_set end_of_map of_prefix of_words of_body of_line said
ipv6 = refl

-- `10.256.0.0/16 1`, of a map.
pub octet_256 : said true (49 ∷ 48 ∷ 46 ∷ 50 ∷ 53 ∷ 54 ∷ 46 ∷ 48 ∷ 46 ∷ 48 ∷ 47 ∷ 49 ∷ 54 ∷ 32 ∷ 49 ∷ []) ≡ wrong NotPrefix
unfolding place up_to behind unblank number joined address is_default prefix_address prefix_length unreturned end_of_set end_of_map of_prefix of_words of_body of_line said
octet_256 = refl

-- `10.0.0.0/33`, of a set.
pub length_33 : said false (49 ∷ 48 ∷ 46 ∷ 48 ∷ 46 ∷ 48 ∷ 46 ∷ 48 ∷ 47 ∷ 51 ∷ 51 ∷ []) ≡ wrong NotPrefix
unfolding place up_to behind unblank number joined address is_default prefix_address prefix_length unreturned end_of_set end_of_map of_prefix of_words of_body of_line said
length_33 = refl

-- `010.0.0.0/8`, of a set.
pub leading_zero : said false (48 ∷ 49 ∷ 48 ∷ 46 ∷ 48 ∷ 46 ∷ 48 ∷ 46 ∷ 48 ∷ 47 ∷ 56 ∷ []) ≡ wrong NotPrefix
unfolding place up_to behind unblank number joined address is_default prefix_address prefix_length unreturned end_of_set end_of_map of_prefix of_words of_body of_line said
leading_zero = refl
