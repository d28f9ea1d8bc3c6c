-- What the chip does, over the width w of an address: it answers with the first slot that matches.
use Rattle.std.specs.Prelude.{ℕ, Bool, cond, ◌&&◌, List, [], ◌∷◌, leb}
use Rattle.theory.specs.Routes.{Route, matches, Match, miss, hit}

-- Is a slot used: has it the length of a prefix? An unused slot has length 255.
abbrev pub is_used : ℕ → Route → Bool
is_used w r = leb r.len w

-- Does a slot match the address x? An unused one matches nothing.
abbrev pub slot_matches : ℕ → Route → ℕ → Bool
slot_matches w r x = is_used w r && matches w r x

-- The length and the hop of the first slot that matches x, or no match.
abbrev pub first_match : ℕ → List Route → ℕ → Match
first_match w [] x = miss
first_match w (r ∷ slots) x = cond (slot_matches w r x) (hit r.len r.hop) (first_match w slots x)
