-- The slots of a node that have no record: a word for each pair of slots under one position, which has the hop that answers there.
use Rattle.std.specs.Prelude.{ℕ, zero, suc, ◌+◌, ◌-◌, ◌/◌, ◌<◌, ◌≡◌, cond, List, [], ◌∷◌, ltb, length, get_or}
use Rattle.words.specs.Bits.{bit}
use Rattle.hopruns.specs.Runs.{no_hop}

-- What covers, or, where it is none, what fills.
abbrev pub leaf_hop : ℕ → ℕ → ℕ
leaf_hop covering fill = cond (ltb covering no_hop) covering fill

-- The words of the last k of the 16 pairs, by the hops that cover the node's positions.
unfoldable pub leaf_words : List ℕ → ℕ → ℕ → List ℕ
leaf_words covering fill zero = []
leaf_words covering fill (suc k) = leaf_hop (get_or covering (30 - k) 0) fill ∷ leaf_words covering fill k

-- Where the run of slot c begins and ends if it has no record, the words of the pairs beginning at `at`: a hop that is none is no run.
abbrev pub leaf_from : ℕ → ℕ → ℕ
leaf_from at c = at + c / 2

abbrev pub leaf_to : List ℕ → ℕ → ℕ → ℕ → ℕ
leaf_to covering fill at c = at + c / 2 + cond (ltb (leaf_hop (get_or covering (15 + c / 2) 0) fill) no_hop) 1 0

-- Of the first n slots those without a record are pointed to their words, and the others' starts and ends are what they were.
pub record Pointed (covering : List ℕ) (fill occupied at n : ℕ) (from to from' to' : List ℕ) : Type 0 where
  pub starts : length from' ≡ 63
  pub ends : length to' ≡ 63
  pub from_is : (c : ℕ) → c < n → get_or from' (31 + c) 0 ≡ cond (bit occupied c) (get_or from (31 + c) 0) (leaf_from at c)
  pub to_is : (c : ℕ) → c < n → get_or to' (31 + c) 0 ≡ cond (bit occupied c) (get_or to (31 + c) 0) (leaf_to covering fill at c)
