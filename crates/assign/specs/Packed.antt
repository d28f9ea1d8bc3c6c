-- A node's candidate sets packed into words: a mask of the positions that are stored, then two words for each of these, by rising position.
-- A position is stored unless its set is that of its parent; position 0 always is.
use Rattle.std.specs.Prelude.{ℕ, zero, suc, ◌+◌, ◌-◌, ◌*◌, ◌/◌, Bool, true, cond, not, List, [], ◌∷◌, eqb, get_or}
use Rattle.writer.specs.Write.{low, high}

-- Is position b stored, by the sets of the positions?
abbrev pub stored : List ℕ → ℕ → Bool
stored sets b = cond (eqb b 0) true (not (eqb (get_or sets b 0) (get_or sets ((b - 1) / 2) 0)))

-- The mask of the last k of the 31 positions, the first of them its lowest bit.
unfoldable pub mask_of : List ℕ → ℕ → ℕ
mask_of sets zero = 0
mask_of sets (suc k) = mask_of sets k * 2 + cond (stored sets (30 - k)) 1 0

-- The words of their stored sets.
unfoldable pub words_of : List ℕ → ℕ → List ℕ
words_of sets zero = []
words_of sets (suc k) =
    cond (stored sets (30 - k)) (low (get_or sets (30 - k) 0) ∷ high (get_or sets (30 - k) 0) ∷ words_of sets k) (words_of sets k)

-- The own words of a node.
abbrev pub packed : List ℕ → List ℕ
packed sets = mask_of sets 31 ∷ words_of sets 31
