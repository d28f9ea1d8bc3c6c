-- The positions that the walk stands at, and what each kind of them says of its holes, over the size of a record.
use Rattle.std.specs.Prelude.{ℕ, ◌+◌, ◌-◌, ◌≤◌, ◌<◌, ◌≡◌, List, [], ◌∷◌, ◌++◌}
use Rattle.words.specs.Keys.{key_of}
use Rattle.records.specs.Sized.{IsSize, width_in, route}
use Rattle.runs.specs.Runs.{RunAt}
use Rattle.holes.specs.declared.Kind.{Kind}
use Rattle.holes.specs.declared.Kind.TheVariants.{Hole, Routed, Parted}
use Rattle.holes.specs.Holes.{address_in, holes_at}

-- The position of length len whose first address has this key is one of the width, and the records lo..hi are its run.
pub record Position (size : ℕ) (t : List ℕ) (lo hi len key : ℕ) : Type 0 where
  pub sized : IsSize size
  pub short : len ≤ width_in size
  pub exact : key ≡ key_of (width_in size) (address_in size key)
  pub at : RunAt size (width_in size) t lo hi (width_in size - len) (address_in size key)

-- The position has halves: the left one has its key, and the run lo..mid; the right one has the key `right`, and the run mid..hi. Its holes are theirs.
pub record Halves (size : ℕ) (t : List ℕ) (lo hi len key right mid : ℕ) : Type 0 where
  pub longer : len < width_in size
  pub left_half : Position size t lo mid (len + 1) key
  pub right_half : Position size t mid hi (len + 1) right
  pub theirs : holes_at size t lo hi len key ≡ holes_at size t lo mid (len + 1) key ++ holes_at size t mid hi (len + 1) right

-- The position is of this kind: it is a hole, it has none, or it has those of its halves.
abbrev pub KindOf : ℕ → List ℕ → ℕ → ℕ → ℕ → ℕ → Kind → Type 0
KindOf size t lo hi len key Hole = holes_at size t lo hi len key ≡ route (address_in size key) len 0 ∷ []
KindOf size t lo hi len key Routed = holes_at size t lo hi len key ≡ []
KindOf size t lo hi len key (Parted right mid) = Halves size t lo hi len key right mid
