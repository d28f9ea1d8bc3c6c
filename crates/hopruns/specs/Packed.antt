-- The runs of a node's 31 positions as words: a mask of the positions that are no hole, then for each of these the length of its run and its hops,
-- by rising position.
use Rattle.std.specs.Prelude.{ℕ, zero, suc, ◌+◌, ◌-◌, ◌*◌, ◌≤◌, ◌≡◌, Bool, true, false, cond, List, [], ◌∷◌, ◌++◌, length}
use Rattle.std.proofs.Math.Seq.{slice}
use Rattle.nodes.specs.Room.{Begins}
use Rattle.hopruns.specs.declared.room.NodeReader.{NodeReader}
use Rattle.hopruns.specs.declared.room.Popped.{Popped}

-- Has a run a hop: is it no hole?
abbrev pub is_some : List ℕ → Bool
is_some [] = false
is_some (h ∷ s) = true

-- The words of a run: its length and its hops, and none for a hole.
abbrev pub stored_run : List ℕ → List ℕ
stored_run [] = []
stored_run (h ∷ s) = length (h ∷ s) ∷ h ∷ s

-- The mask of the last k of the 31 positions, the first of them its lowest bit.
unfoldable pub mask_of : (ℕ → List ℕ) → ℕ → ℕ
mask_of runs zero = 0
mask_of runs (suc k) = mask_of runs k * 2 + cond (is_some (runs (30 - k))) 1 0

-- The words of their runs.
unfoldable pub words_of : (ℕ → List ℕ) → ℕ → List ℕ
words_of runs zero = []
words_of runs (suc k) = stored_run (runs (30 - k)) ++ words_of runs k

-- The own words of a node.
abbrev pub packed : (ℕ → List ℕ) → List ℕ
packed runs = mask_of runs 31 ∷ words_of runs 31

-- A reader stands before the last k positions: its mask is theirs, and their words begin at its top.
pub record Ahead (runs : ℕ → List ℕ) (k : ℕ) (reader : NodeReader) (o : List ℕ) : Type 0 where
  pub masked : reader.mask ≡ mask_of runs k
  pub within : reader.top ≤ length o
  pub begins : Begins (words_of runs k) reader.top o

-- Of the last positions, k and one, the first was read: its run stands where it is said, and the reader is past it.
pub record Popping (runs : ℕ → List ℕ) (k : ℕ) (popped : Popped) (o : List ℕ) : Type 0 where
  pub order : popped.from ≤ popped.to
  pub within : popped.to ≤ length o
  pub run : slice popped.from popped.to o ≡ runs (30 - k)
  pub past : Ahead runs k popped.reader o
