-- What the walks are about, over the size of a record: positions by their keys, the answers of a position's addresses by its run and what covers it, its
-- candidates and, by ranks that are lent, its entries; and how a position is taken apart.
use Rattle.std.specs.Prelude.{ℕ, ◌+◌, ◌-◌, ◌/◌, ◌^◌, ◌≤◌, ◌<◌, ◌≡◌, List}
use Rattle.theory.specs.Results.{In, Cand, sets, here, ortc}
use Rattle.theory.specs.Ranks.{lowest}
use Rattle.theory.specs.Routes.{Route, Answer, lookup, under}
use Rattle.words.specs.Keys.{key_of}
use Rattle.records.specs.Sized.{IsSize, width_in, records_in, route_in}
use Rattle.positions.specs.Runs.{no_hop, hop_of}
use Rattle.runs.specs.Runs.{run, RunAt}
use Rattle.plain.specs.declared.Part.{Part}
use Rattle.plain.specs.declared.Part.TheVariants.{Uniform, Halves}

-- Each record's hop is a hop.
abbrev pub Hopped : ℕ → List ℕ → Type 0
Hopped size t = (k : ℕ) → k < records_in size t → (route_in size t k).hop < no_hop

-- The address of a key.
abbrev pub address_in : ℕ → ℕ → ℕ
address_in size key = key / 2 ^ (64 - width_in size)

-- The records lo..hi are the run of the position of length len whose address has this key.
pub record Position (size : ℕ) (t : List ℕ) (lo hi len key : ℕ) : Type 0 where
  pub is_size : IsSize size
  pub short : len ≤ width_in size
  pub exact : key ≡ key_of (width_in size) (address_in size key)
  pub is_run : RunAt size (width_in size) t lo hi (width_in size - len) (address_in size key)

-- What the address x is answered: by its longest match among the records lo..hi, or else by the hop `cover`.
abbrev pub answer_at : ℕ → List ℕ → ℕ → ℕ → ℕ → ℕ → Answer
answer_at size t lo hi cover x = under (hop_of cover) (lookup (width_in size) (run size t lo hi) x)

-- The candidates of the position (n, a).
unfoldable pub set_at : ℕ → List ℕ → ℕ → ℕ → ℕ → ℕ → ℕ → Cand
set_at size t lo hi cover n a = sets (answer_at size t lo hi cover) n a

-- The entry of a position with these candidates, if it gets one, where the hop `above` is assigned above it.
abbrev pub entry_at : List ℕ → ℕ → Cand → ℕ → ℕ → ℕ → List Route
entry_at ranks size S n a above = here (lowest ranks) (width_in size) S n a (hop_of above)

-- The entries of the position and of the positions inside it.
unfoldable pub entries_at : List ℕ → ℕ → List ℕ → ℕ → ℕ → ℕ → ℕ → ℕ → ℕ → List Route
entries_at ranks size t lo hi cover n a above = ortc (lowest ranks) (width_in size) (answer_at size t lo hi cover) n a (hop_of above)

-- Every address of the position (n, a), whose run is lo..hi, is answered by one hop.
pub record OneAnswer (size : ℕ) (t : List ℕ) (lo hi cover n a hop : ℕ) : Type 0 where
  pub answers : (x : ℕ) → In n a x → answer_at size t lo hi cover x ≡ hop_of hop

-- The halves of a position at a, whose run is lo..hi, have n bits: the run of the left one is first..mid, that of the right one, which stands at `right`,
-- mid..hi. An address of either is answered by the half's run, or else by `hop`.
pub record Halved (size : ℕ) (t : List ℕ) (lo hi cover n a hop first mid right : ℕ) : Type 0 where
  pub begins : right ≡ a + 2 ^ n
  pub left_run : RunAt size (width_in size) t first mid n a
  pub right_run : RunAt size (width_in size) t mid hi n right
  pub left_answers : (x : ℕ) → In n a x → answer_at size t lo hi cover x ≡ answer_at size t first mid hop x
  pub right_answers : (x : ℕ) → In n right x → answer_at size t lo hi cover x ≡ answer_at size t mid hi hop x

-- What each way of taking apart says of the position of length len at the key; that of the right half is the key of an address.
abbrev pub PartOf : ℕ → List ℕ → ℕ → ℕ → ℕ → ℕ → ℕ → Part → Type 0
PartOf size t lo hi len key cover (Uniform hop) = OneAnswer size t lo hi cover (width_in size - len) (address_in size key) hop
PartOf size t lo hi len key cover (Halves hop first mid right) =
    (len < width_in size) × (right ≡ key_of (width_in size) (address_in size right))
    × Halved size t lo hi cover (width_in size - (len + 1)) (address_in size key) hop first mid (address_in size right)
