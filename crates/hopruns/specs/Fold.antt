-- The fold of a node: its 63 places, 31 positions and 32 slots, each with a run; that of a position combines those of the two places below it.
use Rattle.std.specs.Prelude.{ℕ, suc, ◌+◌, ◌-◌, ◌*◌, ◌^◌, ◌≤◌, ◌<◌, ◌≡◌, cond, List, Option, Some, None, ltb, length, get_or}
use Rattle.std.proofs.Math.Seq.{slice}
use Rattle.theory.specs.Routes.{Answer}
use Rattle.theory.specs.Results.{sets}
use Rattle.positions.specs.Runs.{size_at, place_at}
use Rattle.nodecount.specs.Walk.{sum_to}
use Rattle.nodes.specs.Room.{Pushed}
use Rattle.hopruns.specs.declared.room.Folded.{Folded}
use Rattle.hopruns.specs.Runs.{Run, hops_of, combined}
use Rattle.hopruns.specs.Packed.{packed}

-- The level of the place numbered k: 0 to 4 for a position, 5 for a slot.
abbrev pub level_of : ℕ → ℕ
level_of k = cond (ltb k 1) 0 (cond (ltb k 3) 1 (cond (ltb k 7) 2 (cond (ltb k 15) 3 (cond (ltb k 31) 4 5))))

-- The candidates of the places of the node (m + 5, a), where address x is answered by f x, as runs.
abbrev pub run_at : (ℕ → Answer) → ℕ → ℕ → ℕ → List ℕ
run_at f m a k = hops_of (sets f (size_at m (level_of k)) (place_at m a (level_of k) (suc k - 2 ^ level_of k)))

-- Each of the 31 positions has the combined run of the two places below it.
abbrev pub Heap : (ℕ → List ℕ) → Type 0
Heap runs = (k : ℕ) → k < 31 → runs k ≡ combined (runs (2 * k + 1)) (runs (2 * k + 2))

-- The places from b on have runs in the room, by their starts and ends, all above `at`.
abbrev pub Placed : List ℕ → List ℕ → List ℕ → ℕ → ℕ → Type 0
Placed o from to b at = (k : ℕ) → b ≤ k → k < 63 → Run o (get_or from k 0) (get_or to k 0) × (at ≤ get_or from k 0)

-- They are these runs.
abbrev pub Shown : (ℕ → List ℕ) → List ℕ → List ℕ → List ℕ → ℕ → Type 0
Shown runs o from to b = (k : ℕ) → b ≤ k → k < 63 → slice (get_or from k 0) (get_or to k 0) o ≡ runs k

-- The hops of the first n positions.
abbrev pub first_hops : (ℕ → List ℕ) → ℕ → ℕ
first_hops runs n = sum_to (λ b. length (runs b)) n

-- What a fold asks of the room o, where so many words are left for the hops of the first `holding` positions: the runs of the slots stand above top, and
-- below it there is room for the words that are left, the mask, 31 lengths and one hop of each further position, which has no more.
pub record MayFold (runs : ℕ → List ℕ) (holding : ℕ) (o from to : List ℕ) (top left : ℕ) : Type 0 where
  pub starts : length from ≡ 63
  pub ends : length to ≡ 63
  pub heap : Heap runs
  pub shown : Shown runs o from to 31
  pub placed : Placed o from to 31 top
  pub counted : holding ≤ 31
  pub narrow : (b : ℕ) → holding ≤ b → b < 31 → length (runs b) ≤ 1
  pub room : left + 32 + (31 - holding) ≤ top
  pub within : top ≤ length o

-- What a fold leaves where the words suffice: the node's own words, its first position's run among them, and the words that are left then.
pub record Folds (runs : ℕ → List ℕ) (holding top left : ℕ) (r : Folded) (o o' : List ℕ) : Type 0 where
  pub pushed : Pushed (packed runs) top r.top o o'
  pub first : Run o' r.from r.to
  pub shows : slice r.from r.to o' ≡ runs 0
  pub under : r.top ≤ r.from
  pub spent : r.left + first_hops runs holding ≡ left

-- What a fold says: they suffice, or they do not.
abbrev pub DidFold : (ℕ → List ℕ) → ℕ → ℕ → ℕ → Option Folded → List ℕ → List ℕ → Type 0
DidFold runs holding top left (Some r) o o' = Folds runs holding top left r o o'
DidFold runs holding top left None o o' = left < first_hops runs holding
