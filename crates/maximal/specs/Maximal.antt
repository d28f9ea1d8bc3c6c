-- The coverage of a node, the routes of it that mode 1 walks, and its positions that mode 1 lists.
use Rattle.std.specs.Prelude.{ℕ, suc, ◌-◌, ◌/◌, ◌^◌, ◌≤◌, ◌<◌, ◌≡◌, Bool, false, not, ◌&&◌, List, [], ◌∷◌}
use Rattle.theory.specs.Routes.{Route, held}
use Rattle.theory.specs.Results.{throughout, part}
use Rattle.words.specs.Bits.{bit}
use Rattle.words.specs.Positions.{position}
use Rattle.positions.specs.Runs.{size_at, place_at, member_over}
use Rattle.nodes.specs.Node.{wide}

-- cov has the positions of the node (m + 5, a) that the routes t cover, those that lie in them or stand above them.
pub record IsCoverage (m a : ℕ) (t : List Route) (cov : ℕ) : Type 0 where
  pub positions : (l j : ℕ) → l ≤ 4 → j < 2 ^ l → bit cov (position l j) ≡ throughout (held wide t) (size_at m l) (place_at m a l j)
  pub top : bit cov 31 ≡ false

-- The own words of a node in the room of mode 1: its coverage.
abbrev pub coverage_word : ℕ → ℕ → List Route → List ℕ → Type 0
coverage_word m a t ws = (cov : ℕ) × (ws ≡ cov ∷ []) × IsCoverage m a t cov

-- The routes of the node (m + 5, a) in the slots below no member of it: those that mode 1 walks.
abbrev pub uncovered : ℕ → ℕ → List Route → List Route
uncovered m a t = part (λ r. not (member_over wide m a t 5 ((r.addr - a) / 2 ^ m))) t

-- r has the positions of cov that are below no position of cov; none where one above the node is covered.
pub record Entries (above : Bool) (cov r : ℕ) : Type 0 where
  pub root : bit r (position 0 0) ≡ (not above && bit cov (position 0 0))
  pub below : (l j : ℕ) → suc l ≤ 4 → j < 2 ^ suc l
      → bit r (position (suc l) j) ≡ (not above && (bit cov (position (suc l) j) && not (bit cov (position l (j / 2)))))
