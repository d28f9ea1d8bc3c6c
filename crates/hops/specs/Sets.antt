-- Candidate sets as 64-bit words: hop h is bit h, and the word 0 is a hole.
use Rattle.std.specs.Prelude.{ℕ, ◌^◌, ◌<◌, ◌≡◌, true, List}
use Rattle.theory.specs.Results.{Cand, hole, of, has}
use Rattle.theory.specs.Shapes.{Sorted, Some}
use Rattle.words.specs.Bits.{bit}

-- The word x shows the hops s: ascending, each below 64, and hop h is in s exactly where bit h of x is set.
pub record ShowsHops (x : ℕ) (s : List ℕ) : Type 0 where
  pub sorted : Sorted s
  pub low : (h : ℕ) → has h s ≡ true → h < 64
  pub small : x < 2 ^ 64
  pub bits : (h : ℕ) → h < 64 → bit x h ≡ has h s

-- The word x shows the candidates: 0 for a hole, else a set that is not empty.
abbrev pub ShowsSet : ℕ → Cand → Type 0
ShowsSet x hole = x ≡ 0
ShowsSet x (of s) = ShowsHops x s × Some s
