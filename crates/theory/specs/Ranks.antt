-- The choice of a hop by rank: of the hops of a set, the one of lowest rank. Ranks are lent as a list, number h the rank of hop h.
use Rattle.std.specs.Prelude.{ℕ, ◌-◌, ◌≤◌, ◌<◌, ◌≡◌, Bool, true, cond, not, ◌||◌, ◌&&◌, List, [], ◌∷◌, ◌⊎◌, eqb, ltb, length, get_or}
use Rattle.theory.specs.Results.{has, of, sets}
use Rattle.theory.specs.Routes.{Route, Answer}

-- The rank of hop h: the number lent for it, or, where none is, its own. So with an empty list ranks are hop numbers.
abbrev pub rank_of : List ℕ → ℕ → ℕ
rank_of ranks h = get_or ranks h h

-- Of two hops the second if its rank is lower, else the first.
abbrev pub better : List ℕ → ℕ → ℕ → ℕ
better ranks h k = cond (ltb (rank_of ranks k) (rank_of ranks h)) k h

-- The hop of lowest rank among h and those of a list; of two of one rank, the first.
unfoldable pub best : List ℕ → ℕ → List ℕ → ℕ
best ranks h [] = h
best ranks h (k ∷ s) = best ranks (better ranks h k) s

-- The hop of lowest rank of a set.
abbrev pub lowest : List ℕ → List ℕ → ℕ
lowest ranks [] = 0
lowest ranks (h ∷ s) = best ranks h s

-- The hop of a route is one of the candidates of its prefix, where address x is answered by f x, and none of them has a lower rank.
pub record RankedFirst (ranks : List ℕ) (w : ℕ) (f : ℕ → Answer) (r : Route) : Type 0 where
  pub candidates : List ℕ
  pub are : sets f (w - r.len) r.addr ≡ of candidates
  pub one : has r.hop candidates ≡ true
  pub first : (k : ℕ) → has k candidates ≡ true → rank_of ranks r.hop ≤ rank_of ranks k

-- A worked case: hop 0 has rank 1, hop 1 rank 2 and hop 2 rank 0, so that 2 is chosen; read the other way round the list would choose 1.
abbrev pub three_ranks : List ℕ
three_ranks = 1 ∷ 2 ∷ 0 ∷ []

-- Each of the numbers below n once.
pub record EachOnce (n : ℕ) (ranks : List ℕ) : Type 0 where
  pub count : length ranks ≡ n
  pub low : (h : ℕ) → h < n → get_or ranks h 0 < n
  pub once : (h k : ℕ) → h < n → k < n → get_or ranks h 0 ≡ get_or ranks k 0 → h ≡ k
  pub each : (r : ℕ) → r < n → (h : ℕ) × (h < n) × (get_or ranks h 0 ≡ r)

-- Ranks as they may be lent, of n hops: none, or each of the numbers below n once.
abbrev pub Ranking : ℕ → List ℕ → Type 0
Ranking n ranks = (ranks ≡ []) ⊎ EachOnce n ranks

-- Are the numbers of a list all below n, and is none of them there twice?
abbrev pub differing : ℕ → List ℕ → Bool
differing n [] = true
differing n (r ∷ rs) = (ltb r n && not (has r rs)) && differing n rs

-- Are these ranks that may be lent?
abbrev pub is_ranking : ℕ → List ℕ → Bool
is_ranking n ranks = eqb (length ranks) 0 || (eqb (length ranks) n && differing n ranks)
