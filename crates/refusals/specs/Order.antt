-- The order in which the conditions for a refusal are checked, one for all calls, and which of those that hold is the first.
use Rattle.std.specs.Prelude.{ℕ, zero, suc, ◌<◌, ◌≡◌, Bool, false, cond, ◌||◌, List, [], ◌∷◌, ◌⊎◌, eqb}

-- The numbers by their places, the first checked first. Numbers of one place that one call gives go record by record; 1 and 16, of no record, exclude each other.
abbrev pub places : List (List ℕ)
places =
    (14 ∷ 18 ∷ [])
    ∷ (1 ∷ 16 ∷ [])
    ∷ (2 ∷ [])
    ∷ (15 ∷ [])
    ∷ (3 ∷ [])
    ∷ (4 ∷ [])
    ∷ (5 ∷ 6 ∷ 7 ∷ 8 ∷ [])
    ∷ (9 ∷ [])
    ∷ (17 ∷ [])
    ∷ (10 ∷ [])
    ∷ (11 ∷ [])
    ∷ (12 ∷ [])
    ∷ (23 ∷ [])
    ∷ (24 ∷ [])
    ∷ (25 ∷ 26 ∷ 27 ∷ 28 ∷ [])
    ∷ (13 ∷ [])
    ∷ []

-- Is the number in the list?
abbrev pub among : ℕ → List ℕ → Bool
among n [] = false
among n (m ∷ ms) = eqb n m || among n ms

-- At which of the places the number stands, counted from 0; behind them all, where at none.
abbrev pub place_in : List (List ℕ) → ℕ → ℕ
place_in [] n = zero
place_in (ms ∷ more) n = cond (among n ms) zero (suc (place_in more n))

-- The rank of a number.
unfoldable pub rank : ℕ → ℕ
rank n = place_in places n

-- m at i is checked before n at j: by their ranks and, in one rank, by the records, then by the numbers.
abbrev pub Earlier : ℕ → ℕ → ℕ → ℕ → Type 0
Earlier m i n j = (rank m < rank n) ⊎ ((rank m ≡ rank n) × ((i < j) ⊎ ((i ≡ j) × (m < n))))

-- n at i is the first that holds: it does, and none before it does.
abbrev pub First : (ℕ → ℕ → Type 0) → ℕ → ℕ → Type 0
First Holds n i = Holds n i × ((m j : ℕ) → Earlier m j n i → Holds m j → ⊥)

-- None holds.
abbrev pub None : (ℕ → ℕ → Type 0) → Type 0
None Holds = (n i : ℕ) → Holds n i → ⊥
