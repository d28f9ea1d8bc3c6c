-- The bits of a word. A word is a number; the words of the code are those below 2 ^ 32.
use Rattle.std.specs.Prelude.{ℕ, ◌-◌, ◌/◌, ◌%◌, ◌^◌, ◌≤◌, ◌<◌, ◌≡◌, Bool, true, false, ◌||◌, eqb}

-- Is bit k of x set?
unfoldable pub bit : ℕ → ℕ → Bool
bit x k = eqb (x / 2 ^ k % 2) 1

-- r is x with bit k set.
abbrev pub WithBit : ℕ → ℕ → ℕ → Type 0
WithBit x k r = (i : ℕ) → i < 32 → bit r i ≡ (eqb i k || bit x i)

-- r is the first set bit of x from bit k on, or 32 where there is none.
pub record NextBit (x k r : ℕ) : Type 0 where
  pub low : k ≤ r
  pub high : r ≤ 32
  pub clear : (i : ℕ) → k ≤ i → i < r → bit x i ≡ false
  pub is_set : r < 32 → bit x r ≡ true

-- r is one past the last set bit of x below bit k, or 0 where there is none.
pub record LastBit (x k r : ℕ) : Type 0 where
  pub high : r ≤ k
  pub clear : (i : ℕ) → r ≤ i → i < k → bit x i ≡ false
  pub is_set : 0 < r → bit x (r - 1) ≡ true
