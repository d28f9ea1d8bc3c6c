-- The rules of the folds and pushes, once over the level. Below the position numbered k stand those numbered 2 * k + 1 and 2 * k + 2.
use Rattle.std.specs.Prelude.{ℕ, ◌+◌, ◌-◌, ◌*◌, ◌/◌, ◌<◌, ◌≡◌, Bool, ◌&&◌, ◌||◌, eqb}
use Rattle.words.specs.Bits.{bit}
use Rattle.words.specs.Positions.{at_level, first}

-- What the fold of x into level l has at bit k: a position of that level is set when both below it are set in x.
abbrev pub fold_bit : ℕ → ℕ → ℕ → Bool
fold_bit l x k = at_level l k && (bit x (2 * k + 1 - first (l + 1)) && bit x (2 * k + 2 - first (l + 1)))

-- What the push of x out of level l has at bit k: a position of level l + 1 is set when the one above it is set in x.
abbrev pub push_bit : ℕ → ℕ → ℕ → Bool
push_bit l x k = at_level (l + 1) (k + first (l + 1)) && bit x ((k + first (l + 1) - 1) / 2)

-- Bit 31 of a word of positions is no position. The push into the slots sends it to slots 16 and 17.
abbrev pub stray : ℕ → ℕ → Bool
stray x c = eqb (c / 2) 8 && bit x 31

-- r is the fold of x into level l: the rule at each of its 32 bits.
abbrev pub Folded : ℕ → ℕ → ℕ → Type 0
Folded l x r = (k : ℕ) → k < 32 → bit r k ≡ fold_bit l x k

-- r is the push of x out of level l, one of 0 to 3: the rule at each of its 32 bits.
abbrev pub Pushed : ℕ → ℕ → ℕ → Type 0
Pushed l x r = (k : ℕ) → k < 32 → bit r k ≡ push_bit l x k

-- r is the push of x out of level 4, into the slots: the rule, and what strays.
abbrev pub PushedSlots : ℕ → ℕ → Type 0
PushedSlots x r = (c : ℕ) → c < 32 → bit r c ≡ (stray x c || push_bit 4 x c)
