-- What the coverage sweeps answer, position by position, on every word. Bit 31 of a word of positions is no position, and each says what
-- becomes of it.
use Rattle.std.specs.Prelude.{ℕ, suc, ◌-◌, ◌/◌, ◌^◌, ◌≤◌, ◌<◌, ◌≡◌, false, not, ◌&&◌, ◌||◌}
use Rattle.words.specs.Bits.{bit}
use Rattle.words.specs.Positions.{position, under, whole}
use Rattle.words.specs.Rules.{stray}

-- `covered` has the positions, and `slots` the child slots, that stand strictly below a member of d.
pub record UnderMembers (d covered slots : ℕ) : Type 0 where
  pub inside : (l j : ℕ) → l ≤ 4 → j < 2 ^ l → bit covered (position l j) ≡ under d l j
  pub slot : (c : ℕ) → c < 32 → bit slots c ≡ (stray d c || under d 5 c)
  pub top : bit covered 31 ≡ false

-- r has the positions that the members d and the covered child slots cc cover wholly.
pub record WhollyCovered (d cc r : ℕ) : Type 0 where
  pub inside : (l j : ℕ) → l ≤ 4 → j < 2 ^ l → bit r (position l j) ≡ whole d cc (5 - l) j
  pub top : bit r 31 ≡ bit d 31

-- r has the positions whose parent is in x.
pub record ParentCovered (x r : ℕ) : Type 0 where
  pub root : bit r (position 0 0) ≡ false
  pub below : (l j : ℕ) → suc l ≤ 4 → j < 2 ^ suc l → bit r (position (suc l) j) ≡ bit x (position l (j / 2))
  pub top : bit r 31 ≡ false

-- r has the bits of x that neither p nor c has.
abbrev pub Kept : ℕ → ℕ → ℕ → ℕ → Type 0
Kept x p c r = (k : ℕ) → k < 32 → bit r k ≡ (bit x k && not (bit p k) && not (bit c k))
