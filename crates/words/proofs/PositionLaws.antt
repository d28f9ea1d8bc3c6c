-- Positions by level and index: where each stands in its level, what stands above and below it, and the rules of the folds and pushes read
-- at a position. Assumes nothing.
use mathlib.Core.Path.{◌≡◌, ap, ap₂, ◌∙◌}
use mathlib.Core.Bool.{Bool, true, false, cond, ◌&&◌, ◌||◌, and-false}
use Prim.Native.Nat.{ℕ, suc, ◌+◌, ◌-◌, ◌*◌, ◌/◌, ◌^◌, ◌≤◌, ◌<◌}
use native.Mathlib.Nat.{pow-suc}
use native.Mathlib.Numerals.{add-one}
use native.Mathlib.Omega.{arith}
use lib.Dec.{eqb, ltb, leb}
use lib.Pow.{pow_pos, pow_mono}
use borrow.Author.Tests.{lt-ltb, le-ltb, le-leb, lt-leb}
use Rattle.words.specs.Bits.{bit}
use Rattle.words.specs.Positions.{position, at_level, first}
use Rattle.words.specs.Rules.{stray, Folded, Pushed, PushedSlots}
use Rattle.words.proofs.BitLaws.{if_lt, if_eq}

-- ---- numbers of positions

-- A level has twice the positions of the one above it.
twice_as_many : (l : ℕ) → 2 ^ (l + 1) ≡ 2 ^ l * 2
twice_as_many l = ap (λ (n : ℕ). 2 ^ n) (add-one l) ∙ pow-suc 2 l

-- The 31 positions are numbered from 0 to 30.
pub in_word : (l j : ℕ) → l ≤ 4 → j < 2 ^ l → position l j < 31
in_word l j h g = let k : suc l ≤ 5 = omega arith in let p : 2 ^ suc l ≤ 2 ^ 5 = pow_mono k in omega (arith, pow-suc 2 l)

-- The level and the index of the position numbered k.
pub record Place (k : ℕ) : Type 0 where
  pub level : ℕ
  pub index : ℕ
  pub above-slots : level ≤ 4
  pub in_level : index < 2 ^ level
  pub is : k ≡ position level index

-- Each of those numbers is that of a position.
pub placed : (k : ℕ) → k < 31 → Place k
placed k h =
    if_lt (λ _. Place k) k 1 (λ a. at 0 (k - 0) (omega arith) (omega arith) (omega arith))
    (λ a. if_lt (λ _. Place k) k 3 (λ b. at 1 (k - 1) (omega arith) (omega arith) (omega arith))
    (λ b. if_lt (λ _. Place k) k 7 (λ c. at 2 (k - 3) (omega arith) (omega arith) (omega arith))
    (λ c. if_lt (λ _. Place k) k 15 (λ d. at 3 (k - 7) (omega arith) (omega arith) (omega arith))
    (λ d. at 4 (k - 15) (omega arith) (omega arith) (omega arith)))))
  where
    at : (l j : ℕ) → l ≤ 4 → j < 2 ^ l → k ≡ position l j → Place k
    at l j p q e = record { level = l; index = j; above-slots = p; in_level = q; is = e }

-- The position (m, j) stands at level m and at no other.
pub level_of : (l m j : ℕ) → j < 2 ^ m → at_level l (position m j) ≡ eqb l m
level_of l m j h = if_eq (λ t. at_level l (position m j) ≡ t) l m same other
  where
    same : l ≡ m → at_level l (position m j) ≡ true
    same e =
        let q : 2 ^ l ≡ 2 ^ m = ap (λ (n : ℕ). 2 ^ n) e in
        let a : 2 ^ l ≤ position m j + 1 = omega (arith, pow_pos m) in
        let b : position m j + 1 < 2 ^ (l + 1) = omega (arith, pow_pos m, twice_as_many l) in
        ap₂ ◌&&◌ (le-leb (2 ^ l) (position m j + 1) a) (lt-ltb (position m j + 1) (2 ^ (l + 1)) b)

    other : (l ≡ m → ⊥) → at_level l (position m j) ≡ false
    other e =
        if_lt (λ _. at_level l (position m j) ≡ false) l m
        (λ a. let i : l + 1 ≤ m = omega arith in
        let p : 2 ^ (l + 1) ≤ 2 ^ m = pow_mono i in
        let b : 2 ^ (l + 1) ≤ position m j + 1 = omega (arith, pow_pos m) in
        ap (λ (t : Bool). leb (2 ^ l) (position m j + 1) && t) (le-ltb (position m j + 1) (2 ^ (l + 1)) b)
        ∙ and-false (leb (2 ^ l) (position m j + 1)))
        (λ a. let i : m + 1 ≤ l = omega arith in
        let p : 2 ^ (m + 1) ≤ 2 ^ l = pow_mono i in
        let b : position m j + 1 < 2 ^ l = omega (arith, pow_pos m, twice_as_many m) in
        ap (λ (t : Bool). t && ltb (position m j + 1) (2 ^ (l + 1))) (lt-leb (2 ^ l) (position m j + 1) b))

-- What stands below (l, j), and above (l + 1, j).
pub below_left : (l j : ℕ) → 2 * position l j + 1 ≡ position (suc l) (2 * j)
below_left l j = omega (arith, pow-suc 2 l, pow_pos l)

pub below_right : (l j : ℕ) → 2 * position l j + 2 ≡ position (suc l) (2 * j + 1)
below_right l j = omega (arith, pow-suc 2 l, pow_pos l)

pub above : (l j : ℕ) → (position (suc l) j - 1) / 2 ≡ position l (j / 2)
above l j = omega (arith, pow-suc 2 l, pow_pos l)

-- ---- the rules at a position

-- A fold into level l: at a position of that level both below it, elsewhere nothing.
pub fold_at : (l x r : ℕ) → Folded l x r → (m j : ℕ) → j < 2 ^ m → position m j < 32 → bit r (position m j)
    ≡ (eqb l m && (bit x (position (suc m) (2 * j) - first (l + 1)) && bit x (position (suc m) (2 * j + 1) - first (l + 1))))
fold_at l x r f m j h b =
    f (position m j) b
    ∙ ap₂ ◌&&◌ (level_of l m j h)
    (ap₂ ◌&&◌ (ap (λ (n : ℕ). bit x (n - first (l + 1))) (below_left m j)) (ap (λ (n : ℕ). bit x (n - first (l + 1))) (below_right m j)))

-- A push out of level l, one of 0 to 3: at a position of the level below what stands above it, elsewhere nothing.
pub push_at : (l x r : ℕ) → l ≤ 3 → Pushed l x r → (m j : ℕ) → j < 2 ^ m → position m j < 32 → bit r (position m j)
    ≡ (eqb (suc l) m && bit x ((position m j - 1) / 2))
push_at l x r k f m j h b =
    let i : l + 1 < 5 = omega arith in
    let z : first (l + 1) ≡ 0 = ap (λ (t : Bool). cond t 0 31) (lt-ltb (l + 1) 5 i) in
    let e : position m j + first (l + 1) ≡ position m j = omega arith in
    f (position m j) b
    ∙ ap₂ ◌&&◌ (ap (at_level (l + 1)) e ∙ level_of (l + 1) m j h ∙ ap (λ (n : ℕ). eqb n m) (add-one l)) (ap (λ (n : ℕ). bit x ((n - 1) / 2)) e)

-- The push into the slots: at each slot what stands above it, and what strays.
pub push_slot : (x r : ℕ) → PushedSlots x r → (c : ℕ) → c < 32 → bit r c ≡ (stray x c || bit x (position 4 (c / 2)))
push_slot x r f c lt =
    let e : c + 31 ≡ position 5 c = omega arith in
    let q : (c + 31 - 1) / 2 ≡ position 4 (c / 2) = omega arith in
    f c lt ∙ ap (λ (t : Bool). stray x c || t) (ap₂ ◌&&◌ (ap (at_level 5) e ∙ level_of 5 5 c lt) (ap (bit x) q))

-- With bit 31 of the word clear nothing strays,
pub no_stray : (x c : ℕ) → bit x 31 ≡ false → stray x c ≡ false
no_stray x c z = ap (λ (t : Bool). eqb (c / 2) 8 && t) z ∙ and-false (eqb (c / 2) 8)

-- and a slot is marked exactly when the position above it is in the word.
pub pushed_is : (x r : ℕ) → bit x 31 ≡ false → PushedSlots x r → (c : ℕ) → c < 32 → bit r c ≡ bit x (position 4 (c / 2))
pushed_is x r z f c lt = push_slot x r f c lt ∙ ap (λ (t : Bool). t || bit x (position 4 (c / 2))) (no_stray x c z)
