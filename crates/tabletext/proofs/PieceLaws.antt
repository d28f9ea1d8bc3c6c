-- Laws of the place of a byte, and of the blanks at a beginning, as a walk finds them. Assumes nothing.
use mathlib.Core.Path.{◌≡◌, refl}
use borrow.Author.Tests.{ltb-false}
use lib.Dec.{ltb}
use Rattle.std.specs.Prelude.{not, Some, None}
use Rattle.std.specs.List.{position, position_or_len}
use Rattle.std.specs.Option.{is_some, unwrap_or}
use mathlib.Core.Bool.{Bool, true, false, cond}
use mathlib.Core.List.{List, [], ◌∷◌}
use Prim.Native.Nat.{ℕ, suc, ◌+◌, ◌*◌, ◌≤◌}
use native.Mathlib.Omega.{arith}
use lib.ListN.{length, get_or}
use Rattle.tabletext.specs.Pieces.{is, has, place, digit_from, number}

-- ---- The place of a byte.

-- It is at most the length.
pub place-most : (b : ℕ) (s : List ℕ) → place b s ≤ length s
unfolding place
place-most b [] = omega arith
place-most b (x ∷ s) = go (is b x) (place-most b s)
  where
    go : (t : Bool) → place b s ≤ length s → cond t 0 (suc (place b s)) ≤ suc (length s)
    go true h = omega arith
    go false h = omega arith

place_first : (b : ℕ) (s : List ℕ) → position_or_len (is b) s ≡ place b s
unfolding place
place_first b [] = refl
place_first b (x ∷ s) = go (is b x) (place_first b s)
  where
    go : (t : Bool) → position_or_len (is b) s ≡ place b s → cond (not t) (1 + position_or_len (is b) s) 0 ≡ cond t 0 (suc (place b s))
    go true e = refl
    go false e = omega arith

-- It is where the byte stands first, or the length.
pub place_found : (b : ℕ) (s : List ℕ) → unwrap_or (position (is b) s) (length s) ≡ place b s
place_found b s = rw (place_first b s) (go (ltb (place b s) (length s)) refl)
  where
    go : (t : Bool) → ltb (place b s) (length s) ≡ t → unwrap_or (cond t (Some (place b s)) None) (length s) ≡ place b s
    go true e = refl
    go false e = let h = ltb-false (place b s) (length s) e in let most = place-most b s in omega arith

-- It is found where the list has it.
pub has_found : (b : ℕ) (s : List ℕ) → is_some (position (is b) s) ≡ has b s
has_found b s = rw (place_first b s) (go (ltb (place b s) (length s)))
  where
    go : (t : Bool) → is_some (cond t (Some (place b s)) None) ≡ t
    go true = refl
    go false = refl

-- ---- Words of given lengths.

pub number-two : (s : List ℕ) → length s ≡ 2 → number s ≡ digit_from 1 (get_or s 0 0) * 10 + digit_from 0 (get_or s 1 0)
unfolding number
number-two s e = rw e

pub number_three : (s : List ℕ) → length s ≡ 3 → number s ≡ digit_from 1 (get_or s 0 0) * 100 + digit_from 0 (get_or s 1 0) * 10 + digit_from 0 (get_or s 2 0)
unfolding number
number_three s e = rw e
