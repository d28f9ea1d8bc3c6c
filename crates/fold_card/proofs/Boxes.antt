-- How long a line of a box is, and one box more. Assumes nothing.
use mathlib.Core.Path.{◌≡◌, refl, sym, ap, ◌∙◌}
use mathlib.Core.Bool.{Bool, true, false}
use mathlib.Core.List.{List, ◌++◌}
use Prim.Native.Nat.{ℕ, ◌+◌, ◌*◌}
use native.Mathlib.Numerals.{add-one}
use lib.ListN.{length, get_or}
use Rattle.fold_card.specs.Shown.{box_line, boxes}

-- A line of a box has seven characters.
pub box_length : (lower : Bool) (r : ℕ) → length (box_line lower r) ≡ 7
unfolding box_line
box_length true r = refl
box_length false r = refl

-- One box more.
pub boxes_more : (lower : Bool) (folds : List ℕ) (high n : ℕ) {line : List ℕ} → line ≡ box_line lower (get_or folds (high * 16 + n) 0)
    → boxes lower folds high n ++ line ≡ boxes lower folds high (n + 1)
unfolding boxes
boxes_more lower folds high n e = ap (λ (l : List ℕ). boxes lower folds high n ++ l) e ∙ ap (boxes lower folds high) (sym (add-one n))
