-- Laws of laying bytes over a list: records that are written one after another are the bytes of their routes. Assumes nothing.
use mathlib.Core.Path.{◌≡◌, sym, ap, ap₂, ◌∙◌}
use mathlib.Core.List.{List, [], ◌++◌, append-nil, append_assoc}
use Prim.Native.Nat.{ℕ, ◌+◌, ◌-◌, ◌≤◌}
use native.Mathlib.Nat.{add_assoc}
use native.Mathlib.Omega.{arith}
use lib.ListN.{length, take, drop, length-append, length-drop, take-append-drop, drop_of_length-le}
use lib.Seq.{length-take-le, take_all, take_at, drop_at, drop-drop, take-add}
use Rattle.records.specs.Sized.{laid}

-- Nothing laid changes nothing.
pub laid_none : (k : ℕ) (o : List ℕ) → laid k [] o ≡ o
unfolding laid
laid_none k o =
    let e : k + 0 ≡ k = omega arith in
    ap (λ (m : ℕ). take k o ++ drop m o) e ∙ take-append-drop k o

module _ (k : ℕ) (bs o : List ℕ) (fits : k + length bs ≤ length o) where
  -- The length stays.
  pub length-laid : length (laid k bs o) ≡ length o
  unfolding laid
  length-laid =
      let e = length-take-le k o (omega arith) in
      simp (length-append, length-drop) (omega arith)

  seam : length (take k o ++ bs) ≡ k + length bs
  seam = let e = length-take-le k o (omega arith) in simp length-append (omega arith)

  -- Up to its end the list is what was before it and what is laid.
  pub take-laid : take (k + length bs) (laid k bs o) ≡ take k o ++ bs
  unfolding laid
  take-laid = ap (take (k + length bs)) (sym (append_assoc (take k o) bs (drop (k + length bs) o))) ∙ take_at (take k o ++ bs) (drop (k + length bs) o) (k + length bs) seam

  -- Behind what is laid the list is as it was.
  pub drop-laid : drop (k + length bs) (laid k bs o) ≡ drop (k + length bs) o
  unfolding laid
  drop-laid = ap (drop (k + length bs)) (sym (append_assoc (take k o) bs (drop (k + length bs) o))) ∙ drop_at (take k o ++ bs) (drop (k + length bs) o) (k + length bs) seam

-- What is laid behind what was laid is laid with it.
pub laid_then : (k : ℕ) (bs cs o : List ℕ) → k + length bs + length cs ≤ length o → laid (k + length bs) cs (laid k bs o) ≡ laid k (bs ++ cs) o
unfolding laid
laid_then k bs cs o fits =
    let n = length-append bs cs in
    let both : k + length bs + length cs ≡ k + length (bs ++ cs) = omega arith in
    let behind : drop (k + length bs + length cs) (laid k bs o) ≡ drop (k + length (bs ++ cs)) o =
    sym (drop-drop (length cs) (k + length bs) (laid k bs o))
    ∙ ap (drop (length cs)) (drop-laid k bs o (omega arith))
    ∙ drop-drop (length cs) (k + length bs) o
    ∙ ap (λ (m : ℕ). drop m o) both in
    ap₂ (λ (a b : List ℕ). a ++ (cs ++ b)) (take-laid k bs o (omega arith)) behind
    ∙ append_assoc (take k o) bs (cs ++ drop (k + length (bs ++ cs)) o)
    ∙ ap (λ (l : List ℕ). take k o ++ l) (sym (append_assoc bs cs (drop (k + length (bs ++ cs)) o)))

-- What is laid on the part from place j on is laid on the whole.
pub laid_tail : (j k : ℕ) (bs o : List ℕ) → take j o ++ laid k bs (drop j o) ≡ laid (j + k) bs o
unfolding laid
laid_tail j k bs o =
    ap (λ (l : List ℕ). take j o ++ (take k (drop j o) ++ (bs ++ l)))
    (drop-drop (k + length bs) j o ∙ ap (λ (m : ℕ). drop m o) (sym (add_assoc j k (length bs))))
    ∙ sym (append_assoc (take j o) (take k (drop j o)) (bs ++ drop (j + k + length bs) o))
    ∙ ap (λ (l : List ℕ). l ++ (bs ++ drop (j + k + length bs) o)) (sym (take-add j k o))

-- What is laid on the part from place j on, as a call is lent it, is laid on the whole once the part is back.
pub laid_lent : (j k : ℕ) (bs o : List ℕ) → j ≤ length o
    → take j o ++ (laid k bs (take (length o - j) (drop j o)) ++ drop (length o - j) (drop j o)) ≡ laid (j + k) bs o
laid_lent j k bs o le =
    let n : length (drop j o) ≡ length o - j = length-drop j o in
    let all : take (length o - j) (drop j o) ≡ drop j o = take_all (length o - j) (drop j o) (omega arith) in
    let none : drop (length o - j) (drop j o) ≡ [] = drop_of_length-le (drop j o) {i = length o - j} (omega arith) in
    rw (all, none, append-nil) (laid_tail j k bs o)
