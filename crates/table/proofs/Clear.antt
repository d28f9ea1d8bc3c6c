-- Bytes that are all zero, as a part of a table whose elements all are. Assumes nothing.
use mathlib.Core.Path.{◌≡◌, refl, sym, ap, ◌∙◌}
use mathlib.Core.Bool.{◌&&◌}
use mathlib.Core.List.{List}
use Prim.Native.Nat.{ℕ, zero, suc, ◌+◌, ◌-◌, ◌≤◌, ◌<◌}
use native.Mathlib.Omega.{arith}
use lib.Dec.{eqb}
use lib.ListN.{length, get_or, drop, take}
use lib.Seq.{drop-cons}
use Rattle.std.specs.List.{between, list_all}
use Rattle.records.specs.Sized.{clear}

clear_all_from : (t : List ℕ) (k n : ℕ) → k + n ≤ length t → clear t k n ≡ list_all (λ x. eqb x 0) (take n (drop k t))
unfolding clear
clear_all_from t k zero h = refl
clear_all_from t k (suc n) h =
    let inside : k < length t = omega arith in
    let more = clear_all_from t (suc k) n (omega arith) in
    ap (eqb (get_or t k 0) 0 &&◌) more ∙ ap (λ (l : List ℕ). list_all (λ x. eqb x 0) (take (suc n) l)) (sym (drop-cons t k 0 inside))

pub clear_all : (t : List ℕ) (k end : ℕ) → k ≤ end → end ≤ length t → clear t k (end - k) ≡ list_all (λ x. eqb x 0) (between k end t)
clear_all t k end low high = clear_all_from t k (end - k) (omega arith)
