-- One turn of each laying loop.
use Prim.Native.Nat.{ℕ, suc, ◌+◌, ◌-◌, ◌≤◌, ◌<◌}
use mathlib.Core.Path.{◌≡◌, sym, ap, ap₂, ◌∙◌}
use mathlib.Core.Bool.{true, false, cond}
use mathlib.Core.List.{List, [], ◌∷◌, ◌++◌}
use mathlib.Core.Logic.{⊎_elim}
use native.Mathlib.Decide.{dec_lt}
use native.Mathlib.Omega.{arith}
use lib.Dec.{eqb, leb}
use lib.ListN.{length, get_or, set, take, drop}
use lib.Seq.{slice, slice_empty}
use borrow.Author.Tests.{eq-eqb}
use Rattle.theory.specs.Results.{has, union, common}
use Rattle.theory.specs.Shapes.{Above, Sorted}
use Rattle.hopruns.specs.Runs.{Run}
use Rattle.hopruns.proofs.Merge.{shared_step, run-cons, run-next, run_step, length_if, above_low, union_left, union_right, apart-left, apart-right, apart_not}
use Rattle.hopruns.proofs.Laying.{Laying, laying_more, laying_get_d, word_put}

-- ---- What is shared.

pub record Sharing (o : List ℕ) (a e b f at : ℕ) (work : List ℕ) (n i j : ℕ) : Type 0 where
  pub left : Run o i e
  pub right : Run o j f
  pub low : a ≤ i
  pub low' : b ≤ j
  pub laying : Laying (common (slice a e o) (slice b f o)) at n (common (slice i e o) (slice j f o)) o work

pub sharing_step : {o work : List ℕ} {a e b f at n i j : ℕ} (s : Sharing o a e b f at work n i j) (x y : ℕ) (work' : List ℕ)
    → i < e → j < f → x ≡ get_or o i 0 → y ≡ get_or o j 0
    → work' ≡ take n work ++ (cond (eqb x y) (x ∷ []) [] ++ drop (n + cond (eqb x y) 1 0) work)
    → Sharing o a e b f at work' (n + cond (eqb x y) 1 0) (i + cond (leb x y) 1 0) (j + cond (leb y x) 1 0)
sharing_step {o} {work} {a} {e} {b} {f} {at} {n} {i} {j} s x y work' lt lt' ex ey laid =
    let step : common (slice i e o) (slice j f o) ≡ cond (eqb x y) (x ∷ []) [] ++ common (slice (i + cond (leb x y) 1 0) e o) (slice (j + cond (leb y x) 1 0) f o) =
    rw (ex, ey) (shared_step o i e j f s.left s.right lt lt') in
    let ws : List ℕ = cond (eqb x y) (x ∷ []) [] in
    let size : length ws ≡ cond (eqb x y) 1 0 = length_if (eqb x y) x in
    let l : Laying (common (slice a e o) (slice b f o)) at n (ws ++ common (slice (i + cond (leb x y) 1 0) e o) (slice (j + cond (leb y x) 1 0) f o)) o work = rw step at s.laying in
    let put : work' ≡ take n work ++ (ws ++ drop (n + length ws) work) = laid ∙ ap (λ (k : ℕ). take n work ++ (ws ++ drop (n + k) work)) (sym size) in
    let more = laying_more ws (common (slice (i + cond (leb x y) 1 0) e o) (slice (j + cond (leb y x) 1 0) f o)) work' l put in
    record {
      left = run_step o i e (leb x y) s.left lt;
      right = run_step o j f (leb y x) s.right lt';
      low = omega (arith, s.low);
      low' = omega (arith, s.low');
      laying = rw size at more;
    }

-- ---- What is in either.

-- One word taken from the first of two runs that share none, or from the second: it stands at `from`, and the runs begin at i' and j' then.
pub record Took (o : List ℕ) (i e j f from i' j' : ℕ) : Type 0 where
  pub taken : union (slice i e o) (slice j f o) ≡ get_or o from 0 ∷ union (slice i' e o) (slice j' f o)
  pub first : Run o i' e
  pub second : Run o j' f
  pub low : i ≤ i'
  pub low' : j ≤ j'
  pub apart : common (slice i' e o) (slice j' f o) ≡ []
  pub fewer : ((e - i') + (f - j')) + 1 ≡ (e - i) + (f - j)

module _ (o : List ℕ) (i e j f : ℕ) (r : Run o i e) (q : Run o j f) (none : common (slice i e o) (slice j f o) ≡ []) where
  took_left : i < e → Above (get_or o i 0) (slice j f o) → Took o i e j f i (i + 1) j
  took_left lt above =
      let c = run-cons o i e r lt in
      let s : Sorted (get_or o i 0 ∷ slice (suc i) e o) = rw c at r.sorted in
      let z : i + 1 ≡ suc i = omega arith in
      let u : common (get_or o i 0 ∷ slice (suc i) e o) (slice j f o) ≡ [] = ap (λ (v : List ℕ). common v (slice j f o)) (sym c) ∙ none in
      record {
        taken = rw z (ap (λ (v : List ℕ). union v (slice j f o)) c ∙ union_left (get_or o i 0) (slice (suc i) e o) (slice j f o) s.0 above);
        first = rw z (run-next o i e r lt);
        second = q;
        low = omega arith;
        low' = omega arith;
        apart = rw z (apart-left (get_or o i 0) (slice (suc i) e o) (slice j f o) u);
        fewer = omega (arith, r.order);
      }

  took_right : j < f → Above (get_or o j 0) (slice i e o) → Took o i e j f j i (j + 1)
  took_right lt above =
      let c = run-cons o j f q lt in
      let z : j + 1 ≡ suc j = omega arith in
      let u : common (slice i e o) (get_or o j 0 ∷ slice (suc j) f o) ≡ [] = ap (λ (v : List ℕ). common (slice i e o) v) (sym c) ∙ none in
      record {
        taken = rw z (ap (λ (v : List ℕ). union (slice i e o) v) c ∙ union_right (get_or o j 0) (slice i e o) (slice (suc j) f o) above);
        first = r;
        second = rw z (run-next o j f q lt);
        low = omega arith;
        low' = omega arith;
        apart = rw z (apart-right (get_or o j 0) (slice i e o) (slice (suc j) f o) u);
        fewer = omega (arith, q.order);
      }

  -- A run from i on that begins above h.
  above-run : (h k g : ℕ) → Run o k g → (k < g → h < get_or o k 0) → Above h (slice k g o)
  above-run h k g p lt = go (dec_lt k g)
    where
      go : Dec (k < g) → Above h (slice k g o)
      go (yes l) =
          let s : Sorted (get_or o k 0 ∷ slice (suc k) g o) = rw (run-cons o k g p l) at p.sorted in
          rw (run-cons o k g p l) (lt l, above_low h (get_or o k 0) (slice (suc k) g o) (lt l) s.0)
      go (no ge) = let z : k ≡ g = omega (arith, p.order) in rw (z, slice_empty g o) tt

  -- The first words are not the same.
  differ : i < e → j < f → get_or o i 0 ≡ get_or o j 0 → ⊥
  differ lt lt' same =
      let u : common (get_or o i 0 ∷ slice (suc i) e o) (get_or o j 0 ∷ slice (suc j) f o) ≡ [] = sym (ap₂ common (run-cons o i e r lt) (run-cons o j f q lt')) ∙ none in
      let n : has (get_or o i 0) (get_or o j 0 ∷ slice (suc j) f o) ≡ false = apart_not (get_or o i 0) (slice (suc i) e o) (get_or o j 0 ∷ slice (suc j) f o) u in
      let m : has (get_or o i 0) (get_or o j 0 ∷ slice (suc j) f o) ≡ true = rw (eq-eqb (get_or o i 0) (get_or o j 0) same) in
      let z : ◌≡◌ {A = ℕ} 0 1 = cc in
      omega arith

  -- By the tests of the code.
  pub either_left : i < e → (j < f → get_or o i 0 < get_or o j 0) → Took o i e j f i (i + 1) j
  either_left lt first = took_left lt (above-run (get_or o i 0) j f q first)

  pub either_right : j < f → (i < e → get_or o j 0 ≤ get_or o i 0) → Took o i e j f j i (j + 1)
  either_right lt first =
      took_right lt (above-run (get_or o j 0) i e r (λ l. ⊎_elim (λ s. absurd (differ l lt (sym s))) (λ less. less) (native.Mathlib.Nat.eq-or-lt_of_le (first l))))

pub record Joining (o : List ℕ) (a e b f at : ℕ) (work : List ℕ) (n i j : ℕ) : Type 0 where
  pub left : Run o i e
  pub right : Run o j f
  pub low : a ≤ i
  pub low' : b ≤ j
  pub apart : common (slice i e o) (slice j f o) ≡ []
  pub count : n + ((e - i) + (f - j)) ≡ at + ((e - a) + (f - b))
  pub laying : Laying (union (slice a e o) (slice b f o)) at n (union (slice i e o) (slice j f o)) o work

pub joining_step : {o work : List ℕ} {a e b f at n i j : ℕ} (s : Joining o a e b f at work n i j) (from i' j' x : ℕ) (work' : List ℕ)
    → Took o i e j f from i' j' → x ≡ get_or o from 0 → work' ≡ take n work ++ (x ∷ [] ++ drop (n + 1) work)
    → Joining o a e b f at work' (n + 1) i' j'
joining_step {o} {work} {a} {e} {b} {f} {at} {n} {i} {j} s from i' j' x work' t ex put =
    let rest : List ℕ = union (slice i' e o) (slice j' f o) in
    let step : union (slice i e o) (slice j f o) ≡ x ∷ rest = t.taken ∙ ap (λ (k : ℕ). k ∷ rest) (sym ex) in
    let l : Laying (union (slice a e o) (slice b f o)) at n (x ∷ [] ++ rest) o work = rw step at s.laying in
    record {
      left = t.first;
      right = t.second;
      low = omega (arith, s.low, t.low);
      low' = omega (arith, s.low', t.low');
      apart = t.apart;
      count = omega (arith, s.count, t.fewer);
      laying = laying_more (x ∷ []) rest work' l put;
    }

-- The word at the start of either run, as the room is, is laid next.
module _ {o work : List ℕ} {a e b f at n i j : ℕ} (s : Joining o a e b f at work n i j) (lt : n < at + ((e - a) + (f - b)))
    (la : at + ((e - a) + (f - b)) ≤ a) (lb : at + ((e - a) + (f - b)) ≤ b) (fits : n < length work) where
  first_is : get_or work i 0 ≡ get_or o i 0
  first_is = laying_get_d s.laying i (omega (arith, s.low))

  second_is : get_or work j 0 ≡ get_or o j 0
  second_is = laying_get_d s.laying j (omega (arith, s.low'))

  pub joining_left : i < e → (j < f → get_or work i 0 < get_or work j 0) → Joining o a e b f at (set work n (get_or work i 0)) (n + 1) (i + 1) j
  joining_left l first =
      joining_step s i (i + 1) j (get_or work i 0) (set work n (get_or work i 0))
      (either_left o i e j f s.left s.right s.apart l (λ m. omega (arith, first m, first_is, second_is)))
      first_is (word_put work n (get_or work i 0) fits)

  pub joining_right : (i < e → (j < f) × (get_or work j 0 ≤ get_or work i 0)) → Joining o a e b f at (set work n (get_or work j 0)) (n + 1) i (j + 1)
  joining_right second =
      joining_step s j i (j + 1) (get_or work j 0) (set work n (get_or work j 0))
      (either_right o i e j f s.left s.right s.apart some (λ m. omega (arith, (second m).1, first_is, second_is)))
      second_is (word_put work n (get_or work j 0) fits)
    where
      some : j < f
      some = go (dec_lt i e)
        where
          go : Dec (i < e) → j < f
          go (yes m) = (second m).0
          go (no m) = omega (arith, s.count)
