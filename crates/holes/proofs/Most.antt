-- How many holes there can be: by the number of routes and the bits of the position. 1,024 routes leave at most 22,528 of 32 bits, 55,296 of 64. Over the
-- width. Assumes nothing.
use Prim.Native.Nat.{ℕ, zero, suc, ◌+◌, ◌-◌, ◌*◌, ◌^◌, ◌≤◌, ◌<◌}
use mathlib.Core.Path.{◌≡◌, refl, sym, ap, ◌∙◌}
use mathlib.Core.List.{List, [], ◌∷◌, ◌++◌}
use mathlib.Core.Logic.{inl, inr}
use native.Mathlib.Nat.{pow-suc, mul_comm, mul-le-mul_left, sub-zero}
use native.Mathlib.Omega.{arith}
use lib.ListN.{length, length-append}
use Rattle.theory.specs.Results.{part}
use Rattle.theory.specs.Routes.{Route, via, head}
use Rattle.theory.specs.Shapes.{routed}
use Rattle.theory.proofs.Blocks.{pow_pos}
use Rattle.positions.specs.Runs.{is_at, inside, Run, head_hop, own}
use Rattle.positions.proofs.Runs.{AtMostOne, at_most_one, run_one, run_splits, half_run}
use Rattle.records.specs.Sized.{IsSize, width_in}
use Rattle.records.proofs.SizedReading.{width_most, in_length_from}
use Rattle.runs.specs.Runs.{run}
use Rattle.holes.specs.Holes.{address_in, holes_in, holes_at}
use Rattle.holes.specs.Kinds.{Position}
use Rattle.holes.proofs.Walk.{holes-empty, holes-own, holes_halves}

-- ---- The three kinds of a position, by its run.

-- What the holes of a position are counted from.
data Kind (w : ℕ) (t : List Route) (a : ℕ) : ℕ → Type 0 where
  -- It is a hole.
  bare : {n : ℕ} → length t ≡ 0 → length (holes_in w t n a) ≡ 1 → Kind w t a n
  -- It has a route of its own.
  taken : {n : ℕ} → length (holes_in w t n a) ≡ 0 → (n ≡ 0 → length t ≡ 1) → Kind w t a n
  -- Its holes are those of its halves.
  halved : {n : ℕ} → 0 < length t → length t ≡ length (inside w n a t) + length (inside w n (a + 2 ^ n) t)
      → length (holes_in w t (suc n) a) ≡ length (holes_in w (inside w n a t) n a) + length (holes_in w (inside w n (a + 2 ^ n) t) n (a + 2 ^ n))
      → Kind w t a (suc n)

module _ (w : ℕ) where
  -- A position of one address has one route at the most.
  one_route : {a : ℕ} {t : List Route} → Run w 0 a t → length t ≤ 1
  one_route {a} {t} run = go (at_most_one w 0 a run.table) (ap length (run_one run.within))
    where
      go : {s : List Route} → AtMostOne w 0 a s → length t ≡ length s → length t ≤ 1
      go (inl e) q = let f = ap length e in omega arith
      go (inr (r, e, l, q')) q = let f = ap length e in omega arith

  kind : (n a : ℕ) (t : List Route) → Run w n a t → Kind w t a n
  kind n a [] run = bare refl (ap length (holes-empty w n a))
  kind zero a (r ∷ t) run =
      let one : length (r ∷ t) ≡ 1 = omega (arith, one_route run) in
      let at : own w 0 a (r ∷ t) ≡ via r.hop = ap head_hop (sym (run_one run.within)) in
      taken (ap length (holes-own run (ap routed at))) (λ e. one)
  kind (suc n) a (r ∷ t) run = go (part (is_at w (suc n) a) (r ∷ t)) refl
    where
      go : (s : List Route) → part (is_at w (suc n) a) (r ∷ t) ≡ s → Kind w (r ∷ t) a (suc n)
      go [] e =
          halved (omega arith)
          (ap length (run_splits run ∙ ap (λ (u : List Route). u ++ (inside w n a (r ∷ t) ++ inside w n (a + 2 ^ n) (r ∷ t))) e)
          ∙ length-append (inside w n a (r ∷ t)) (inside w n (a + 2 ^ n) (r ∷ t)))
          (ap length (holes_halves run head (ap head_hop e))
          ∙ length-append (holes_in w (inside w n a (r ∷ t)) n a) (holes_in w (inside w n (a + 2 ^ n) (r ∷ t)) n (a + 2 ^ n)))
      go (s ∷ u) e = taken (ap length (holes-own run (ap (λ (v : List Route). routed (head_hop v)) e))) (λ z. absurd (omega arith))

  -- ---- By a path of n bits for each route.
  pub holes_paths : (n a : ℕ) (t : List Route) → Run w n a t → length (holes_in w t n a) + length t ≤ length t * n + 1
  holes_paths zero a t run = go (kind zero a t run)
    where
      go : Kind w t a zero → length (holes_in w t zero a) + length t ≤ length t * zero + 1
      go (bare e h) = omega arith
      go (taken h e) = let one = e refl in omega arith
  holes_paths (suc n) a t run =
      go (kind (suc n) a t run) (holes_paths n a (inside w n a t) (half_run run a (inl refl)))
      (holes_paths n (a + 2 ^ n) (inside w n (a + 2 ^ n) t) (half_run run (a + 2 ^ n) (inr refl)))
    where
      step : (h k k₁ k₂ h₁ h₂ : ℕ) → 0 < k → k ≡ k₁ + k₂ → h ≡ h₁ + h₂ → h₁ + k₁ ≤ k₁ * n + 1 → h₂ + k₂ ≤ k₂ * n + 1 → h + k ≤ k * suc n + 1
      step h k k₁ k₂ h₁ h₂ pos e f l r = rw (e, f) (omega arith)

      own : (h k : ℕ) → h ≡ 0 → h + k ≤ k * suc n + 1
      own h k e = omega arith

      go : Kind w t a (suc n) → length (holes_in w (inside w n a t) n a) + length (inside w n a t) ≤ length (inside w n a t) * n + 1
          → length (holes_in w (inside w n (a + 2 ^ n) t) n (a + 2 ^ n)) + length (inside w n (a + 2 ^ n) t) ≤ length (inside w n (a + 2 ^ n) t) * n + 1
          → length (holes_in w t (suc n) a) + length t ≤ length t * suc n + 1
      go (bare e h) l r = omega (arith)
      go (taken h e) l r = own (length (holes_in w t (suc n) a)) (length t) h
      go (halved pos e h) l r =
          step (length (holes_in w t (suc n) a)) (length t) (length (inside w n a t)) (length (inside w n (a + 2 ^ n) t))
          (length (holes_in w (inside w n a t) n a)) (length (holes_in w (inside w n (a + 2 ^ n) t) n (a + 2 ^ n))) pos e h l r

  -- ---- The first j bits may be shared by 2 ^ j routes: only the bits behind them count for each.
  pub holes-most : (j n a : ℕ) (t : List Route) → Run w n a t → length (holes_in w t n a) ≤ length t * (n - suc j) + 2 ^ j
  holes-most zero zero a t run = omega (arith, holes_paths zero a t run)
  holes-most zero (suc n) a t run = let e : suc n - 1 ≡ n = omega arith in rw e (omega (arith, holes_paths (suc n) a t run))
  holes-most (suc j) zero a t run = omega (arith, holes_paths zero a t run, pow_pos (suc j))
  holes-most (suc j) (suc n) a t run =
      go (kind (suc n) a t run) (holes-most j n a (inside w n a t) (half_run run a (inl refl)))
      (holes-most j n (a + 2 ^ n) (inside w n (a + 2 ^ n) t) (half_run run (a + 2 ^ n) (inr refl)))
    where
      step : (d h k k₁ k₂ h₁ h₂ : ℕ) → k ≡ k₁ + k₂ → h ≡ h₁ + h₂ → h₁ ≤ k₁ * d + 2 ^ j → h₂ ≤ k₂ * d + 2 ^ j → h ≤ k * d + 2 ^ suc j
      step d h k k₁ k₂ h₁ h₂ e f l r = rw (e, f) (omega (arith, pow-suc 2 j))

      few : (d h k : ℕ) → h ≤ 1 → h ≤ k * d + 2 ^ suc j
      few d h k e = omega (arith, pow_pos (suc j))

      same : suc n - suc (suc j) ≡ n - suc j
      same = omega arith

      go : Kind w t a (suc n) → length (holes_in w (inside w n a t) n a) ≤ length (inside w n a t) * (n - suc j) + 2 ^ j
          → length (holes_in w (inside w n (a + 2 ^ n) t) n (a + 2 ^ n)) ≤ length (inside w n (a + 2 ^ n) t) * (n - suc j) + 2 ^ j
          → length (holes_in w t (suc n) a) ≤ length t * (suc n - suc (suc j)) + 2 ^ suc j
      go (bare e h) l r = few (suc n - suc (suc j)) (length (holes_in w t (suc n) a)) (length t) (omega arith)
      go (taken h e) l r = few (suc n - suc (suc j)) (length (holes_in w t (suc n) a)) (length t) (omega arith)
      go (halved pos e h) l r =
          rw same (step (n - suc j) (length (holes_in w t (suc n) a)) (length t) (length (inside w n a t)) (length (inside w n (a + 2 ^ n) t))
          (length (holes_in w (inside w n a t) n a)) (length (holes_in w (inside w n (a + 2 ^ n) t) n (a + 2 ^ n))) e h l r)

-- ---- Of the run of a position, over the size of a record.

-- A run of at most 1,024 records has few enough to be counted.
pub holes-few : {size : ℕ} {t : List ℕ} {lo hi len key : ℕ} → Position size t lo hi len key → hi ≤ 1024 → length (holes_at size t lo hi len key) ≤ 65537
holes-few {size} {t} {lo} {hi} {len} {key} p le =
    let k = in_length_from size t lo (hi - lo) in
    let paths = holes_paths (width_in size) (width_in size - len) (address_in size key) (run size t lo hi) p.at.lies in
    let short : width_in size - len ≤ 64 = omega (arith, width_most size p.sized) in
    let most = mul-le-mul_left (length (run size t lo hi)) short in
    omega arith

-- So a whole table's do not outnumber, for each record, the bits of an address but 11, and 1,024: for 1,024 records 22,528 at 32 bits and 55,296 at 64.
pub holes_sure : {size : ℕ} {t : List ℕ} {n : ℕ} → Position size t 0 n 0 0 → length (holes_at size t 0 n 0 0) ≤ (width_in size - 11) * n + 1024
holes_sure {size} {t} {n} p =
    let k : length (run size t 0 n) ≡ n = in_length_from size t 0 (n - 0) ∙ sub-zero n in
    let bits : width_in size - 0 - 11 ≡ width_in size - 11 = omega arith in
    let most = holes-most (width_in size) 10 (width_in size - 0) (address_in size 0) (run size t 0 n) p.at.lies in
    omega (arith, rw (k, bits) at most, mul_comm n (width_in size - 11))

-- That is a number of the output's range.
pub sure_small : {size n : ℕ} → IsSize size → n ≤ 1024 → (width_in size - 11) * n + 1024 ≤ 55296
sure_small (inl e) le = rw e (omega arith)
sure_small (inr e) le = rw e (omega arith)
