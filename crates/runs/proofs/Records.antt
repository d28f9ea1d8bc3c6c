-- The records lo..hi of a table are the routes of these numbers, over the size of a record. Assumes nothing.
use Prim.Native.Nat.{ℕ, suc, ◌-◌, ◌≤◌, ◌<◌}
use mathlib.Core.Path.{◌≡◌, ap, ◌∙◌}
use mathlib.Core.Bool.{Bool, true, false}
use mathlib.Core.List.{List, [], ◌∷◌, ◌++◌}
use mathlib.Core.Logic.{◌⊎◌, inl, inr}
use native.Mathlib.Nat.{sub-zero, eq-or-lt_of_le}
use native.Mathlib.Omega.{arith}
use Rattle.theory.specs.Results.{part}
use Rattle.theory.specs.Routes.{Route, Before, Ascending, first}
use Rattle.records.specs.Sized.{records_in, route_in, routes_from_in, routes_in}
use Rattle.records.proofs.SizedReading.{in_counted}
use Rattle.runs.specs.Runs.{run}
use Rattle.theory.proofs.Numbered.{numbered, before_numbered, none_numbered, first_numbered, split_numbered, part_numbered}

module _ (size : ℕ) (t : List ℕ) where
  -- They have the laws of lists by number.
  pub run_numbered : (lo hi : ℕ) → run size t lo hi ≡ numbered (route_in size t) lo hi
  run_numbered lo hi = in_counted size t lo (hi - lo)

  -- The run of all records is the table's routes.
  pub run-whole : run size t 0 (records_in size t) ≡ routes_in size t
  unfolding routes_in
  run-whole = ap (routes_from_in size t 0) (sub-zero (records_in size t))

  -- A run that ends where it starts is empty, and one that does not has its first record.
  pub run_none : (lo hi : ℕ) → hi ≤ lo → run size t lo hi ≡ []
  run_none lo hi le = run_numbered lo hi ∙ none_numbered (route_in size t) lo hi le

  pub run-first : (lo hi : ℕ) → lo < hi → run size t lo hi ≡ route_in size t lo ∷ run size t (suc lo) hi
  run-first lo hi lt = rw (run_numbered lo hi, run_numbered (suc lo) hi) (first_numbered (route_in size t) lo hi lt)

  -- The records of an ascending run stand in the order of their numbers, and their addresses do not fall.
  pub run-before : (lo hi i j : ℕ) → Ascending (run size t lo hi) → lo ≤ i → i < j → j < hi → Before (route_in size t i) (route_in size t j)
  run-before lo hi i j o = before_numbered (route_in size t) lo hi i j (rw (run_numbered lo hi) at o)

  pub run_rises : (lo hi i j : ℕ) → Ascending (run size t lo hi) → lo ≤ i → i ≤ j → j < hi → (route_in size t i).addr ≤ (route_in size t j).addr
  run_rises lo hi i j o le ge lt = go (eq-or-lt_of_le ge)
    where
      not_after : Before (route_in size t i) (route_in size t j) → (route_in size t i).addr ≤ (route_in size t j).addr
      not_after (inl h) = omega arith
      not_after (inr h) = omega arith

      go : (i ≡ j) ⊎ (i < j) → (route_in size t i).addr ≤ (route_in size t j).addr
      go (inl e) = let q : (route_in size t i).addr ≡ (route_in size t j).addr = ap (λ (k : ℕ). (route_in size t k).addr) e in omega arith
      go (inr h) = not_after (run-before lo hi i j o le h lt)

  -- The records from one on of an ascending run ascend.
  pub run_suffix : (lo i hi : ℕ) → lo ≤ i → i ≤ hi → Ascending (run size t lo hi) → Ascending (run size t i hi)
  run_suffix lo i hi le ge o = suffix (run size t lo i) (rw (split) at o)
    where
      split : run size t lo hi ≡ run size t lo i ++ run size t i hi
      split = rw (run_numbered lo hi, run_numbered lo i, run_numbered i hi) (split_numbered (route_in size t) lo i hi le ge)

      suffix : (s : List Route) {u : List Route} → Ascending (s ++ u) → Ascending u
      suffix [] a = a
      suffix (r ∷ s) (first b a) = suffix s a

  -- A test that the records i..j pass, and no others of the run.
  pub run-part : (p : Route → Bool) (lo i j hi : ℕ) → lo ≤ i → i ≤ j → j ≤ hi → ((k : ℕ) → i ≤ k → k < j → p (route_in size t k) ≡ true)
      → ((k : ℕ) → lo ≤ k → k < hi → ((i ≤ k) × (k < j) → ⊥) → p (route_in size t k) ≡ false) → part p (run size t lo hi) ≡ run size t i j
  run-part p lo i j hi a b c pass fail = rw (run_numbered lo hi, run_numbered i j) (part_numbered (route_in size t) p lo i j hi a b c pass fail)
