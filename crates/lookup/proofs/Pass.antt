-- The pass over a table's records that counts the addresses held: its start, one more record, its end. Assumes nothing.
use mathlib.Core.Path.{◌≡◌, refl, sym, ap, ap₂}
use mathlib.Core.Bool.{false}
use mathlib.Core.List.{List}
use Prim.Native.Nat.{ℕ, ◌+◌, ◌-◌, ◌^◌, ◌≤◌, ◌<◌}
use native.Mathlib.Omega.{arith}
use Rattle.theory.specs.Routes.{Valid, All, Table}
use Rattle.theory.specs.Reach.{reach}
use Rattle.theory.proofs.Pass.{end_of, count_from, count_none, count-inside, count_past, count-reach}
use Rattle.theory.proofs.Reach.{reach-most}
use Rattle.refusals.specs.Rules.{gives}
use Rattle.records.specs.Wire.{records, route_at, routes}
use Rattle.records.specs.Sized.{Bytes}
use Rattle.records.specs.declared.Form.{Form}
use Rattle.records.proofs.Reading.{rest, rest_end, rest_all, rest_next}
use Rattle.table.specs.Checking.{check_reply}
use Rattle.table.proofs.AtEight.{accepted-table}

module _ (t : List ℕ) where
  -- Before record i: what is counted, and what the pass counts of the records from there on, make the addresses held.
  abbrev pub Passing : ℕ → ℕ → ℕ → Type 0
  Passing held end i = held + count_from 32 end (rest t i) ≡ reach 32 (routes t)

  pub pass_start : Table 32 (routes t) → Passing 0 0 0 × All (Valid 32) (rest t 0)
  pass_start ok = rw (rest_all t 0 refl) (omega (arith, count-reach 32 ok), ok.valid)

  pub pass_end : (held end i : ℕ) → i ≡ records t → Passing held end i → held ≡ reach 32 (routes t)
  pass_end held end i e p = omega (arith, ap (count_from 32 end) (rest_end t i e), count_none 32 end, p)

  module _ (held end i : ℕ) (lt : i < records t) (p : Passing held end i) where
    -- Record i starts before the end.
    pub pass_inside : (route_at t i).addr < end → Passing held end (i + 1)
    pass_inside h = omega (arith, p, ap (count_from 32 end) (rest_next t i lt), count-inside 32 end (route_at t i) (rest t (i + 1)) h)

    -- It starts at the end or past it.
    pub pass_past : (start size : ℕ) → start ≡ (route_at t i).addr → size ≡ 2 ^ (32 - (route_at t i).len) → end ≤ start
        → Passing (held + size) (start + size) (i + 1)
    pass_past start size es ez h =
        let e : count_from 32 (start + size) (rest t (i + 1)) ≡ count_from 32 (end_of 32 (route_at t i)) (rest t (i + 1)) =
        ap₂ (λ (a s : ℕ). count_from 32 (a + s) (rest t (i + 1))) es ez in
        omega (arith, p, ap (count_from 32 end) (rest_next t i lt), count_past 32 end (route_at t i) (rest t (i + 1)) (omega arith))

  -- The count so far is at most 2 ^ 32.
  pub pass_most : (held end i : ℕ) → Passing held end i → held ≤ 2 ^ 32
  pass_most held end i p = omega (arith, p, reach-most 32 (routes t))

  -- So the addresses that an accepted table of k records holds can be computed.
  pub pass_counts : Bytes t → (form : Form) (k : ℕ) → check_reply form false t ≡ gives k → reach 32 (routes t) ≡ count_from 32 0 (routes t)
  pass_counts bytes form k ok = sym (count-reach 32 (accepted-table (records t) k form false t bytes ok).0.table)
