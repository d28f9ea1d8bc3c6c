-- The entries of the position of all addresses are the result of each mode that the engine has, and what is written of them is the end of a rewrite. Assumes
-- nothing.
use Prim.Native.Nat.{ℕ, ◌-◌, ◌*◌, ◌/◌, ◌≤◌, ◌<◌}
use mathlib.Core.Path.{◌≡◌, refl, sym, ap, ap₂, ◌∙◌}
use mathlib.Core.Bool.{Bool, true, false, true≢false, ◌||◌}
use mathlib.Core.List.{List}
use mathlib.Core.Logic.{inl, inr}
use native.Mathlib.Nat.{sub-zero}
use native.Mathlib.Omega.{arith}
use lib.Dec.{eqb}
use lib.IntN.{ℤ, pos, ◌-ℤ◌}
use lib.ListN.{length}
use borrow.Author.Tests.{ne_eqb, eqb-true, lt-ltb}
use Rattle.theory.specs.Results.{result, aggregate_map_drop, aggregate_map_fill}
use Rattle.theory.specs.Ranks.{lowest}
use Rattle.theory.specs.Routes.{Route, none, answer, filled, lookup, All, Table}
use Rattle.theory.proofs.Agree.{ortc-agree}
use Rattle.theory.proofs.Ranks.{lowest_chooses}
use Rattle.theory.proofs.Computed.{under_default}
use Rattle.theory.proofs.Lists.{all_member}
use Rattle.theory.proofs.Maximal.{set_is_drop_bare}
use Rattle.words.specs.Keys.{key_of}
use Rattle.records.specs.Sized.{IsSize, width_in, records_in, route_in, routes_in}
use Rattle.table.specs.SizedRules.{top_hop}
use Rattle.table.proofs.SizedTables.{set-hops}
use Rattle.positions.specs.Runs.{no_hop}
use Rattle.runs.specs.Runs.{run}
use Rattle.runs.proofs.Halves.{whole_run}
use Rattle.theory.proofs.Numbered.{member_numbered}
use Rattle.runs.proofs.Records.{run-whole, run_numbered}
use Rattle.calls.specs.Ending.{Fills, Finished}
use Rattle.calls.specs.Rewriting.{InUse, result_of, takes_set, records_out}
use Rattle.calls.proofs.Ending.{laid-output, long_enough, finished_written}
use Rattle.plain.specs.Conditions.{IsMode}
use Rattle.plain.specs.Output.{Put}
use Rattle.plain.specs.Positions.{Hopped, address_in, Position, answer_at, entries_at}
use Rattle.plain.specs.Rewriting.{has_mode, is_known, Bare}

-- ---- The modes.

-- A mode that the engine has.
pub mode_had : (mode : ℕ) → has_mode mode ≡ true → IsMode mode
mode_had mode e = go (eqb mode 1) refl (eqb mode 4) refl (eqb mode 5) refl e
  where
    go : (a : Bool) → eqb mode 1 ≡ a → (b : Bool) → eqb mode 4 ≡ b → (c : Bool) → eqb mode 5 ≡ c → (a || (b || c)) ≡ true → IsMode mode
    go true p b q c r e = inl (eqb-true mode 1 p)
    go false p true q c r e = inr (inl (eqb-true mode 4 q))
    go false p false q true r e = inr (inr (eqb-true mode 5 r))
    go false p false q false r e = let z : ◌≡◌ {A = ℕ} 0 1 = cc in absurd (omega arith)

-- What does not pass the test is none of them, nor the retired mode.
pub mode_not_had : (mode : ℕ) → is_known mode ≡ false → (IsMode mode → ⊥) × (mode ≡ 2 → ⊥)
mode_not_had mode e = (none_had, λ two. true≢false (rw two at e))
  where
    none_had : IsMode mode → ⊥
    none_had (inl m) = true≢false (rw m at e)
    none_had (inr (inl m)) = true≢false (rw m at e)
    none_had (inr (inr m)) = true≢false (rw m at e)

-- What passes it, and is not the retired mode, the engine has.
pub known_had : (mode : ℕ) → is_known mode ≡ true → (mode ≡ 2 → ⊥) → has_mode mode ≡ true
known_had mode e used = rw (ne_eqb mode 2 used) at e

-- They are modes in use.
pub mode_known : {mode : ℕ} → IsMode mode → InUse mode
mode_known (inl e) = (omega arith, omega arith, λ two. omega arith)
mode_known (inr (inl e)) = (omega arith, omega arith, λ two. omega arith)
mode_known (inr (inr e)) = (omega arith, omega arith, λ two. omega arith)

-- ---- A table that keeps the rules.

-- Its records' hops are hops.
pub all_hopped : (size : ℕ) (t : List ℕ) → All (λ r. r.hop < 64) (routes_in size t) → Hopped size t
all_hopped size t hops k lt =
    all_member {P = λ r. r.hop < 64} (rw (sym (run-whole size t), run_numbered size t 0 (records_in size t)) at hops)
    (member_numbered (route_in size t) 0 (records_in size t) k (omega arith) lt)

-- In mode 1 they are 0.
pub all_bare : {mode : ℕ} (size : ℕ) (t : List ℕ) → All (λ r. r.hop ≤ top_hop (takes_set mode)) (routes_in size t) → Bare size t mode
all_bare size t hops one = set-hops (rw one at hops)

-- There are fewer of them than bytes.
pub records-few : (size : ℕ) → IsSize size → (t : List ℕ) → 8 * records_in size t ≤ length t
records-few size (inl e) t = rw e (omega arith)
records-few size (inr e) t = rw e (omega arith)

-- Key 0 is that of address 0.
key_zero : (size : ℕ) → IsSize size → (0 ≡ key_of (width_in size) (address_in size 0)) × (address_in size 0 ≡ 0)
key_zero size (inl e) = rw e (refl, refl)
key_zero size (inr e) = rw e (refl, refl)

-- Its records are the run of the position of all addresses.
pub all_run : {size : ℕ} → IsSize size → (t : List ℕ) (n : ℕ) → Table (width_in size) (routes_in size t) → n ≡ records_in size t → Position size t 0 n 0 0
all_run {size} is t n table e =
    record {
      is_size = is;
      short = omega arith;
      exact = (key_zero size is).0;
      is_run = rw (e, sub-zero (width_in size), (key_zero size is).1) (whole_run size (width_in size) table);
    }

-- ---- The result.
module _ {size : ℕ} (is : IsSize size) (t : List ℕ) (mode fill : ℕ) (ranks : List ℕ) (n : ℕ) (bare : Bare size t mode) (fills : Fills mode fill)
    (e : n ≡ records_in size t) where
  -- The entries of the position of all addresses.
  abbrev entries : List Route
  entries = entries_at ranks size t 0 n fill (width_in size - 0) (address_in size 0) no_hop

  from_zero : entries ≡ entries_at ranks size t 0 n fill (width_in size) 0 no_hop
  from_zero = ap₂ (λ (m a : ℕ). entries_at ranks size t 0 n fill m a no_hop) (sub-zero (width_in size)) (key_zero size is).1

  all_records : run size t 0 n ≡ routes_in size t
  all_records = ap (run size t 0) e ∙ run-whole size t

  -- Holes kept.
  dropped : fill ≡ no_hop → entries_at ranks size t 0 n fill (width_in size) 0 no_hop ≡ result (lowest ranks) (width_in size) aggregate_map_drop (routes_in size t)
  unfolding entries_at result
  dropped f =
      ortc-agree (answer_at size t 0 n fill) (answer (width_in size) (routes_in size t)) (lowest ranks) (width_in size) (width_in size) 0 none (λ x i. rw (f, all_records))

  -- Holes filled.
  filled_up : fill < no_hop → entries_at ranks size t 0 n fill (width_in size) 0 no_hop ≡ result (lowest ranks) (width_in size) (aggregate_map_fill fill) (routes_in size t)
  unfolding entries_at result
  filled_up small =
      ortc-agree (answer_at size t 0 n fill) (filled fill (answer (width_in size) (routes_in size t))) (lowest ranks) (width_in size) (width_in size) 0 none (λ x i.
      rw (lt-ltb fill no_hop small, all_records) (under_default fill (lookup (width_in size) (routes_in size t) x)))

  by_mode : IsMode mode → entries_at ranks size t 0 n fill (width_in size) 0 no_hop ≡ result_of size t mode fill ranks
  unfolding result_of
  by_mode (inl one) =
      dropped (fills.none (λ five. omega arith))
      ∙ rw one (sym (set_is_drop_bare (width_in size) (lowest ranks) (lowest_chooses ranks) (routes_in size t) (bare one)))
  by_mode (inr (inl four)) = dropped (fills.none (λ five. omega arith)) ∙ rw four
  by_mode (inr (inr five)) = filled_up (fills.hop five) ∙ rw five

  -- They are the mode's result.
  whole-result : IsMode mode → entries ≡ result_of size t mode fill ranks
  whole-result had = from_zero ∙ by_mode had

  module _ (had : IsMode mode) {k : ℕ} {o o' : List ℕ} (put : Put size (entries_at ranks size t 0 n fill (width_in size - 0) (address_in size 0) no_hop) k o o') where
    -- What is put of the entries are the result's records,
    pub whole-count : k ≡ length (result_of size t mode fill ranks)
    whole-count = put.counted ∙ ap length (whole-result had)

    -- and, where they fit, the end of a rewrite.
    pub whole_finished : {change : ℤ} → k ≤ length o / size → change ≡ pos k -ℤ pos (records_in size t) → Finished size t mode fill ranks o (records_out k change) o'
    whole_finished fits differ =
        finished_written size is t mode fill ranks o whole-count fits differ
        (put.written (long_enough size is (length o) k fits) ∙ rw (whole-result had, whole-count) (laid-output size is (result_of size t mode fill ranks) o))
