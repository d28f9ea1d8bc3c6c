-- The run of a position is its own record, if it has one, then the run of its left half, then the run of its right half: `past_own` and `split` say where
-- each begins. Over the size of a record. Assumes nothing.
use Prim.Native.Nat.{ℕ, suc, ◌+◌, ◌-◌, ◌^◌, ◌≤◌, ◌<◌}
use mathlib.Core.Path.{◌≡◌, refl, sym, ap, ◌∙◌}
use mathlib.Core.Bool.{Bool, true, false}
use mathlib.Core.List.{List}
use mathlib.Core.Logic.{◌⊎◌, inl, inr}
use native.Mathlib.Nat.{pow-suc, eq-or-lt_of_le, le_refl}
use native.Mathlib.Decide.{dec_lt}
use native.Mathlib.Omega.{arith}
use Rattle.theory.specs.Results.{part}
use Rattle.theory.specs.Routes.{none, via, Before, Ascending, Table}
use Rattle.theory.specs.Shapes.{Within}
use Rattle.theory.proofs.Blocks.{pow_pos, same_start, aligned-left, aligned-right, aligned-zero}
use Rattle.theory.proofs.Lists.{all_member, all_map}
use Rattle.theory.proofs.Order.{valid-within}
use Rattle.positions.specs.Runs.{is_at, is_in, inside, own, head_hop}
use Rattle.positions.proofs.Runs.{is_at_lem, is_in_lem, inside-run}
use Rattle.records.specs.Sized.{records_in, route_in, routes_in}
use Rattle.runs.specs.Runs.{run, RunAt, PastOwn, with_own, without, SplitAt}
use Rattle.theory.proofs.Numbered.{member_numbered}
use Rattle.runs.proofs.Records.{run_numbered, run-whole, run_none, run-first, run-before, run_suffix, run-part}

-- A test that cannot be passed fails.
is_false : (b : Bool) → (b ≡ true → ⊥) → b ≡ false
is_false true n = absurd (n refl)
is_false false n = refl

-- ---- The run of a whole table is that of the position of all addresses.
pub whole_run : (size w : ℕ) {t : List ℕ} → Table w (routes_in size t) → RunAt size w t 0 (records_in size t) w 0
whole_run size w {t} table =
    record {
      low = omega arith;
      high = le_refl (records_in size t);
      small = omega arith;
      lies =
          rw (run-whole size t)
          (record { fits = le_refl w; aligned = aligned-zero w; table = table; within = all_map (valid-within w) table.valid });
    }

-- ---- The position's own record.
module _ {size w : ℕ} {t : List ℕ} {lo hi n a : ℕ} (at : RunAt size w t lo hi n a) where
  -- Each record of the run lies in the position.
  pub record_within : (k : ℕ) → lo ≤ k → k < hi → Within w n a (route_in size t k)
  record_within k le lt = all_member (rw (run_numbered size t lo hi) at at.lies.within) (member_numbered (route_in size t) lo hi k le lt)

  -- One of the position's length stands at its address.
  own-address : (k : ℕ) → lo ≤ k → k < hi → (route_in size t k).len ≡ w - n → (route_in size t k).addr ≡ a
  own-address k le lt e =
      let i = record_within k le lt in
      let fits = at.lies.fits in
      let q : w - (route_in size t k).len ≡ n = omega arith in
      same_start n a (route_in size t k).addr at.lies.aligned (rw q at i.aligned) (omega (arith, i.low, i.high, pow_pos (w - (route_in size t k).len)))

  -- Behind the first record none is of the position's length.
  only_first : (k : ℕ) → lo < k → k < hi → (route_in size t k).len ≡ w - n → ⊥
  only_first k gt lt e = go (run-before size t lo hi lo k at.lies.table.order (omega arith) gt lt)
    where
      go : Before (route_in size t lo) (route_in size t k) → ⊥
      go (inl h) = omega (arith, own-address k (omega arith) lt e, (record_within lo (omega arith) (omega arith)).low)
      go (inr h) = omega (arith, (record_within lo (omega arith) (omega arith)).deep)

  module _ {first : ℕ} (past : PastOwn size t lo hi (w - n) first) where
    -- It is a number of the run.
    pub past-low : lo ≤ first
    past-low = go past
      where
        go : {r : ℕ} → PastOwn size t lo hi (w - n) r → lo ≤ r
        go (with_own lt e) = omega arith
        go (without f) = le_refl lo

    pub past-high : first ≤ hi
    past-high = go past
      where
        go : {r : ℕ} → PastOwn size t lo hi (w - n) r → r ≤ hi
        go (with_own lt e) = omega arith
        go (without f) = at.low

    -- The records past it are longer.
    pub past-longer : (k : ℕ) → first ≤ k → k < hi → w - n < (route_in size t k).len
    past-longer k le lt = longer (eq-or-lt_of_le (record_within k (omega (arith, past-low)) lt).deep)
      where
        not_own : (route_in size t k).len ≡ w - n → ⊥
        not_own e = go past le (eq-or-lt_of_le (omega (arith, past-low)))
          where
            go : {r : ℕ} → PastOwn size t lo hi (w - n) r → r ≤ k → (lo ≡ k) ⊎ (lo < k) → ⊥
            go (with_own l f) h (inl q) = omega arith
            go (without f) h (inl q) = f (omega arith) (ap (λ (i : ℕ). (route_in size t i).len) q ∙ e)
            go p h (inr q) = only_first k q lt e

        longer : (w - n ≡ (route_in size t k).len) ⊎ (w - n < (route_in size t k).len) → w - n < (route_in size t k).len
        longer (inl e) = absurd (not_own (sym e))
        longer (inr h) = h

    -- The own record is of the position's length.
    own-length : (k : ℕ) → lo ≤ k → k < first → (route_in size t k).len ≡ w - n
    own-length k l h = go past h
      where
        go : {r : ℕ} → PastOwn size t lo hi (w - n) r → k < r → (route_in size t k).len ≡ w - n
        go (with_own lt e) h = let q : k ≡ lo = omega arith in ap (λ (i : ℕ). (route_in size t i).len) q ∙ e
        go (without f) h = absurd (omega arith)

    -- The run's own record is the one that stands at the position.
    pub own_is : run size t lo first ≡ part (is_at w n a) (run size t lo hi)
    own_is =
        sym (run-part size t (is_at w n a) lo lo first hi (le_refl lo) past-low past-high
        (λ k l h. (is_at_lem w n a (route_in size t k)).1 (own-length k l h, own-address k l (omega (arith, past-high)) (own-length k l h)))
        (λ k l h out. is_false (is_at w n a (route_in size t k)) (λ e. omega (arith, past-longer k (behind k l out) h, (is_at_lem w n a (route_in size t k)).0 e))))
      where
        behind : (k : ℕ) → lo ≤ k → ((lo ≤ k) × (k < first) → ⊥) → first ≤ k
        behind k l out = go (dec_lt k first)
          where
            go : Dec (k < first) → first ≤ k
            go (yes h) = absurd (out (l, h))
            go (no h) = omega arith

    -- Where there is none the position has no hop of its own; else it has that record's.
    pub own_none : first ≡ lo → own w n a (run size t lo hi) ≡ none
    own_none e = ap head_hop (sym own_is ∙ run_none size t lo first (omega arith))

    pub own-hop : lo < first → own w n a (run size t lo hi) ≡ via (route_in size t lo).hop
    own-hop h = ap head_hop (sym own_is ∙ run-first size t lo first h)

-- ---- The runs of the halves.
module _ {size w : ℕ} {t : List ℕ} {lo hi n a : ℕ} (at : RunAt size w t lo hi (suc n) a) {first : ℕ} (past : PastOwn size t lo hi (w - suc n) first) where
  -- What a split of the records past the own one asks for.
  pub past_ascending : Ascending (run size t first hi)
  past_ascending = run_suffix size t lo first hi (past-low at past) (past-high at past) at.lies.table.order

  module _ {mid : ℕ} (split : SplitAt size t first hi (a + 2 ^ n) mid) where
    -- A record past the own one whose address is in a half lies in it; the own one lies in neither.
    in_half : (b k : ℕ) → first ≤ k → k < hi → b ≤ (route_in size t k).addr → (route_in size t k).addr < b + 2 ^ n → is_in w n b (route_in size t k) ≡ true
    in_half b k le lt low high = (is_in_lem w n b (route_in size t k)).1 (omega (arith, past-longer at past k le lt, at.lies.fits), (low, high))

    own_not_in : (b k : ℕ) → lo ≤ k → k < first → is_in w n b (route_in size t k) ≡ true → ⊥
    own_not_in b k le lt e =
        omega (arith, own-length at past k le lt, ((is_in_lem w n b (route_in size t k)).0 e).0, at.lies.fits)

    -- The records up to the split are the left half's run, those from it on the right half's.
    pub left_is : run size t first mid ≡ inside w n a (run size t lo hi)
    left_is =
        sym (run-part size t (is_in w n a) lo first mid hi (past-low at past) split.low split.high
        (λ k l h. in_half a k l (omega (arith, split.high)) (record_within at k (omega (arith, past-low at past)) (omega (arith, split.high))).low (split.below k l h))
        (λ k l h out. is_false (is_in w n a (route_in size t k)) (outside k l h out)))
      where
        outside : (k : ℕ) → lo ≤ k → k < hi → ((first ≤ k) × (k < mid) → ⊥) → is_in w n a (route_in size t k) ≡ true → ⊥
        outside k l h out e = go (dec_lt k first) (dec_lt k mid)
          where
            go : Dec (k < first) → Dec (k < mid) → ⊥
            go (yes p) q = own_not_in a k l p e
            go (no p) (yes q) = out (omega arith)
            go (no p) (no q) = omega (arith, split.above k (omega arith) h, ((is_in_lem w n a (route_in size t k)).0 e).1.1)

    pub right_is : run size t mid hi ≡ inside w n (a + 2 ^ n) (run size t lo hi)
    right_is =
        sym (run-part size t (is_in w n (a + 2 ^ n)) lo mid hi hi (omega (arith, past-low at past, split.low)) split.high (le_refl hi)
        (λ k l h. in_half (a + 2 ^ n) k (omega (arith, split.low)) h (split.above k l h) (high k l h))
        (λ k l h out. is_false (is_in w n (a + 2 ^ n) (route_in size t k)) (outside k l h out)))
      where
        high : (k : ℕ) → mid ≤ k → k < hi → (route_in size t k).addr < a + 2 ^ n + 2 ^ n
        high k l h =
            omega (arith, (record_within at k (omega (arith, past-low at past, split.low)) h).high, pow_pos (w - (route_in size t k).len), pow-suc 2 n)

        outside : (k : ℕ) → lo ≤ k → k < hi → ((mid ≤ k) × (k < hi) → ⊥) → is_in w n (a + 2 ^ n) (route_in size t k) ≡ true → ⊥
        outside k l h out e = go (dec_lt k first) (dec_lt k mid)
          where
            go : Dec (k < first) → Dec (k < mid) → ⊥
            go (yes p) q = own_not_in (a + 2 ^ n) k l p e
            go (no p) (yes q) = omega (arith, split.below k (omega arith) q, ((is_in_lem w n (a + 2 ^ n) (route_in size t k)).0 e).1.0)
            go (no p) (no q) = out (omega arith)

    pub left_run : RunAt size w t first mid n a
    left_run =
        record {
          low = split.low;
          high = omega (arith, split.high, at.high);
          small = omega (arith, at.small, pow-suc 2 n);
          lies = rw left_is (inside-run w n a (omega (arith, at.lies.fits)) (aligned-left n a at.lies.aligned) at.lies.table);
        }

    pub right_run : RunAt size w t mid hi n (a + 2 ^ n)
    right_run =
        record {
          low = split.high;
          high = at.high;
          small = omega (arith, at.small, pow-suc 2 n);
          lies = rw right_is (inside-run w n (a + 2 ^ n) (omega (arith, at.lies.fits)) (aligned-right n a at.lies.aligned) at.lies.table);
        }
