-- Which kind a position is, by what `past_own`, `right_half` and `split` say of its run, over the size of a record. Assumes nothing.
use Prim.Native.Nat.{ℕ, suc, ◌+◌, ◌-◌, ◌^◌, ◌≤◌, ◌<◌}
use mathlib.Core.Path.{◌≡◌, refl, sym, ap, subst, ◌∙◌}
use mathlib.Core.List.{List, [], ◌∷◌}
use mathlib.Core.Logic.{◌⊎◌, inl, inr}
use native.Mathlib.Nat.{eq-or-lt_of_le}
use native.Mathlib.Omega.{arith}
use lib.ListN.{length, length-append}
use Rattle.theory.specs.Routes.{Route, Member, head}
use Rattle.theory.specs.Shapes.{routed}
use Rattle.theory.proofs.Preserve.{back}
use Rattle.words.specs.Keys.{key_of}
use Rattle.records.specs.Sized.{width_in, route_in, route}
use Rattle.words.proofs.KeyLaws.{key_fits}
use Rattle.records.proofs.SizedReading.{width_most}
use Rattle.records.proofs.SizedLaid.{key_addr}
use Rattle.runs.specs.Runs.{run, RunAt, PastOwn, SplitAt}
use Rattle.runs.proofs.Records.{run_none, run-first}
use Rattle.runs.proofs.Halves.{record_within, past-low, past-longer, own-hop, own_none, left_is, right_is, left_run, right_run}
use Rattle.holes.specs.Holes.{address_in, holes_in, holes_at}
use Rattle.holes.specs.Kinds.{Position, Halves}
use Rattle.holes.proofs.Walk.{holes-empty, holes-own, holes_halves}

module _ {size : ℕ} {t : List ℕ} {lo hi len key : ℕ} (p : Position size t lo hi len key) where
  -- The bits of an address, and the position's first address.
  abbrev w : ℕ
  w = width_in size

  abbrev addr : ℕ
  addr = address_in size key

  -- No record lies in it.
  pub empty-hole : lo ≡ hi → holes_at size t lo hi len key ≡ route (address_in size key) len 0 ∷ []
  empty-hole e =
      ap (λ (u : List Route). holes_in w u (w - len) addr) (run_none size t lo hi (omega arith))
      ∙ holes-empty w (w - len) addr
      ∙ ap (λ (l : ℕ). route addr l 0 ∷ []) (back w len p.short)

  as_length : {first : ℕ} → PastOwn size t lo hi len first → PastOwn size t lo hi (w - (w - len)) first
  as_length {first} past = subst (λ (l : ℕ). PastOwn size t lo hi l first) (sym (back w len p.short)) past

  -- It has a record of its own.
  pub own-routed : {first : ℕ} → PastOwn size t lo hi len first → (first ≡ lo → ⊥) → holes_at size t lo hi len key ≡ []
  own-routed {first} past other =
      holes-own p.at.lies (ap routed (own-hop p.at (as_length past) (later (eq-or-lt_of_le (past-low p.at (as_length past))))))
    where
      later : (lo ≡ first) ⊎ (lo < first) → lo < first
      later (inl e) = absurd (other (sym e))
      later (inr h) = h

  -- It has records, and none of its own: then it has halves, and their holes.
  module _ (other : lo ≡ hi → ⊥) {first : ℕ} (past : PastOwn size t lo hi len first) (same : first ≡ lo) where
    some : lo < hi
    some = go (eq-or-lt_of_le p.at.low)
      where
        go : (lo ≡ hi) ⊎ (lo < hi) → lo < hi
        go (inl e) = absurd (other e)
        go (inr h) = h

    no_own : PastOwn size t lo hi len lo
    no_own = subst (PastOwn size t lo hi len) same past

    pub has_halves : len < width_in size
    has_halves =
        omega (arith, past-longer p.at (as_length no_own) lo (omega arith) some, (record_within p.at lo (omega arith) some).short)

    -- Its size as a key's bits does not pass the word.
    pub half_fits : (len < 64) × (key + 2 ^ (64 - len) ≤ 2 ^ 64)
    half_fits =
        let le = width_most size p.sized in
        (omega (arith, has_halves), rw (sym p.exact) at (key_fits w len addr le p.short p.at.small))

    pub in_halves : {right mid : ℕ} → ((v a : ℕ) → v ≤ 64 → len < v → key ≡ key_of v a → right ≡ key_of v (a + 2 ^ (v - 1 - len)))
        → ((a : ℕ) → right ≡ key_of (width_in size) a → SplitAt size t lo hi a mid) → Halves size t lo hi len key right mid
    in_halves {right} {mid} begins split =
        let at = begins w addr (width_most size p.sized) has_halves p.exact in
        go (w - 1 - len) (omega (arith, has_halves)) (omega (arith, has_halves)) (omega (arith, has_halves)) at (split (addr + 2 ^ (w - 1 - len)) at)
      where
        member : Member (route_in size t lo) (run size t lo hi)
        member = rw (run-first size t lo hi some) head

        go : (m : ℕ) → w - len ≡ suc m → w - (len + 1) ≡ m → w - suc m ≡ len → right ≡ key_of w (addr + 2 ^ m) → SplitAt size t lo hi (addr + 2 ^ m) mid
            → Halves size t lo hi len key right mid
        go m whole half own-length begins split =
            let run_at_lem : RunAt size w t lo hi (suc m) addr = subst (λ (n : ℕ). RunAt size w t lo hi n addr) whole p.at in
            let own : PastOwn size t lo hi (w - suc m) lo = subst (λ (l : ℕ). PastOwn size t lo hi l lo) (sym own-length) no_own in
            let there : address_in size right ≡ addr + 2 ^ m = ap (address_in size) begins ∙ key_addr w (addr + 2 ^ m) in
            record {
              longer = has_halves;
              left_half = record { sized = p.sized; short = omega (arith, has_halves); exact = p.exact; at = rw half (left_run run_at_lem own split) };
              right_half =
                  record {
                    sized = p.sized;
                    short = omega (arith, has_halves);
                    exact = begins ∙ ap (key_of w) (sym there);
                    at = rw (half, there) (right_run run_at_lem own split);
                  };
              theirs =
                  rw (whole, half, there, left_is run_at_lem own split, right_is run_at_lem own split)
                  (holes_halves run_at_lem.lies member (own_none run_at_lem own refl));
            }

-- ---- What the halves say.

-- Their length is one of 64 bits.
pub half_short : {size : ℕ} {t : List ℕ} {lo hi len key right mid : ℕ} → Halves size t lo hi len key right mid → len < 64
half_short {size} h = omega (arith, h.longer, width_most size h.left_half.sized)

-- How many holes they have.
pub halves_count : {size : ℕ} {t : List ℕ} {lo hi len key right mid : ℕ} → Halves size t lo hi len key right mid
    → length (holes_at size t lo hi len key) ≡ length (holes_at size t lo mid (len + 1) key) + length (holes_at size t mid hi (len + 1) right)
halves_count {size} {t} {lo} {hi} {len} {key} {right} {mid} h =
    ap length h.theirs ∙ length-append (holes_at size t lo mid (len + 1) key) (holes_at size t mid hi (len + 1) right)
