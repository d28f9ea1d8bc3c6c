-- The climb's invariant: the numbers are those of the records from one on. Assumes nothing.
use Prim.Native.Nat.{ℕ, zero, suc, ◌+◌, ◌-◌, ◌≤◌, ◌<◌}
use mathlib.Core.Path.{◌≡◌, refl, sym, ap, ap₂, ◌∙◌}
use mathlib.Core.Bool.{Bool, true, false, cond, ◌&&◌, true≢false}
use mathlib.Core.List.{List, ◌∷◌}
use mathlib.Core.Logic.{◌⊎◌, inl, inr}
use native.Mathlib.Decide.{dec_lt}
use native.Mathlib.Omega.{arith}
use lib.Dec.{eqb, ltb}
use lib.ListN.{length, get_or, set, replicate, length-set, length-replicate, get_or-replicate}
use lib.Seq.{get_or-set_same, get_or-set_other}
use borrow.Author.Tests.{eqb-true, eqb-false, le-leb, ltb-true}
use Rattle.theory.specs.Results.{start_of}
use Rattle.theory.specs.Routes.{Route, matches, via, Valid, Before, Table, Ascending}
use Rattle.theory.proofs.Blocks.{pow_pos, in_nested, in_start, aligned-start}
use Rattle.words.specs.Prefix.{within}
use Rattle.positions.specs.Runs.{no_hop}
use Rattle.records.specs.Wire.{records, route_at, routes}
use Rattle.runs.specs.Runs.{run}
use Rattle.runs.proofs.Halves.{whole_run, record_within}
use Rattle.runs.proofs.Records.{run-whole, run_none, run-first, run-before, run_rises}
use Rattle.steps.specs.Steps.{entry}
use Rattle.steps.specs.Views.{rung}
use Rattle.steps.proofs.Entries.{same_false, true_same}
use Rattle.steps.proofs.Rungs.{match_start, start_match}
use Rattle.rungs.specs.Rungs.{number_of, row, Behind, Skipped}
use Rattle.rungs.proofs.Rows.{row_is}

-- The start of a shorter prefix is not behind that of a longer one.
start_rises : (n m x : ℕ) → m ≤ n → start_of n x ≤ start_of m x
start_rises n m x le = (in_nested m n (start_of n x) x (start_of m x) le (aligned-start n x) (in_start n x) (omega arith, omega (arith, pow_pos m))).0

-- ---- Records behind a prefix.

-- What the test of one says.
pub past-says : {a l m d : ℕ} {b : Bool} → b ≡ cond (eqb a m) (ltb d l) (ltb m a) → b ≡ true → (m < a) ⊎ ((m ≡ a) × (d < l))
past-says {a} {l} {m} {d} e q = go (eqb a m) refl (sym e ∙ q)
  where
    go : (c : Bool) → eqb a m ≡ c → cond c (ltb d l) (ltb m a) ≡ true → (m < a) ⊎ ((m ≡ a) × (d < l))
    go true p y = inr (sym (eqb-true a m p), ltb-true d l y)
    go false p y = inl (ltb-true m a y)

-- Behind a record that stands behind a prefix the others do, too.
pub past-later : (t : List ℕ) (m d i j : ℕ) → Table 32 (routes t) → i ≤ j → j < records t
    → (m < (route_at t i).addr) ⊎ ((m ≡ (route_at t i).addr) × (d < (route_at t i).len))
    → (m < (route_at t j).addr) ⊎ ((m ≡ (route_at t j).addr) × (d < (route_at t j).len))
past-later t m d i j table le lt p = go (dec_lt i j)
  where
    order : Ascending (run 8 t 0 (records t))
    order = rw (run-whole 8 t) table.order

    next : Before (route_at t i) (route_at t j) → (m < (route_at t i).addr) ⊎ ((m ≡ (route_at t i).addr) × (d < (route_at t i).len))
        → (m < (route_at t j).addr) ⊎ ((m ≡ (route_at t j).addr) × (d < (route_at t j).len))
    next (inl h) (inl q) = inl (omega arith)
    next (inl h) (inr q) = inl (omega (arith, q.0))
    next (inr h) (inl q) = inl (omega (arith, h.0))
    next (inr h) (inr q) = inr (q.0 ∙ h.0, omega (arith, q.1, h.1))

    go : Dec (i < j) → (m < (route_at t j).addr) ⊎ ((m ≡ (route_at t j).addr) × (d < (route_at t j).len))
    go (yes h) = next (run-before 8 t 0 (records t) i j order (omega arith) h lt) p
    go (no h) = let e : i ≡ j = omega arith in rw e at p

-- ---- Records that are passed over.
module _ {t : List ℕ} {k x r : ℕ} where
  -- Right of x.
  pub skip_right : Behind t k x 32 r → Skipped t k x r
  skip_right z = record { high = z.high; other = λ i ge lt l le e q. go l le (z.past i ge lt) e q }
    where
      go : {a n : ℕ} (l : ℕ) → l ≤ 32 → (x < a) ⊎ ((x ≡ a) × (32 < n)) → a ≡ start_of (32 - l) x → n ≡ l → ⊥
      go l le (inl h) e q = omega (arith, (in_start (32 - l) x).0)
      go l le (inr h) e q = omega (arith, h.1)

  -- Left of x: longer prefixes of x start behind record k.
  pub skip_left : {d : ℕ} → Table 32 (routes t) → k < records t → d < 32 → (route_at t k).addr < start_of (32 - (d + 1)) x → Behind t k (start_of (32 - d) x) d r → Skipped t k x r
  skip_left {d} table up short left z =
      record { high = z.high; other = λ i ge lt l le e q. go l le (z.past i ge lt) (run_rises 8 t 0 (records t) i k order (omega arith) (omega arith) up) e q (dec_lt d l) }
    where
      order : Ascending (run 8 t 0 (records t))
      order = rw (run-whole 8 t) table.order

      go : {a n : ℕ} (l : ℕ) → l ≤ 32 → (start_of (32 - d) x < a) ⊎ ((start_of (32 - d) x ≡ a) × (d < n)) → a ≤ (route_at t k).addr → a ≡ start_of (32 - l) x → n ≡ l → Dec (d < l) → ⊥
      go l le p up' e q (yes h) = let s = start_rises (32 - (d + 1)) (32 - l) x (omega arith) in omega arith
      go l le (inl h) up' e q (no ge) = let s = start_rises (32 - l) (32 - d) x (omega arith) in omega arith
      go l le (inr h) up' e q (no ge) = omega (arith, h.1)

-- ---- The invariant.

pub record Climbing (t : List ℕ) (x : ℕ) (hops : List ℕ) (k : ℕ) : Type 0 where
  pub size : length hops ≡ 33
  pub high : k ≤ records t
  pub shown : (l : ℕ) → l ≤ 32 → get_or hops l 0 ≡ number_of (entry (run 8 t k (records t)) (start_of (32 - l) x) l)

pub climbing_start : (t : List ℕ) (x : ℕ) → Climbing t x (replicate 33 no_hop) (records t)
climbing_start t x =
    record {
      size = length-replicate 33 no_hop;
      high = omega arith;
      shown = λ l le. get_or-replicate 33 l no_hop 0 (omega arith) ∙ ap (λ (u : List Route). number_of (entry u (start_of (32 - l) x) l)) (sym (run_none 8 t (records t) (records t) (omega arith)));
    }

-- Records that are not a prefix change nothing there.
entry_skip : (t : List ℕ) (a l n r : ℕ) → r + n ≤ records t → ((i : ℕ) → r ≤ i → i < r + n → (route_at t i).addr ≡ a → (route_at t i).len ≡ l → ⊥)
    → entry (run 8 t r (records t)) a l ≡ entry (run 8 t (r + n) (records t)) a l
entry_skip t a l zero r le f = let e : r ≡ r + 0 = omega arith in ap (λ (k : ℕ). entry (run 8 t k (records t)) a l) e
entry_skip t a l (suc n) r le f =
    let e : suc r + n ≡ r + suc n = omega arith in
    ap (λ (u : List Route). entry u a l) (run-first 8 t r (records t) (omega arith))
    ∙ ap (λ (b : Bool). cond b (via (route_at t r).hop) (entry (run 8 t (suc r) (records t)) a l)) (same_false (route_at t r).addr (route_at t r).len a l (f r (omega arith) (omega arith)))
    ∙ entry_skip t a l n (suc r) (omega arith) (λ i ge lt. f i (omega arith) (omega arith))
    ∙ ap (λ (k : ℕ). entry (run 8 t k (records t)) a l) e

module _ {t : List ℕ} {x : ℕ} {hops : List ℕ} {k : ℕ} (z : Climbing t x hops k) where
  pub climbing_end : k ≤ 0 → hops ≡ row (rung 32 (routes t) x) 0 33
  climbing_end le =
      let e : k ≡ 0 = omega arith in
      row_is (rung 32 (routes t) x) hops z.size (λ l up. z.shown l up
      ∙ ap (λ (u : List Route). number_of (entry u (start_of (32 - l) x) l)) (ap (λ (j : ℕ). run 8 t j (records t)) e ∙ run-whole 8 t))

  module _ {last : ℕ} (is : last + 1 ≡ k) where
    -- The last record is no prefix of x, nor are those passed over.
    pub climbing_skip : {r : ℕ} → matches 32 (route_at t last) x ≡ false → Skipped t last x r → Climbing t x hops r
    climbing_skip {r} e s =
        let n : r + (k - r) ≡ k = omega (arith, s.high) in
        record {
          size = z.size;
          high = omega (arith, s.high, z.high);
          shown = λ l le. z.shown l le ∙ ap number_of (sym (entry_skip t (start_of (32 - l) x) l (k - r) r (omega (arith, z.high)) (λ i ge lt p q. go i ge lt l le p q (dec_lt i last))
              ∙ ap (λ (j : ℕ). entry (run 8 t j (records t)) (start_of (32 - l) x) l) n));
        }
      where
        go : (i : ℕ) → r ≤ i → i < r + (k - r) → (l : ℕ) → l ≤ 32 → (route_at t i).addr ≡ start_of (32 - l) x → (route_at t i).len ≡ l → Dec (i < last) → ⊥
        go i ge lt l le p q (yes h) = s.other i ge h l le p q
        go i ge lt l le p q (no h) =
            let y : i ≡ last = omega (arith, s.high) in
            true≢false (sym (start_match 32 (route_at t last) x (ap (λ (j : ℕ). (route_at t j).addr) (sym y) ∙ p ∙ ap (λ (m : ℕ). start_of (32 - m) x) (sym q ∙ ap (λ (j : ℕ). (route_at t j).len) y))) ∙ e)

    -- It is one: its number is set.
    pub climbing_held : Valid 32 (route_at t last) → matches 32 (route_at t last) x ≡ true → Climbing t x (set hops (route_at t last).len (route_at t last).hop) last
    climbing_held valid e =
        record {
          size = length-set hops (route_at t last).len (route_at t last).hop ∙ z.size;
          high = omega (arith, z.high);
          shown = λ l le. at l le (eqb (route_at t last).len l) refl ∙ ap (λ (u : List Route). number_of (entry u (start_of (32 - l) x) l)) (sym first);
        }
      where
        first : run 8 t last (records t) ≡ route_at t last ∷ run 8 t k (records t)
        first =
            let y : suc last ≡ k = omega arith in
            run-first 8 t last (records t) (omega (arith, z.high)) ∙ ap (λ (j : ℕ). route_at t last ∷ run 8 t j (records t)) y

        at : (l : ℕ) → l ≤ 32 → (b : Bool) → eqb (route_at t last).len l ≡ b
            → get_or (set hops (route_at t last).len (route_at t last).hop) l 0 ≡ number_of (entry (route_at t last ∷ run 8 t k (records t)) (start_of (32 - l) x) l)
        at l le true q =
            let p = eqb-true (route_at t last).len l q in
            rw (
              sym p,
              true_same (route_at t last).addr (route_at t last).len (start_of (32 - (route_at t last).len) x) (route_at t last).len
                  (sym (match_start 32 (route_at t last) x valid e)) refl,
            )
            (get_or-set_same hops (route_at t last).len (route_at t last).hop 0 (omega (arith, z.size, valid.short)))
        at l le false q =
            let p = eqb-false (route_at t last).len l q in
            rw (same_false (route_at t last).addr (route_at t last).len (start_of (32 - l) x) l (λ a b. p b))
            (get_or-set_other hops (route_at t last).len l (route_at t last).hop 0 (λ y. p (sym y)) ∙ z.shown l le)

-- A record of a table is valid.
pub valid_at : (t : List ℕ) (i : ℕ) → Table 32 (routes t) → i < records t → Valid 32 (route_at t i)
valid_at t i table lt =
    let v = record_within (whole_run 8 32 table) i (omega arith) lt in
    record { short = v.short; clean = v.aligned; small = omega (arith, v.high, pow_pos (32 - (route_at t i).len)) }

-- What the test of a record says.
pub within-matches : (r : Route) (a l x : ℕ) {b : Bool} → a ≡ r.addr → l ≡ r.len → r.len ≤ 32 → within 32 a l x 32 ≡ b → matches 32 r x ≡ b
within-matches r a l x e q le w = sym (ap (λ (c : Bool). c && matches 32 r x) (le-leb r.len 32 le)) ∙ ap₂ (λ (d m : ℕ). within 32 d m x 32) (sym e) (sym q) ∙ w
