-- A node has at most 65 records of its own (31, in truth), so a table has at most 65 for each of its nodes. Over the width w.
use Prim.Native.Nat.{ℕ, zero, suc, ◌+◌, ◌-◌, ◌*◌, ◌/◌, ◌^◌, ◌≤◌, ◌<◌}
use mathlib.Core.Path.{◌≡◌, refl, ap, ◌∙◌}
use mathlib.Core.Bool.{Bool, true, false, cond, not}
use mathlib.Core.List.{List, [], ◌∷◌}
use mathlib.Core.Logic.{inl, inr}
use native.Mathlib.Nat.{sub-zero, div-lt_iff_lt-mul, add-mul, lt_of_mul-lt-mul_right}
use native.Mathlib.Decide.{dec_lt}
use native.Mathlib.Omega.{arith}
use lib.Dec.{leb}
use lib.ListN.{length}
use lib.Pow.{pow-add, pow_mono, shl-shr, shr_mono}
use borrow.Author.Tests.{leb-false}
use Rattle.theory.specs.Results.{part}
use Rattle.theory.specs.Routes.{Route, Aligned, Valid, All, nil, cons, Before, Ascending, empty, first, Table}
use Rattle.theory.proofs.Blocks.{pow_pos, aligned-zero, aligned_down, same_start}
use Rattle.theory.proofs.Lists.{all_map}
use Rattle.theory.proofs.Parts.{rest, length_parts, all_part, all_rest, ascending_part}
use Rattle.positions.specs.Runs.{is_in}
use Rattle.positions.proofs.Runs.{is_in_lem}
use Rattle.nodecount.specs.Nodes.{nodes}
use Rattle.nodecount.specs.Walk.{or_none, sum_to, nodes_in}
use Rattle.nodecount.proofs.NodeRuns.{slot_key, slot_run, Inside, nodes_walked, slots_length, slot_lined}

-- ---- A node's own records.

-- A record of the node at depth d whose first address is key, by its position or below it.
pub record Here (w d key : ℕ) (r : Route) : Type 0 where
  pub valid : Valid w r
  pub deep : d ≤ r.len
  pub low : key ≤ r.addr
  pub high : r.addr < key + 2 ^ (w - d)

-- The size of a sixteenth of the node, and the number of the sixteenth in which an address lies.
abbrev sixteenth : ℕ → ℕ → ℕ
sixteenth w d = w - (d + 4)

abbrev part16 : ℕ → ℕ → ℕ → ℕ
part16 w d x = x / 2 ^ sixteenth w d

-- A number that grows along a node's own records.
abbrev rank : ℕ → ℕ → Route → ℕ
rank w d r = 4 * part16 w d r.addr + (r.len - d)

module _ (w d key : ℕ) (lined : Aligned (w - d) key) where
  abbrev Own : Route → Type 0
  Own r = Here w d key r × (r.len < d + 5)

  own_lined : (r : Route) → Own r → Aligned (sixteenth w d) r.addr
  own_lined r o = aligned_down (sixteenth w d) (w - r.len) r.addr (omega (arith, o.1)) o.0.valid.clean

  quotient : (k x : ℕ) (a : Aligned k x) → x / 2 ^ k ≡ a.0
  quotient k x a = ap (λ (y : ℕ). y / 2 ^ k) a.1 ∙ shl-shr a.0 k

  rank-low : (r : Route) → Own r → 4 * part16 w d key ≤ rank w d r
  rank-low r o = omega (arith, shr_mono (sixteenth w d) o.0.low)

  rank-high : (r : Route) → Own r → rank w d r ≤ 4 * part16 w d key + 64
  rank-high r o =
      let k : ℕ = sixteenth w d in
      let a = aligned_down k (w - d) key (omega arith) lined in
      let size : 2 ^ (w - d) ≤ 2 ^ k * 16 = omega (arith, pow_mono {i = w - d} {j = k + 4} (omega arith), pow-add 2 k 4) in
      let top : r.addr < (a.0 + 16) * 2 ^ k = omega (arith, o.0.high, a.1, add-mul a.0 16 (2 ^ k)) in
      omega (arith, quotient k key a, (div-lt_iff_lt-mul (pow_pos k)).1 top, o.1, o.0.deep)

  rank_grows : (r s : Route) → Own r → Own s → Before r s → rank w d r < rank w d s
  rank_grows r s o q (inl lt) =
      let k : ℕ = sixteenth w d in
      let a = own_lined r o in
      let b = own_lined s q in
      let m : a.0 * 2 ^ k < b.0 * 2 ^ k = omega (arith, a.1, b.1) in
      let l : a.0 < b.0 = lt_of_mul-lt-mul_right (2 ^ k) m in
      omega (arith, quotient k r.addr a, quotient k s.addr b, o.1, o.0.deep, q.0.deep, longer (dec_lt d s.len))
    where
      longer : Dec (d < s.len) → d < s.len
      longer (yes z) = z
      longer (no z) =
          let e : s.len ≡ d = omega (arith, q.0.deep) in
          let c : Aligned (w - d) s.addr = rw e at q.0.valid.clean in
          let h : s.addr ≡ key = same_start (w - d) key s.addr lined c (q.0.low, q.0.high) in
          absurd (omega (arith, o.0.low))
  rank_grows r s o q (inr e) = omega (arith, e.0, e.1, ap (part16 w d) e.0, o.0.deep)

  chain : (p : Route) {t : List Route} → Own p → All Own t → All (Before p) t → Ascending t → length t + rank w d p ≤ 4 * part16 w d key + 64
  chain p o nil nil empty = omega (arith, rank-high p o)
  chain p o (cons {r = r} q qs) (cons b bs) (first c cs) = omega (arith, rank_grows p r o q b, chain r q qs c cs)

  own-few : {t : List Route} → All Own t → Ascending t → length t ≤ 65
  own-few nil empty = omega arith
  own-few (cons {r = r} o os) (first b bs) = omega (arith, rank-low r o, chain r o os b bs)

-- ---- A run of records, node by node.

sum_le : (f g : ℕ → ℕ) (n : ℕ) → ((c : ℕ) → f c ≤ 65 * g c) → sum_to f n ≤ 65 * sum_to g n
unfolding sum_to
sum_le f g zero h = omega arith
sum_le f g (suc n) h = omega (arith, sum_le f g n h, h n)

rest_part : (p : Route → Bool) (t : List Route) → rest p t ≡ part (λ r. not (p r)) t
rest_part p [] = refl
rest_part p (r ∷ t) = go (p r) (rest_part p t)
  where
    go : (b : Bool) → rest p t ≡ part (λ r. not (p r)) t → cond b (rest p t) (r ∷ rest p t) ≡ cond (not b) (r ∷ part (λ r. not (p r)) t) (part (λ r. not (p r)) t)
    go true e = e
    go false e = ap (λ (u : List Route). r ∷ u) e

here-inside : (w d key : ℕ) {t : List Route} → All (Here w d key) t → All (Inside w d key) t
here-inside w d key all = all_map (λ r h. record { short = h.valid.short; inside = (h.low, h.high) }) all

-- The walk from the node at depth d, f nodes deeper: it goes as deep as the width has nodes.
run-few : (w f e d key : ℕ) {t : List Route} → d ≡ 5 * e → d + 5 * f ≤ w → w / 5 ≤ e + f → Aligned (w - d) key → All (Here w d key) t → Ascending t
    → length t ≤ 65 * nodes_in w (suc f) (w - d) key t
unfolding nodes_in
run-few w zero e d key level fits far lined all o =
    omega (arith, own-few w d key lined (all_map (λ r h. (h, (let j : r.len < d + 5 = omega (arith, h.valid.short) in j))) all) o)
run-few w (suc f) e d key {t} level fits far lined all o =
    let long : Route → Bool = λ r. leb (d + 5) r.len in
    let below : d + 5 ≤ w = omega arith in
    let size : (w - d) - 5 ≡ w - (d + 5) = omega arith in
    let own : All (Own w d key lined) (rest long t) = all_rest long (λ r h q. (h, leb-false (d + 5) r.len q)) all in
    let order : Ascending (rest long t) = rw (rest_part long t) (ascending_part (λ r. not (long r)) o) in
    let deep = slots_length w d key below lined (here-inside w d key all) in
    let each =
    sum_le (λ c. length (slot_run w d key c t))
    (λ c. or_none (slot_run w d key c t) (nodes_in w (suc f) (w - (d + 5)) (slot_key w d key c) (slot_run w d key c t))) 32
    (λ c.
    some (slot_run w d key c t) (nodes_in w (suc f) (w - (d + 5)) (slot_key w d key c) (slot_run w d key c t))
    (run-few w f (suc e) (d + 5) (slot_key w d key c) (omega arith) (omega arith) (omega arith) (slot_lined w d key below lined c) (down below c) (ascending_part _ o))) in
    rw size (omega (arith, length_parts long t, own-few w d key lined own order))
  where
    some : (u : List Route) (n : ℕ) → length u ≤ 65 * n → length u ≤ 65 * or_none u n
    some [] n le = omega arith
    some (r ∷ u) n le = le

    down : d + 5 ≤ w → (c : ℕ) → All (Here w (d + 5) (slot_key w d key c)) (slot_run w d key c t)
    down below c =
        all_part (is_in w (w - (d + 5)) (slot_key w d key c))
        (λ r h q.
        let i = (is_in_lem w (w - (d + 5)) (slot_key w d key c) r).0 q in
        record { valid = h.valid; deep = omega arith; low = i.1.0; high = i.1.1 })
        all

-- A table has at most 65 records for each of its nodes.
pub records-few : (w : ℕ) {t : List Route} → Table w t → length t ≤ 65 * nodes w t
records-few w {t} v =
    let all : All (Here w 0 0) t =
    all_map (λ r u. record { valid = u; deep = omega arith; low = omega arith; high = rw (sub-zero w) (omega (arith, u.small)) }) v.valid in
    let few = run-few w (w / 5) 0 0 0 refl (omega arith) (omega arith) (aligned-zero (w - 0)) all v.order in
    rw (sub-zero w, nodes_walked w v.valid) at few
