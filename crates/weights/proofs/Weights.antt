-- What the nodes of a table weigh is what a walk over nodes meets: the node at depth d over the addresses of one block, and its 32 slots, each with
-- its run of the records. So their order and repetition are of no account. Over the width w.
use Prim.Native.Nat.{ℕ, zero, suc, ◌+◌, ◌-◌, ◌*◌, ◌/◌, ◌^◌, ◌≤◌, ◌<◌}
use mathlib.Core.Path.{◌≡◌, refl, sym, ap, ap₂, ◌∙◌}
use mathlib.Core.Bool.{Bool, true, false, true≢false, cond, ◌||◌, or-true}
use mathlib.Core.List.{List, [], ◌∷◌}
use mathlib.Core.Logic.{◌↔◌, ◌⊎◌, inl, inr}
use native.Mathlib.Nat.{sub-zero, eq-or-lt_of_le, add-mul, add-mul-div_right, div-lt_iff_lt-mul}
use native.Mathlib.Decide.{dec_lt}
use native.Mathlib.Omega.{arith}
use lib.Dec.{ltb, eqb}
use lib.Pow.{pow-add, shl-shr, shr_mono}
use borrow.Author.Tests.{lt-leb, lt-ltb, le-ltb, ltb-true, eq-eqb, ne_eqb, eqb-true, eqb-false}
use Rattle.theory.specs.Results.{In, part}
use Rattle.theory.specs.Routes.{Route, Aligned, Valid, All, nil, cons}
use Rattle.theory.proofs.Blocks.{pow_pos, aligned-zero, block→in, in→block, aligned_down, fewer_bits}
use Rattle.theory.proofs.Lists.{all_map}
use Rattle.theory.proofs.Parts.{all_part}
use Rattle.positions.specs.Runs.{is_in, inside, place_at}
use Rattle.positions.proofs.Runs.{is_in_lem}
use Rattle.positions.proofs.RunsNode.{size-slot}
use Rattle.nodecount.specs.Nodes.{levels, node_at, seen}
use Rattle.nodecount.specs.Walk.{or_none, sum_to}
use Rattle.nodecount.proofs.NodeCount.{node-held, node_true}
use Rattle.nodecount.proofs.NodeRuns.{Inside, slot_key, slot_run, slot_lined}
use Rattle.weights.specs.Weights.{fresh_by, brought_by, weighed, weighed_in}

-- ---- Sums.
pub sum_same : (f g : ℕ → ℕ) (n : ℕ) → ((c : ℕ) → f c ≡ g c) → sum_to f n ≡ sum_to g n
unfolding sum_to
sum_same f g zero h = refl
sum_same f g (suc n) h = ap₂ ◌+◌ (sum_same f g n h) (h n)

sum_add : (f g : ℕ → ℕ) (n : ℕ) → sum_to (λ c. f c + g c) n ≡ sum_to f n + sum_to g n
unfolding sum_to
sum_add f g zero = refl
sum_add f g (suc n) = omega (arith, sum_add f g n)

sum_none : (f : ℕ → ℕ) (n : ℕ) → ((c : ℕ) → f c ≡ 0) → sum_to f n ≡ 0
unfolding sum_to
sum_none f zero h = refl
sum_none f (suc n) h = omega (arith, sum_none f n h, h n)

sum_one : (d v n : ℕ) → sum_to (λ c. cond (eqb c d) v 0) n ≡ cond (ltb d n) v 0
unfolding sum_to
sum_one d v zero = rw (le-ltb d 0 (omega arith))
sum_one d v (suc n) = rw (sum_one d v n) (go (dec_lt d n) (eqb n d) refl)
  where
    go : Dec (d < n) → (b : Bool) → eqb n d ≡ b → cond (ltb d n) v 0 + cond b v 0 ≡ cond (ltb d (suc n)) v 0
    go (yes lt) true e = absurd (omega (arith, eqb-true n d e))
    go (yes lt) false e = rw (lt-ltb d n lt, lt-ltb d (suc n) (omega arith)) (omega arith)
    go (no ge) true e = rw (le-ltb d n (omega arith), lt-ltb d (suc n) (omega (arith, eqb-true n d e))) (omega arith)
    go (no ge) false e = rw (le-ltb d n (omega arith), le-ltb d (suc n) (omega (arith, eqb-false n d e))) (omega arith)

-- ---- A run in one block of depth d: it shares the node there.

-- A record lies in the block that begins at k exactly when it is long enough and its first d bits are those of k.
in_block : (w d k : ℕ) → d ≤ w → Aligned (w - d) k → (r : Route)
    → (is_in w (w - d) k r ≡ true) ↔ ((d ≤ r.len) × (r.addr / 2 ^ (w - d) ≡ k / 2 ^ (w - d)))
in_block w d k le lined r = (
  λ e. let z = (is_in_lem w (w - d) k r).0 e in (omega arith, in→block (w - d) k r.addr lined z.1),
  λ z. (is_in_lem w (w - d) k r).1 (omega arith, block→in (w - d) k r.addr lined z.1),
)

module _ (w e d k : ℕ) (level : d ≡ 5 * suc e) (within : d ≤ w) (lined : Aligned (w - d) k) where
  -- Of the earlier records only those of the same block are seen at that depth or deeper.
  seen-part : (m x : ℕ) → suc e ≤ m → 5 * m ≤ w → x / 2 ^ (w - d) ≡ k / 2 ^ (w - d) → (earlier : List Route)
      → seen w m x (part (is_in w (w - d) k) earlier) ≡ seen w m x earlier
  seen-part m x le fits q [] = refl
  seen-part m x le fits q (s ∷ t) = go (is_in w (w - d) k s) refl (seen-part m x le fits q t)
    where
      other : is_in w (w - d) k s ≡ false → (b : Bool) → node_at w m x s ≡ b → b ≡ false
      other f true n =
          let u = node_true w m x s n in
          let same : s.addr / 2 ^ (w - d) ≡ x / 2 ^ (w - d) = fewer_bits w d (5 * m) s.addr x (omega arith) u.1 in
          let h : is_in w (w - d) k s ≡ true = (in_block w d k within lined s).1 (omega (arith, u.0), same ∙ q) in
          let z : ◌≡◌ {A = ℕ} 0 1 = cc in
          absurd (omega arith)
      other f false n = refl

      go : (b : Bool) → is_in w (w - d) k s ≡ b → seen w m x (part (is_in w (w - d) k) t) ≡ seen w m x t
          → seen w m x (cond b (s ∷ part (is_in w (w - d) k) t) (part (is_in w (w - d) k) t)) ≡ (node_at w m x s || seen w m x t)
      go true f ih = ap (λ (b : Bool). node_at w m x s || b) ih
      go false f ih = rw (other f (node_at w m x s) refl) ih

-- ---- The 32 slots of the node at depth d whose first address is key.

module _ (w d key : ℕ) (fits : d + 5 ≤ w) (lined : Aligned (w - d) key) where
  -- Its number is that of the node's first slot, and c more.
  slot-number : (c : ℕ) → slot_key w d key c / 2 ^ (w - (d + 5)) ≡ key / 2 ^ (w - (d + 5)) + c
  slot-number c = rw (size-slot (w - (d + 5))) (add-mul-div_right key c (pow_pos (w - (d + 5))))

  -- The slot in which an address lies.
  slot_of : ℕ → ℕ
  slot_of x = x / 2 ^ (w - (d + 5)) - key / 2 ^ (w - (d + 5))

  slot_small : (x : ℕ) → In (w - d) key x → slot_of x < 32
  unfolding slot_of
  slot_small x i =
      let k : ℕ = w - (d + 5) in
      let a = aligned_down k (w - d) key (omega arith) lined in
      let base : key / 2 ^ k ≡ a.0 = ap (λ (y : ℕ). y / 2 ^ k) a.1 ∙ shl-shr a.0 k in
      let size : 2 ^ (w - d) ≡ 2 ^ k * 32 = ap (λ (n : ℕ). 2 ^ n) (let n : w - d ≡ k + 5 = omega arith in n) ∙ pow-add 2 k 5 in
      let top : x / 2 ^ k < a.0 + 32 = (div-lt_iff_lt-mul (pow_pos k)).1 (omega (arith, a.1, add-mul a.0 32 (2 ^ k))) in
      omega arith

  slot_is : (r : Route) → Inside w d key r → d + 5 ≤ r.len → (c : ℕ) → is_in w (w - (d + 5)) (slot_key w d key c) r ≡ eqb c (slot_of r.addr)
  unfolding slot_of
  slot_is r i le c = go (is_in w (w - (d + 5)) (slot_key w d key c) r) refl
    where
      k : ℕ
      k = w - (d + 5)

      low : key / 2 ^ k ≤ r.addr / 2 ^ k
      low = shr_mono k i.inside.0

      at : (is_in w k (slot_key w d key c) r ≡ true) ↔ ((d + 5 ≤ r.len) × (r.addr / 2 ^ k ≡ slot_key w d key c / 2 ^ k))
      at = in_block w (d + 5) (slot_key w d key c) fits (slot_lined w d key fits lined c) r

      go : (b : Bool) → is_in w k (slot_key w d key c) r ≡ b → b ≡ eqb c (slot_of r.addr)
      go true e = sym (eq-eqb c (slot_of r.addr) (omega (arith, at.0 e, slot-number c)))
      go false e =
          sym (ne_eqb c (slot_of r.addr) (λ q.
          true≢false (sym (at.1 (le, (let s : r.addr / 2 ^ k ≡ slot_key w d key c / 2 ^ k = omega (arith, low, slot-number c) in s))) ∙ e)))

  slot_none : (r : Route) → r.len < d + 5 → (c : ℕ) → is_in w (w - (d + 5)) (slot_key w d key c) r ≡ false
  slot_none r lt c = rw (lt-leb (w - (w - (d + 5))) r.len (omega arith))

  slot-inside : (c : ℕ) {rs : List Route} → All (Inside w d key) rs → All (Inside w (d + 5) (slot_key w d key c)) (slot_run w d key c rs)
  slot-inside c all =
      all_part (is_in w (w - (d + 5)) (slot_key w d key c))
      (λ r i e. record { short = i.short; inside = ((is_in_lem w (w - (d + 5)) (slot_key w d key c) r).0 e).1 })
      all

-- A list whose number is 0 has 0 in any case.
none_zero : (t : List Route) → or_none t 0 ≡ 0
none_zero [] = refl
none_zero (r ∷ t) = refl

-- A weight that is the same at all addresses of a node.
module _ (weight : ℕ → ℕ → ℕ) (steady : (n x y : ℕ) → x / 2 ^ n ≡ y / 2 ^ n → weight n x ≡ weight n y) where
  -- ---- What lies deeper than depth 5 * e.

  -- What the nodes at depths 5 * suc e up to 5 * m weigh in which the address x lies and no earlier record has one.
  unfoldable fresh_from : ℕ → ℕ → List Route → ℕ → ℕ → ℕ
  fresh_from w e earlier x zero = 0
  fresh_from w e earlier x (suc m) = fresh_from w e earlier x m + cond (ltb e (suc m)) (cond (seen w (suc m) x earlier) 0 (weight (w - 5 * suc m) x)) 0

  -- What the nodes deeper than depth 5 * e weigh that the records of a list bring, in turn, beside those of the earlier records.
  unfoldable brought_from : ℕ → ℕ → List Route → List Route → ℕ
  brought_from w e earlier [] = 0
  brought_from w e earlier (r ∷ t) = fresh_from w e earlier r.addr (levels r) + brought_from w e (r ∷ earlier) t

  from_root : (w : ℕ) (earlier : List Route) (x m : ℕ) → fresh_from w 0 earlier x m ≡ fresh_by weight w earlier x m
  unfolding fresh_from fresh_by
  from_root w earlier x zero = refl
  from_root w earlier x (suc m) = rw (lt-ltb 0 (suc m) (omega arith)) (ap (λ (n : ℕ). n + cond (seen w (suc m) x earlier) 0 (weight (w - 5 * suc m) x)) (from_root w earlier x m))

  brought-root : (w : ℕ) (earlier t : List Route) → brought_from w 0 earlier t ≡ brought_by weight w earlier t
  unfolding brought_from brought_by
  brought-root w earlier [] = refl
  brought-root w earlier (r ∷ t) = ap₂ ◌+◌ (from_root w earlier r.addr (levels r)) (brought-root w (r ∷ earlier) t)

  from_none : (w e : ℕ) (earlier : List Route) (x m : ℕ) → m ≤ e → fresh_from w e earlier x m ≡ 0
  unfolding fresh_from
  from_none w e earlier x zero le = refl
  from_none w e earlier x (suc m) le = rw (le-ltb e (suc m) le, from_none w e earlier x m (omega arith)) refl

  brought_none : (w e : ℕ) (earlier : List Route) {t : List Route} → All (λ r. levels r ≤ e) t → brought_from w e earlier t ≡ 0
  unfolding brought_from
  brought_none w e earlier nil = refl
  brought_none w e earlier (cons {r = r} p ps) = omega (arith, from_none w e earlier r.addr (levels r) p, brought_none w e (r ∷ earlier) ps)

  -- The depth just below, and the deeper ones.
  from_next : (w e : ℕ) (earlier : List Route) (x m : ℕ) → e < m
      → fresh_from w e earlier x m ≡ cond (seen w (suc e) x earlier) 0 (weight (w - 5 * suc e) x) + fresh_from w (suc e) earlier x m
  unfolding fresh_from
  from_next w e earlier x zero lt = absurd (omega arith)
  from_next w e earlier x (suc m) lt = go (eq-or-lt_of_le lt) (from_next w e earlier x m)
    where
      go : (suc e ≡ suc m) ⊎ (suc e < suc m)
          → (e < m → fresh_from w e earlier x m ≡ cond (seen w (suc e) x earlier) 0 (weight (w - 5 * suc e) x) + fresh_from w (suc e) earlier x m)
          → fresh_from w e earlier x m + cond (ltb e (suc m)) (cond (seen w (suc m) x earlier) 0 (weight (w - 5 * suc m) x)) 0
          ≡ cond (seen w (suc e) x earlier) 0 (weight (w - 5 * suc e) x) + (fresh_from w (suc e) earlier x m + cond (ltb (suc e) (suc m)) (cond (seen w (suc m) x earlier) 0 (weight (w - 5 * suc m) x)) 0)
      go (inl q) ih =
          let same : cond {A = ℕ} (seen w (suc e) x earlier) 0 (weight (w - 5 * suc e) x) ≡ cond (seen w (suc m) x earlier) 0 (weight (w - 5 * suc m) x) =
          ap (λ (j : ℕ). cond (seen w j x earlier) 0 (weight (w - 5 * j) x)) q in
          rw (lt-ltb e (suc m) (omega arith), le-ltb (suc e) (suc m) (omega arith))
          (omega (arith, from_none w e earlier x m (omega arith), from_none w (suc e) earlier x m (omega arith)))
      go (inr l) ih = rw (lt-ltb e (suc m) (omega arith), lt-ltb (suc e) (suc m) l) (omega (arith, ih (omega arith)))

  module _ (w e d k : ℕ) (level : d ≡ 5 * suc e) (within : d ≤ w) (lined : Aligned (w - d) k) where
    -- Where the node is seen from each address of the block, nothing is brought at its depth.
    shared_brought : (earlier : List Route) {t : List Route} → ((x : ℕ) → x / 2 ^ (w - d) ≡ k / 2 ^ (w - d) → seen w (suc e) x earlier ≡ true)
        → All (λ r. is_in w (w - d) k r ≡ true) t → brought_from w e earlier t ≡ brought_from w (suc e) earlier t
    unfolding brought_from
    shared_brought earlier h nil = refl
    shared_brought earlier h (cons {r = r} p ps) =
        let b = (in_block w d k within lined r).0 p in
        ap₂ ◌+◌
        (from_next w e earlier r.addr (levels r) (omega arith) ∙ rw (h r.addr b.1) (omega arith))
        (shared_brought (r ∷ earlier) (λ x q. rw (h x q) (or-true (node_at w (suc e) x r))) ps)

    -- A run that is not empty brings the node itself, and what lies deeper.
    run-brought : {t : List Route} → All (λ r. is_in w (w - d) k r ≡ true) t → or_none t (weight (w - d) k + brought_from w (suc e) [] t) ≡ brought_from w e [] t
    unfolding brought_from
    run-brought nil = refl
    run-brought (cons {r = r} p ps) =
        let b = (in_block w d k within lined r).0 p in
        let f : fresh_from w e [] r.addr (levels r) ≡ weight (w - 5 * suc e) r.addr + fresh_from w (suc e) [] r.addr (levels r) =
        from_next w e [] r.addr (levels r) (omega arith) in
        let held : (x : ℕ) → x / 2 ^ (w - d) ≡ k / 2 ^ (w - d) → seen w (suc e) x (r ∷ []) ≡ true =
        λ x q. ap (λ (y : Bool). y || false) (node-held w (suc e) x r (omega arith) (rw level at (b.1 ∙ sym q))) in
        let s = shared_brought (r ∷ []) held ps in
        let same : weight (w - 5 * suc e) r.addr ≡ weight (w - d) k = ap (λ (i : ℕ). weight (w - i) r.addr) (sym level) ∙ steady (w - d) r.addr k b.1 in
        omega (arith, f, s, same)

    from_part : (earlier : List Route) (x m : ℕ) → 5 * m ≤ w → x / 2 ^ (w - d) ≡ k / 2 ^ (w - d)
        → fresh_from w e (part (is_in w (w - d) k) earlier) x m ≡ fresh_from w e earlier x m
    unfolding fresh_from
    from_part earlier x zero fits q = refl
    from_part earlier x (suc m) fits q = ap₂ ◌+◌ (from_part earlier x m (omega arith) q) (go (ltb e (suc m)) refl)
      where
        go : (b : Bool) → ltb e (suc m) ≡ b
            → cond b (cond {A = ℕ} (seen w (suc m) x (part (is_in w (w - d) k) earlier)) 0 (weight (w - 5 * suc m) x)) 0 ≡ cond b (cond (seen w (suc m) x earlier) 0 (weight (w - 5 * suc m) x)) 0
        go true l = ap (λ (b : Bool). cond b 0 (weight (w - 5 * suc m) x)) (seen-part w e d k level within lined (suc m) x (ltb-true e (suc m) l) fits q earlier)
        go false l = refl

  -- What the slots' runs bring is what the run brings deeper than the node.
  module _ (w e d key : ℕ) (level : d ≡ 5 * e) (fits : d + 5 ≤ w) (lined : Aligned (w - d) key) where
    -- Of the slots one alone holds a record that is long enough, and a shorter record brings nothing.
    slot-fresh : (earlier : List Route) (r : Route) → Inside w d key r
        → sum_to (λ c. cond (is_in w (w - (d + 5)) (slot_key w d key c) r) (fresh_from w e (slot_run w d key c earlier) r.addr (levels r)) 0) 32
        ≡ fresh_from w e earlier r.addr (levels r)
    slot-fresh earlier r i = sum_same _ (λ c. cond (is_in w (w - (d + 5)) (slot_key w d key c) r) here 0) 32 own ∙ one (dec_lt r.len (d + 5))
      where
        here : ℕ
        here = fresh_from w e earlier r.addr (levels r)

        own : (c : ℕ) → cond (is_in w (w - (d + 5)) (slot_key w d key c) r) (fresh_from w e (slot_run w d key c earlier) r.addr (levels r)) 0
            ≡ cond (is_in w (w - (d + 5)) (slot_key w d key c) r) here 0
        own c = go (is_in w (w - (d + 5)) (slot_key w d key c) r) refl
          where
            go : (b : Bool) → is_in w (w - (d + 5)) (slot_key w d key c) r ≡ b
                → cond b (fresh_from w e (slot_run w d key c earlier) r.addr (levels r)) 0 ≡ cond b here 0
            go true q =
                from_part w e (d + 5) (slot_key w d key c) (omega arith) fits (slot_lined w d key fits lined c) earlier r.addr (levels r) (omega (arith, i.short))
                ((in_block w (d + 5) (slot_key w d key c) fits (slot_lined w d key fits lined c) r).0 q).1
            go false q = refl

        one : Dec (r.len < d + 5) → sum_to (λ c. cond (is_in w (w - (d + 5)) (slot_key w d key c) r) here 0) 32 ≡ here
        one (yes lt) =
            sum_none _ 32 (λ c. ap (λ (b : Bool). cond b here 0) (slot_none w d key fits lined r lt c))
            ∙ sym (from_none w e earlier r.addr (levels r) (omega arith))
        one (no ge) =
            sum_same _ (λ c. cond (eqb c (slot_of w d key fits lined r.addr)) here 0) 32
            (λ c. ap (λ (b : Bool). cond b here 0) (slot_is w d key fits lined r i (omega arith) c))
            ∙ sum_one (slot_of w d key fits lined r.addr) here 32
            ∙ ap (λ (b : Bool). cond b here 0) (lt-ltb (slot_of w d key fits lined r.addr) 32 (slot_small w d key fits lined r.addr i.inside))

    slots-brought : (earlier : List Route) {t : List Route} → All (Inside w d key) t
        → sum_to (λ c. brought_from w e (slot_run w d key c earlier) (slot_run w d key c t)) 32 ≡ brought_from w e earlier t
    unfolding brought_from
    slots-brought earlier nil = sum_none _ 32 (λ c. refl)
    slots-brought earlier (cons {r = r} {t = t} i is) =
        sum_same _ (λ c. new c + deeper c) 32 (λ c. split c (is_in w (w - (d + 5)) (slot_key w d key c) r))
        ∙ sum_add new deeper 32
        ∙ ap₂ ◌+◌ (slot-fresh earlier r i) (slots-brought (r ∷ earlier) is)
      where
        new : ℕ → ℕ
        new c = cond (is_in w (w - (d + 5)) (slot_key w d key c) r) (fresh_from w e (slot_run w d key c earlier) r.addr (levels r)) 0

        deeper : ℕ → ℕ
        deeper c = brought_from w e (slot_run w d key c (r ∷ earlier)) (slot_run w d key c t)

        split : (c : ℕ) (b : Bool)
            → brought_from w e (slot_run w d key c earlier) (cond b (r ∷ slot_run w d key c t) (slot_run w d key c t))
            ≡ cond b (fresh_from w e (slot_run w d key c earlier) r.addr (levels r)) 0
            + brought_from w e (cond b (r ∷ slot_run w d key c earlier) (slot_run w d key c earlier)) (slot_run w d key c t)
        split c true = refl
        split c false = omega arith

  -- The walk from the node at depth d meets it and what the run brings deeper than that, if it goes as deep as the records have nodes.
  runs_brought : (w k e d key : ℕ) {rs : List Route} → d ≡ 5 * e → d + 5 * k ≤ w → Aligned (w - d) key → All (λ r. levels r ≤ e + k) rs
      → All (Inside w d key) rs → weighed_in weight w (suc k) (w - d) key rs ≡ weight (w - d) key + brought_from w e [] rs
  unfolding weighed_in
  runs_brought w zero e d key {rs} level fits lined few all =
      let deeper = brought_none w e [] (all_map (λ r h. (let j : levels r ≤ e = omega arith in j)) few) in
      let none = sum_none (λ c. or_none (inside w ((w - d) - 5) (place_at ((w - d) - 5) key 5 c) rs) 0) 32
      (λ c. none_zero (inside w ((w - d) - 5) (place_at ((w - d) - 5) key 5 c) rs)) in
      omega arith
  runs_brought w (suc k) e d key {rs} level fits lined few all =
      let deep : d + 5 ≤ w = omega arith in
      let size : (w - d) - 5 ≡ w - (d + 5) = omega arith in
      rw size (ap (λ (n : ℕ). weight (w - d) key + n)
      (sum_same _ (λ c. brought_from w e [] (slot_run w d key c rs)) 32
      (λ c.
      let down = slot_lined w d key deep lined c in
      ap (or_none (slot_run w d key c rs))
      (runs_brought w k (suc e) (d + 5) (slot_key w d key c) (omega arith) (omega arith) down
      (all_part _ (λ r h q. (let j : levels r ≤ suc e + k = omega arith in j)) few) (slot-inside w d key deep lined c all))
      ∙ run-brought w e (d + 5) (slot_key w d key c) (omega arith) deep down (all_part (is_in w (w - (d + 5)) (slot_key w d key c)) (λ r i q. q) all))
      ∙ slots-brought w e d key level deep lined [] all))

  -- What a table weighs, its records in any order, is what the walk from the root meets.
  pub weighed_runs : (w k : ℕ) {rs : List Route} → All (Valid w) rs → 5 * k ≤ w → All (λ r. levels r ≤ k) rs → weighed_in weight w (suc k) w 0 rs ≡ weighed weight w rs
  unfolding weighed
  weighed_runs w k {rs} all fits few =
      rw (sub-zero w) at (runs_brought w k 0 0 0 refl (omega arith) (aligned-zero (w - 0))
      (all_map (λ r h. (let j : levels r ≤ 0 + k = omega arith in j)) few)
      (all_map (λ r v. record { short = v.short; inside = (omega arith, rw (sub-zero w) (omega (arith, v.small))) }) all))
      ∙ ap (λ (n : ℕ). weight w 0 + n) (brought-root w [] rs)
