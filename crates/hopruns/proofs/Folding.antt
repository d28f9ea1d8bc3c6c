-- The fold of a node: what holds before each turn, and one turn.
use Prim.Native.Nat.{ℕ, zero, suc, ◌+◌, ◌-◌, ◌*◌, ◌^◌, ◌≤◌, ◌<◌}
use mathlib.Core.Path.{◌≡◌, refl, sym, ap, ap₂, ◌∙◌}
use mathlib.Core.Bool.{Bool, true, false, cond}
use mathlib.Core.Logic.{◌⊎◌, inl, inr}
use mathlib.Core.List.{List, [], ◌∷◌, ◌++◌}
use native.Mathlib.Nat.{sub-zero, eq-or-lt_of_le, lt_of_lt_of_le}
use native.Mathlib.Decide.{dec_lt}
use native.Mathlib.Omega.{arith}
use lib.Dec.{ltb}
use lib.ListN.{length, get_or, set, drop, length-set}
use lib.Pow.{pow_mono}
use lib.Seq.{slice, slice-cons, slice_empty, get_or-set_same, get_or-set_other}
use borrow.Author.Tests.{lt-ltb, le-ltb}
use Rattle.theory.proofs.Blocks.{pow_pos}
use Rattle.nodecount.specs.Walk.{sum_to}
use Rattle.nodes.specs.Room.{Pushed}
use Rattle.nodes.proofs.RoomLaws.{pushed_none, pushed_then, pushed-length, pushed-word}
use Rattle.hopruns.specs.declared.room.NodeWriter.{NodeWriter}
use Rattle.hopruns.specs.Runs.{Run, no_hop, combined}
use Rattle.hopruns.specs.Packed.{is_some, stored_run, mask_of, words_of}
use Rattle.hopruns.specs.Write.{MayPush, DidPush}
use Rattle.hopruns.specs.Fold.{Placed, Shown, first_hops, MayFold, Folds}
use Rattle.hopruns.proofs.Kept.{laid_slice, kept_slice, kept_run, combined-sorted, combined-below}
use Rattle.hopruns.proofs.Reading.{words-next, mask_next, words_none, mask_none}

-- ---- A run that was stored.

stored-length : (s : List ℕ) → (length s ≤ length (stored_run s)) × (length (stored_run s) ≤ length s + 1)
stored-length [] = (omega arith, omega arith)
stored-length (h ∷ s) = (omega arith, omega arith)

-- It stands just below the top.
pub stored_slice : {o o' : List ℕ} {top r : ℕ} (s : List ℕ) → Pushed (stored_run s) top r o o' → top ≤ length o → slice (top - length s) top o' ≡ s
stored_slice {o} {o'} {top} {r} [] p fits = rw (sub-zero top) (slice_empty top o')
stored_slice {o} {o'} {top} {r} (h ∷ s) p fits =
    let e : top - length (h ∷ s) ≡ suc r = omega (arith, p.ends) in
    let all = laid_slice p fits in
    let cons = slice-cons r top o' 0 (omega (arith, p.ends)) (omega (arith, pushed-length p fits)) in
    rw e (ap (drop 1) (sym cons ∙ all))

-- ---- Masks are small.

mask_small : (runs : ℕ → List ℕ) (k : ℕ) → mask_of runs k < 2 ^ k
mask_small runs zero = rw (mask_none runs) (pow_pos 0)
mask_small runs (suc k) = rw (mask_next runs k) (go (is_some (runs (30 - k))) (mask_small runs k))
  where
    go : (b : Bool) → mask_of runs k < 2 ^ k → mask_of runs k * 2 + cond b 1 0 < 2 ^ suc k
    go true lt = omega arith
    go false lt = omega arith

mask_within : (runs : ℕ → List ℕ) (k n : ℕ) → k ≤ n → mask_of runs k < 2 ^ n
mask_within runs k n le = lt_of_lt_of_le (mask_small runs k) (pow_mono le)

-- ---- Before the turn of position b, those from b on are done.

-- Of the first b positions, those that hold data.
abbrev pub holding_of : ℕ → ℕ → ℕ
holding_of b holding = cond (ltb b holding) b holding

pub record Folding (runs : ℕ → List ℕ) (holding top left : ℕ) (o₀ o from to : List ℕ) (node : NodeWriter) (rest b : ℕ) : Type 0 where
  pub turn : b ≤ 31
  pub starts : length from ≡ 63
  pub ends : length to ≡ 63
  pub room : rest + suc b + (b - holding) ≤ node.top
  pub placed : Placed o from to b node.top
  pub shown : Shown runs o from to b
  pub masked : node.mask ≡ mask_of runs (31 - b)
  pub laid : Pushed (words_of runs (31 - b)) top node.top o₀ o
  pub spent : rest + first_hops runs holding ≡ left + first_hops runs (holding_of b holding)

-- The same at another number for b.
pub turn : {runs : ℕ → List ℕ} {holding top left : ℕ} {o₀ o from to : List ℕ} {node : NodeWriter} {rest b b' : ℕ}
    → Folding runs holding top left o₀ o from to node rest b → b ≡ b' → Folding runs holding top left o₀ o from to node rest b'
turn s e = rw (← e) s

-- At first none is.
pub fold_start : (runs : ℕ → List ℕ) (holding top left : ℕ) (o from to : List ℕ) → MayFold runs holding o from to top left
    → Folding runs holding top left o o from to (record { mask = 0; top = top }) left 31
fold_start runs holding top left o from to m =
    record {
      turn = omega arith;
      starts = m.starts;
      ends = m.ends;
      room = omega (arith, m.room);
      placed = m.placed;
      shown = m.shown;
      masked = sym (mask_none runs);
      laid = rw (words_none runs) (pushed_none top o);
      spent = rw (le-ltb 31 holding m.counted);
    }

-- The hops that count at position b.
hops-next : (runs : ℕ → List ℕ) (b holding : ℕ)
    → first_hops runs (holding_of (suc b) holding) ≡ first_hops runs (holding_of b holding) + cond (ltb b holding) (length (runs b)) 0
unfolding sum_to
hops-next runs b holding = go (dec_lt b holding) (dec_lt (suc b) holding)
  where
    go : Dec (b < holding) → Dec (suc b < holding)
        → first_hops runs (holding_of (suc b) holding) ≡ first_hops runs (holding_of b holding) + cond (ltb b holding) (length (runs b)) 0
    go (yes lt) (yes next) = rw (lt-ltb b holding lt, lt-ltb (suc b) holding next)
    go (yes lt) (no last) = let e : holding ≡ suc b = omega arith in rw (lt-ltb b holding lt, le-ltb (suc b) holding (omega arith), e)
    go (no ge) (yes next) = absurd (omega arith)
    go (no ge) (no past) = rw (le-ltb b holding (omega arith), le-ltb (suc b) holding (omega arith)) (omega arith)

-- The words laid so far lie in the room.
pub fold_within : {runs : ℕ → List ℕ} {holding top left : ℕ} {o₀ from₀ to₀ o from to : List ℕ} {node : NodeWriter} {rest b : ℕ}
    → MayFold runs holding o₀ from₀ to₀ top left → Folding runs holding top left o₀ o from to node rest b → node.top ≤ length o
fold_within m s = omega (arith, s.laid.ends, m.within, pushed-length s.laid m.within)

module _ {runs : ℕ → List ℕ} {holding top left : ℕ} {o₀ from₀ to₀ o from to : List ℕ} {node : NodeWriter} {rest b : ℕ}
    (m : MayFold runs holding o₀ from₀ to₀ top left) (s : Folding runs holding top left o₀ o from to node rest (suc b)) where
  -- The two places below position b.
  pub below_left : Run o (get_or from (2 * b + 1) 0) (get_or to (2 * b + 1) 0) × (node.top ≤ get_or from (2 * b + 1) 0)
  below_left = s.placed (2 * b + 1) (omega arith) (omega (arith, s.turn))

  pub below_right : Run o (get_or from (2 * b + 2) 0) (get_or to (2 * b + 2) 0) × (node.top ≤ get_or from (2 * b + 2) 0)
  below_right = s.placed (2 * b + 2) (omega arith) (omega (arith, s.turn))

  -- The run that position b gets.
  abbrev pub made : List ℕ
  made = combined (slice (get_or from (2 * b + 1) 0) (get_or to (2 * b + 1) 0) o) (slice (get_or from (2 * b + 2) 0) (get_or to (2 * b + 2) 0) o)

  pub made_is : made ≡ runs b
  made_is =
      ap₂ combined (s.shown (2 * b + 1) (omega arith) (omega (arith, s.turn))) (s.shown (2 * b + 2) (omega arith) (omega (arith, s.turn)))
      ∙ sym (m.heap b (omega (arith, s.turn)))

  -- Where it does not fit, all do not.
  pub too_many : (size : ℕ) → size ≡ length made → rest < cond (ltb b holding) size 0 → left < first_hops runs holding
  too_many size e lt =
      let same : cond (ltb b holding) size 0 ≡ cond (ltb b holding) (length (runs b)) 0 = ap (λ (k : ℕ). cond (ltb b holding) k 0) (e ∙ ap length made_is) in
      omega (arith, s.spent, hops-next runs b holding, same)

  -- A position that does not count has one hop at most, and one that does has no more than are left.
  few : (size : ℕ) → size ≡ length made → cond (ltb b holding) size 0 ≤ rest
      → (b < holding → size ≤ rest) × (holding ≤ b → size ≤ 1)
  few size e fits = (
    λ lt. rw (lt-ltb b holding lt) at fits,
    λ ge. omega (arith, e, ap length made_is, m.narrow b ge (omega (arith, s.turn))),
  )

  -- So there is room for it,
  pub fold_room : (size : ℕ) → size ≡ length made → cond (ltb b holding) size 0 ≤ rest → size < node.top
  fold_room size e fits = go (dec_lt b holding)
    where
      go : Dec (b < holding) → size < node.top
      go (yes lt) = omega (arith, (few size e fits).0 lt, s.room)
      go (no ge) = omega (arith, (few size e fits).1 (omega arith), s.room)

  -- and it may be pushed.
  pub fold_may : (size : ℕ) → size ≡ length made → cond (ltb b holding) size 0 ≤ rest
      → MayPush node o (get_or from (2 * b + 1) 0) (get_or to (2 * b + 1) 0) (get_or from (2 * b + 2) 0) (get_or to (2 * b + 2) 0) size
  fold_may size e fits =
      record {
        bit = omega (arith, s.masked, mask_within runs (31 - suc b) 30 (omega arith));
        left = below_left.0;
        right = below_right.0;
        under_left = below_left.1;
        under_right = below_right.1;
        sized = e;
        room = λ some. fold_room size e fits;
      }

  -- One turn more is done.
  pub fold_step : (size n : ℕ) (node' : NodeWriter) (o' : List ℕ) → size ≡ length made → n ≡ cond (ltb b holding) size 0 → n ≤ rest → DidPush node made node' o o'
      → Folding runs holding top left o₀ o' (set from b (node.top - size)) (set to b node.top) node' (rest - n) b
  fold_step size n node' o' e en fits did =
      record {
        turn = omega (arith, s.turn);
        starts = length-set from b (node.top - size) ∙ s.starts;
        ends = length-set to b node.top ∙ s.ends;
        room = room (dec_lt b holding);
        placed = λ k low lt. place k lt (eq-or-lt_of_le low);
        shown = λ k low lt. show k lt (eq-or-lt_of_le low);
        masked = did.marked ∙ ap₂ (λ (x : ℕ) (l : List ℕ). x * 2 + cond (is_some l) 1 0) s.masked made_is ∙ sym mask_here;
        laid = rw words-here (rw made_is at (pushed_then s.laid p m.within));
        spent = omega (arith, s.spent, hops-next runs b holding, en, ap (λ (k : ℕ). cond (ltb b holding) k 0) (e ∙ ap length made_is));
      }
    where
      p : Pushed (stored_run made) node.top node'.top o o'
      p = did.laid

      count : cond (ltb b holding) size 0 ≤ rest
      count = omega (arith, en)

      here : suc (31 - suc b) ≡ 31 - b
      here = omega (arith, s.turn)

      number : 30 - (31 - suc b) ≡ b
      number = omega (arith, s.turn)

      words-here : words_of runs (31 - b) ≡ stored_run (runs b) ++ words_of runs (31 - suc b)
      words-here = ap (words_of runs) (sym here) ∙ words-next runs (31 - suc b) ∙ ap (λ (k : ℕ). stored_run (runs k) ++ words_of runs (31 - suc b)) number

      mask_here : mask_of runs (31 - b) ≡ mask_of runs (31 - suc b) * 2 + cond (is_some (runs b)) 1 0
      mask_here =
          ap (mask_of runs) (sym here) ∙ mask_next runs (31 - suc b) ∙ ap (λ (k : ℕ). mask_of runs (31 - suc b) * 2 + cond (is_some (runs k)) 1 0) number

      room : Dec (b < holding) → (rest - n) + suc b + (b - holding) ≤ node'.top
      room (yes lt) =
          let all : n ≡ size = en ∙ rw (lt-ltb b holding lt) in
          omega (arith, all, p.ends, (stored-length made).1, e, s.room)
      room (no ge) = omega (arith, (few size e count).1 (omega arith), p.ends, (stored-length made).1, e, s.room)

      in_f : b < length from
      in_f = omega (arith, s.turn, s.starts)

      in_t : b < length to
      in_t = omega (arith, s.turn, s.ends)

      -- Its run.
      stands : slice (node.top - size) node.top o' ≡ made
      stands = rw e (stored_slice made p (fold_within m s))

      run : Run o' (node.top - size) node.top
      run =
          let l = slice (get_or from (2 * b + 1) 0) (get_or to (2 * b + 1) 0) o in
          let r = slice (get_or from (2 * b + 2) 0) (get_or to (2 * b + 2) 0) o in
          record {
            order = omega arith;
            within = omega (arith, (fold_within m s), pushed-length p (fold_within m s));
            sorted = rw stands (combined-sorted l r below_left.0.sorted below_right.0.sorted);
            hops = rw stands (combined-below no_hop l r below_left.0.hops below_right.0.hops);
          }

      place : (k : ℕ) → k < 63 → (b ≡ k) ⊎ (b < k)
          → Run o' (get_or (set from b (node.top - size)) k 0) (get_or (set to b node.top) k 0) × (node'.top ≤ get_or (set from b (node.top - size)) k 0)
      place k lt (inl z) =
          rw (← z, get_or-set_same from b (node.top - size) 0 in_f, get_or-set_same to b node.top 0 in_t)
          (run, omega (arith, p.ends, (stored-length made).0, e))
      place k lt (inr l) =
          let old = s.placed k l lt in
          rw (get_or-set_other from b k (node.top - size) 0 (λ z. omega arith), get_or-set_other to b k node.top 0 (λ z. omega arith))
          (kept_run p (fold_within m s) (get_or from k 0) (get_or to k 0) old.1 old.0, omega (arith, old.1, p.ends))

      show : (k : ℕ) → k < 63 → (b ≡ k) ⊎ (b < k)
          → slice (get_or (set from b (node.top - size)) k 0) (get_or (set to b node.top) k 0) o' ≡ runs k
      show k lt (inl z) =
          rw (← z, get_or-set_same from b (node.top - size) 0 in_f, get_or-set_same to b node.top 0 in_t) (stands ∙ made_is)
      show k lt (inr l) =
          rw (get_or-set_other from b k (node.top - size) 0 (λ z. omega arith), get_or-set_other to b k node.top 0 (λ z. omega arith))
          (kept_slice p (fold_within m s) (get_or from k 0) (get_or to k 0) (s.placed k l lt).1 ∙ s.shown k l lt)

no_hops : (runs : ℕ → List ℕ) → first_hops runs 0 ≡ 0
unfolding sum_to
no_hops runs = refl

-- All are done, and the mask is laid.
pub fold_end : {runs : ℕ → List ℕ} {holding top left : ℕ} {o₀ from₀ to₀ o from to : List ℕ} {node : NodeWriter} {rest : ℕ}
    → MayFold runs holding o₀ from₀ to₀ top left → Folding runs holding top left o₀ o from to node rest 0
    → Folds runs holding top left (record { top = node.top - 1; from = get_or from 0 0; to = get_or to 0 0; left = rest }) o₀ (set o (node.top - 1) node.mask)
fold_end {runs} {holding} {top} {left} {o₀} {from₀} {to₀} {o} {from} {to} {node} {rest} m s =
    let old = s.placed 0 (omega arith) (omega arith) in
    record {
      pushed = rw (← s.masked) (pushed_then s.laid word m.within);
      first = kept_run word within (get_or from 0 0) (get_or to 0 0) old.1 old.0;
      shows = kept_slice word within (get_or from 0 0) (get_or to 0 0) old.1 ∙ s.shown 0 (omega arith) (omega arith);
      under = omega (arith, old.1);
      spent = none (dec_lt 0 holding);
    }
  where
    within : node.top ≤ length o
    within = fold_within m s

    word : Pushed (node.mask ∷ []) node.top (node.top - 1) o (set o (node.top - 1) node.mask)
    word = pushed-word node.mask node.top o (omega (arith, s.room)) within

    none : Dec (0 < holding) → rest + first_hops runs holding ≡ left
    none (yes lt) =
        let z : first_hops runs (holding_of 0 holding) ≡ first_hops runs 0 = rw (lt-ltb 0 holding lt) in
        omega (arith, s.spent, z, no_hops runs)
    none (no ge) =
        let e : holding ≡ 0 = omega arith in
        let z : first_hops runs (holding_of 0 holding) ≡ first_hops runs 0 = rw (le-ltb 0 holding (omega arith), e) in
        omega (arith, s.spent, z, no_hops runs)
