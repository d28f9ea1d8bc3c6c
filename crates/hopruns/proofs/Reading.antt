-- A node's runs as words: laid with a mask, and read back position by position.
use Prim.Native.Nat.{ℕ, suc, ◌+◌, ◌-◌, ◌*◌, ◌/◌, ◌%◌, ◌≤◌, ◌<◌}
use mathlib.Core.Path.{◌≡◌, refl, sym, ap, ◌∙◌}
use mathlib.Core.Bool.{true, false, cond}
use mathlib.Core.List.{List, [], ◌∷◌, ◌++◌, append_assoc}
use native.Mathlib.Omega.{arith}
use lib.ListN.{length, get_or, set, take, drop, length-append, length-drop}
use lib.Seq.{slice, take_at}
use Rattle.nodes.specs.Room.{Pushed, Begins}
use Rattle.nodes.proofs.RoomLaws.{Read, pushed_then, pushed-length, pushed-word, begins-word, begins-right}
use Rattle.hopruns.specs.Packed.{is_some, stored_run, mask_of, words_of, packed}
use Rattle.hopruns.proofs.Laying.{drop-take}

-- ---- Laying.

pub stored_some : (s : List ℕ) → 0 < length s → (is_some s ≡ true) × (stored_run s ≡ length s ∷ s)
stored_some [] some = absurd (omega arith)
stored_some (h ∷ s) some = (refl, refl)

pub stored_none : (s : List ℕ) → length s ≡ 0 → (is_some s ≡ false) × (stored_run s ≡ [])
stored_none [] none = (refl, refl)
stored_none (h ∷ s) none = absurd (omega arith)

-- A run with its length, where it is no hole.
pub stored-laid : {s o o' : List ℕ} {top r : ℕ} (n : ℕ) → Pushed s top r o o' → n ≡ length s → 0 < n → 1 ≤ r → top ≤ length o
    → Pushed (stored_run s) top (r - 1) o (set o' (r - 1) n)
stored-laid {s} {o} {o'} {top} {r} n p e some low fits =
    let word = pushed-word n r o' low (omega (arith, pushed-length p fits, p.ends)) in
    let words = (stored_some s (omega arith)).1 in
    rw (words, ← e) (pushed_then p word fits)

-- The words of one position more.
pub words-next : (runs : ℕ → List ℕ) (k : ℕ) → words_of runs (suc k) ≡ stored_run (runs (30 - k)) ++ words_of runs k
unfolding words_of
words-next runs k = refl

pub mask_next : (runs : ℕ → List ℕ) (k : ℕ) → mask_of runs (suc k) ≡ mask_of runs k * 2 + cond (is_some (runs (30 - k))) 1 0
unfolding mask_of
mask_next runs k = refl

pub words_none : (runs : ℕ → List ℕ) → words_of runs 0 ≡ []
unfolding words_of
words_none runs = refl

pub mask_none : (runs : ℕ → List ℕ) → mask_of runs 0 ≡ 0
unfolding mask_of
mask_none runs = refl

-- ---- Reading.

-- Words that stand from a place on are the slice there, and within the room.
begins_slice : (u v : List ℕ) (top : ℕ) (o : List ℕ) → Begins (u ++ v) top o → slice top (top + length u) o ≡ u
begins_slice u v top o (rest, e) =
    let z : (top + length u) - top ≡ length u = omega arith in
    drop-take top (top + length u) o
    ∙ ap (λ (k : ℕ). take k (drop top o)) z
    ∙ ap (take (length u)) (e ∙ append_assoc u v rest)
    ∙ take_at u (v ++ rest) (length u) refl

begins-within : (u : List ℕ) (top : ℕ) (o : List ℕ) → Begins u top o → top ≤ length o → top + length u ≤ length o
begins-within u top o (rest, e) le = omega (arith, ap length e, length-append u rest, length-drop top o)

-- The first word of a node is its mask, and the words of its positions follow.
pub packed-word : (runs : ℕ → List ℕ) (top : ℕ) (o : List ℕ) → Begins (packed runs) top o → Read (mask_of runs 31) (words_of runs 31) top o
packed-word runs top o b = begins-word {ws = words_of runs 31} {top = top} {o = o} b

-- The next position is a hole, or has a run, by the lowest bit of the mask.
pub record Hole (runs : ℕ → List ℕ) (k mask top : ℕ) (o : List ℕ) : Type 0 where
  pub run : [] ≡ runs (30 - k)
  pub masked : mask / 2 ≡ mask_of runs k
  pub begins : Begins (words_of runs k) top o

pub record Some (runs : ℕ → List ℕ) (k mask top : ℕ) (o : List ℕ) : Type 0 where
  pub word : top < length o
  pub within : top + 1 + get_or o top 0 ≤ length o
  pub run : slice (top + 1) (top + 1 + get_or o top 0) o ≡ runs (30 - k)
  pub masked : mask / 2 ≡ mask_of runs k
  pub begins : Begins (words_of runs k) (top + 1 + get_or o top 0) o

module _ (runs : ℕ → List ℕ) (k mask top : ℕ) (o : List ℕ) (e : mask ≡ mask_of runs (suc k)) (b : Begins (words_of runs (suc k)) top o) where
  pub read_hole : mask % 2 ≡ 0 → Hole runs k mask top o
  read_hole even = go (runs (30 - k)) refl
    where
      go : (s : List ℕ) → s ≡ runs (30 - k) → Hole runs k mask top o
      go [] q =
          let m : mask ≡ mask_of runs k * 2 + 0 = e ∙ mask_next runs k ∙ ap (λ (t : List ℕ). mask_of runs k * 2 + cond (is_some t) 1 0) (sym q) in
          let w : words_of runs (suc k) ≡ words_of runs k = words-next runs k ∙ ap (λ (t : List ℕ). stored_run t ++ words_of runs k) (sym q) in
          record { run = q; masked = omega (arith, m); begins = rw w at b }
      go (h ∷ s) q =
          let m : mask ≡ mask_of runs k * 2 + 1 = e ∙ mask_next runs k ∙ ap (λ (t : List ℕ). mask_of runs k * 2 + cond (is_some t) 1 0) (sym q) in
          absurd (omega (arith, m))

  pub read_some : (mask % 2 ≡ 0 → ⊥) → Some runs k mask top o
  read_some odd = go (runs (30 - k)) refl
    where
      go : (s : List ℕ) → s ≡ runs (30 - k) → Some runs k mask top o
      go [] q =
          let m : mask ≡ mask_of runs k * 2 + 0 = e ∙ mask_next runs k ∙ ap (λ (t : List ℕ). mask_of runs k * 2 + cond (is_some t) 1 0) (sym q) in
          absurd (odd (omega (arith, m)))
      go (h ∷ s) q =
          let m : mask ≡ mask_of runs k * 2 + 1 = e ∙ mask_next runs k ∙ ap (λ (t : List ℕ). mask_of runs k * 2 + cond (is_some t) 1 0) (sym q) in
          let w : words_of runs (suc k) ≡ length (h ∷ s) ∷ ((h ∷ s) ++ words_of runs k) = words-next runs k ∙ ap (λ (t : List ℕ). stored_run t ++ words_of runs k) (sym q) in
          let first = begins-word {w = length (h ∷ s)} {ws = (h ∷ s) ++ words_of runs k} {top = top} {o = o} (rw w at b) in
          let size : get_or o top 0 ≡ length (h ∷ s) = first.word in
          let le : top + 1 ≤ length o = omega (arith, first.within) in
          let all = begins-within ((h ∷ s) ++ words_of runs k) (top + 1) o first.after le in
          record {
            word = first.within;
            within = omega (arith, all, size, length-append (h ∷ s) (words_of runs k));
            run = ap (λ (n : ℕ). slice (top + 1) (top + 1 + n) o) size ∙ begins_slice (h ∷ s) (words_of runs k) (top + 1) o first.after ∙ q;
            masked = omega (arith, m);
            begins = rw size (begins-right (h ∷ s) (words_of runs k) (top + 1) o first.after);
          }
