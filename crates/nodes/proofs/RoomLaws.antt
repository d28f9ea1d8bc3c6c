-- The work room: what is laid there below what is there, what reads it back, and a node's block by the blocks of its slots.
use Prim.Native.Nat.{ℕ, suc, ◌+◌, ◌-◌, ◌≤◌, ◌<◌}
use mathlib.Core.Path.{◌≡◌, sym, ap, ◌∙◌}
use mathlib.Core.List.{List, [], ◌∷◌, ◌++◌, append_assoc}
use native.Mathlib.Numerals.{add-one}
use native.Mathlib.Omega.{arith}
use lib.ListN.{length, get_or, set, take, drop, length-append, length-take, length-drop, take-append-drop}
use lib.Seq.{take-append-le, take-take, drop_at, drop-cons, drop-drop, drop-append_seam, length-take-le, sets, sets-eq}
use Rattle.nodes.specs.Room.{Pushed, Begins}

-- ---- Laying words.

-- Nothing laid.
pub pushed_none : (top : ℕ) (o : List ℕ) → Pushed [] top top o o
pushed_none top o = record { ends = omega arith; laid = sym (take-append-drop top o) }

-- Words laid below others.
pub pushed_then : {x y : List ℕ} {top r q : ℕ} {o o₁ o₂ : List ℕ} → Pushed x top r o o₁ → Pushed y r q o₁ o₂ → top ≤ length o
    → Pushed (y ++ x) top q o o₂
pushed_then {x} {y} {top} {r} {q} {o} {o₁} {o₂} p s h =
    let a = p.ends in
    let b = s.ends in
    let l : length (take r o) ≡ r = length-take-le r o (omega arith) in
    let f : take q o₁ ≡ take q o =
    ap (take q) p.laid ∙ take-append-le q (take r o) (x ++ drop top o) (omega arith) ∙ take-take q r o (omega arith) in
    let g : drop r o₁ ≡ x ++ drop top o = ap (drop r) p.laid ∙ drop_at (take r o) (x ++ drop top o) r l in
    record { ends = simp length-append (omega arith); laid = s.laid ∙ rw (f, g) (simp append_assoc) }

-- The room keeps its length.
pub pushed-length : {ws : List ℕ} {top r : ℕ} {o o' : List ℕ} → Pushed ws top r o o' → top ≤ length o → length o' ≡ length o
pushed-length {ws} {top} {r} {o} {o'} p h =
    let a = p.ends in
    ap length p.laid ∙ simp (length-append, length-take, length-drop) (omega arith)

-- Words stored one after another.
pub pushed-sets : (ws : List ℕ) (top r : ℕ) (o : List ℕ) → r + length ws ≡ top → top ≤ length o → Pushed ws top r o (sets o r ws)
pushed-sets ws top r o e h = record { ends = e; laid = sets-eq ws o r (omega arith) ∙ rw e (simp append_assoc) }

-- One word stored.
pub pushed-word : (w top : ℕ) (o : List ℕ) → 1 ≤ top → top ≤ length o → Pushed (w ∷ []) top (top - 1) o (set o (top - 1) w)
pushed-word w top o low h = pushed-sets (w ∷ []) top (top - 1) o (omega arith) h

-- Two words stored.
pub pushed-two : (a b top : ℕ) (o : List ℕ) → 2 ≤ top → top ≤ length o
    → Pushed (a ∷ b ∷ []) top (top - 2) o (set (set o (top - 2) a) (top - 1) b)
pushed-two a b top o low h =
    let e : top - 1 ≡ suc (top - 2) = omega arith in
    rw e (pushed-sets (a ∷ b ∷ []) top (top - 2) o (omega arith) h)

-- ---- Reading words.

-- What was laid is what is read there.
pub pushed-begins : {ws : List ℕ} {top r : ℕ} {o o' : List ℕ} → Pushed ws top r o o' → top ≤ length o → Begins ws r o'
pushed-begins {ws} {top} {r} {o} {o'} p h =
    let a = p.ends in
    (drop top o, ap (drop r) p.laid ∙ drop_at (take r o) (ws ++ drop top o) r (length-take-le r o (omega arith)))

-- What is read of a word and the words after it.
pub record Read (w : ℕ) (ws : List ℕ) (top : ℕ) (o : List ℕ) : Type 0 where
  pub within : top < length o
  pub word : get_or o top 0 ≡ w
  pub after : Begins ws (top + 1) o

-- The first word is read, and the others stand after it.
pub begins-word : {w : ℕ} {ws : List ℕ} {top : ℕ} {o : List ℕ} → Begins (w ∷ ws) top o → Read w ws top o
begins-word {w} {ws} {top} {o} b =
    let n : length o - top ≡ suc (length (ws ++ b.0)) = sym (length-drop top o) ∙ ap length b.1 in
    let h : top < length o = omega arith in
    let q : get_or o top 0 ∷ drop (suc top) o ≡ w ∷ (ws ++ b.0) = sym (drop-cons o top 0 h) ∙ b.1 in
    record { within = h; word = cc; after = (b.0, rw add-one (cc)) }

-- The words before a seam stand there, and those after it behind them.
pub begins-left : (u v : List ℕ) (top : ℕ) (o : List ℕ) → Begins (u ++ v) top o → Begins u top o
begins-left u v top o b = (v ++ b.0, b.1 ∙ append_assoc u v b.0)

pub begins-right : (u v : List ℕ) (top : ℕ) (o : List ℕ) → Begins (u ++ v) top o → Begins v (top + length u) o
begins-right u v top o b =
    (b.0, sym (drop-drop (length u) top o) ∙ ap (drop (length u)) (b.1 ∙ append_assoc u v b.0) ∙ drop-append_seam u (v ++ b.0))
