-- What is written of a node by parts: nothing, one record, one part after another, and a part lent as the output's tail; the whole at the end;
-- and the entries that begin at a slot as a walk has them. Assumes nothing.
use Prim.Native.Nat.{ℕ, zero, suc, ◌+◌, ◌-◌, ◌*◌, ◌/◌, ◌%◌, ◌^◌, ◌≤◌, ◌<◌}
use mathlib.Core.Path.{◌≡◌, refl, sym, ap, ap₂, ◌∙◌}
use mathlib.Core.Bool.{Bool, true, false}
use mathlib.Core.List.{List, [], ◌∷◌, ◌++◌, append-nil}
use native.Mathlib.Omega.{arith}
use native.Mathlib.Nat.{add-zero, zero-mul, add-mul, mul_comm, mul_assoc, div-add-mod'}
use native.Mathlib.Numerals.{add-one}
use lib.Dec.{eqb}
use lib.ListN.{length, take, drop, length-append, length-take, length-drop}
use lib.Pow.{pow-add, shr-shr}
use borrow.Author.Tests.{eqb-true}
use Rattle.theory.specs.Routes.{Route}
use Rattle.records.specs.Sized.{IsSize, width_in, laid, route, record_in, bytes_in}
use Rattle.records.proofs.Laid.{laid_none, laid_then, laid_lent}
use Rattle.records.proofs.SizedReading.{width_most}
use Rattle.records.proofs.SizedWritten.{in_length_bytes}
use Rattle.records.proofs.SizedLaid.{in_bytes_append}
use Rattle.positions.specs.Runs.{size_at, place_at}
use Rattle.positions.specs.Walk.{heads_of, slots_of, starts_at, heads, slots}
use Rattle.positions.specs.Wide.{narrowed}
use Rattle.positions.proofs.RunsNode.{place_nested}
use Rattle.positions.proofs.Wide.{narrowed-append, length-narrow}
use Rattle.nodes.specs.Node.{wide, spare, slot_size, At}
use Rattle.nodes.specs.Output.{wire_of, Wrote, entry_at, slot_head, slot_heads}

-- A wide address has the table's bits and the spare ones.
pub width_spare : (size : ℕ) → IsSize size → width_in size + spare size ≡ wide
width_spare size is = omega (arith, width_most size is)

-- The table's bits of a wide address are those of its half, as the code has it.
narrow_half : (size : ℕ) → IsSize size → (a half : ℕ) → a / 2 ≡ half → a / 2 ^ spare size ≡ half / 2 ^ (64 - width_in size)
narrow_half size is a half e =
    let z : 1 + (64 - width_in size) ≡ spare size = omega (arith, width_most size is) in
    ap (λ (k : ℕ). a / 2 ^ k) (sym z) ∙ sym (shr-shr a 1 (64 - width_in size)) ∙ ap (λ (k : ℕ). k / 2 ^ (64 - width_in size)) e

-- ---- The bytes of routes.

-- The bytes of one part after another.
pub wire_append : (size : ℕ) (x y : List Route) → wire_of size (x ++ y) ≡ wire_of size x ++ wire_of size y
wire_append size x y =
    ap (bytes_in size) (narrowed-append (spare size) x y) ∙ in_bytes_append size (narrowed (spare size) x) (narrowed (spare size) y)

module _ {size : ℕ} (is : IsSize size) where
  -- Each route has the bytes of a record.
  pub length_wire : (rs : List Route) → length (wire_of size rs) ≡ length rs * size
  length_wire rs =
      in_length_bytes size is (narrowed (spare size) rs) ∙ mul_comm size (length (narrowed (spare size) rs))
      ∙ ap (λ (n : ℕ). n * size) (length-narrow (spare size) rs)

  -- So the bytes of one part after another end where those of both do.
  ends : (rs : List Route) (done : ℕ) {k : ℕ} → k ≡ done + length rs → k * size ≡ done * size + length (wire_of size rs)
  ends rs done e = ap (λ (n : ℕ). n * size) e ∙ add-mul done (length rs) size ∙ ap (λ (n : ℕ). done * size + n) (sym (length_wire rs))

  -- ---- Writing by parts.

  -- The bytes that `Wrote` names are laid as the table's own laws have it.
  laid_is : (rs : List Route) (done k : ℕ) (o : List ℕ) → k ≡ done + length rs
      → take (done * size) o ++ (wire_of size rs ++ drop (k * size) o) ≡ laid (done * size) (wire_of size rs) o
  unfolding laid
  laid_is rs done k o e = rw (ends rs done e)

  -- So is what was written, where it fits,
  pub wrote_laid : {rs : List Route} {done k : ℕ} {o o' : List ℕ} → Wrote size rs done k o o' → k * size ≤ length o
      → o' ≡ laid (done * size) (wire_of size rs) o
  wrote_laid {rs} {done} {k} {o} p fits = p.laid fits ∙ laid_is rs done k o p.counted

  -- and what is laid so was written.
  pub wrote_from : {rs : List Route} {done k : ℕ} {o o' : List ℕ} → k ≡ done + length rs
      → (k * size ≤ length o → o' ≡ laid (done * size) (wire_of size rs) o) → Wrote size rs done k o o'
  wrote_from {rs} {done} {k} {o} e f = record { counted = e; laid = λ fits. f fits ∙ sym (laid_is rs done k o e) }

  -- Nothing is written where there is nothing to write.
  pub wrote_none : (done : ℕ) (o : List ℕ) → Wrote size [] done done o o
  unfolding bytes_in
  wrote_none done o = wrote_from (omega arith) (λ fits. sym (laid_none (done * size) o))

  -- One part, and another after it.
  pub wrote_then : {x y : List Route} {d k m : ℕ} {o o₁ o₂ : List ℕ} → Wrote size x d k o o₁ → Wrote size y k m o₁ o₂ → length o₁ ≡ length o
      → Wrote size (x ++ y) d m o o₂
  wrote_then {x} {y} {d} {k} {m} {o} {o₁} {o₂} p q same =
      let a = p.counted in
      let b = q.counted in
      wrote_from (omega (arith, length-append x y)) (λ fits.
      let s : k * size ≡ d * size + length (wire_of size x) = ends x d a in
      let room : d * size + length (wire_of size x) + length (wire_of size y) ≤ length o = omega (arith, ends y k b) in
      wrote_laid q (omega arith)
      ∙ rw (wrote_laid p (omega arith), s, wire_append size x y) (laid_then (d * size) (wire_of size x) (wire_of size y) o room))

  -- What a call that was lent the tail of the output from `at` on wrote there.
  pub wrote_tail : {rs : List Route} {done k : ℕ} (o ys : List ℕ) (at : ℕ) → (done * size ≤ length o → at ≡ done * size) → at ≤ length o
      → Wrote size rs 0 k (take (length o - at) (drop at o)) ys
      → Wrote size rs done (done + k) o (take at o ++ (ys ++ drop (length o - at) (drop at o)))
  wrote_tail {rs} {done} {k} o ys at here within p =
      let a = p.counted in
      wrote_from (omega arith) (λ fits.
      let both : (done + k) * size ≡ done * size + k * size = add-mul done k size in
      let s : at ≡ done * size = here (omega arith) in
      let n : length (take (length o - at) (drop at o)) ≡ length o - at = simp (length-take, length-drop) (omega arith) in
      rw (wrote_laid p (omega arith), zero-mul size) (laid_lent at 0 (wire_of size rs) o within ∙ rw (add-zero at, s)))

  -- One record at the start of the output, by the half of its wide address; it is counted where there is no room for it too.
  pub wrote_record : (half len hop : ℕ) (o o' : List ℕ)
      → (size ≤ length o → o' ≡ laid 0 (record_in size (route (half / 2 ^ (64 - width_in size)) len hop)) o)
      → (a : ℕ) → a / 2 ≡ half → Wrote size (route a len hop ∷ []) 0 1 o o'
  unfolding bytes_in
  wrote_record half len hop o o' e a at =
      let bytes = record_in size (route (half / 2 ^ (64 - width_in size)) len hop) in
      wrote_from refl (λ fits. rw (zero-mul size, narrow_half size is a half at, append-nil bytes) (e (omega arith)))

-- All that is written, where it fits: the routes' bytes, and what stood after them.
pub wrote_whole : {size : ℕ} {rs : List Route} {k : ℕ} {o o' : List ℕ} → Wrote size rs 0 k o o' → k * size ≤ length o
    → (o' ≡ wire_of size rs ++ drop (k * size) o) × (k ≡ length rs)
wrote_whole {size} p fits = (rw (zero-mul size) at (p.laid fits), let a = p.counted in omega arith)

-- How many were written, whatever room there was.
pub wrote_count : {size : ℕ} {rs : List Route} {k : ℕ} {o o' : List ℕ} → Wrote size rs 0 k o o' → k ≡ length rs
wrote_count p = let a = p.counted in omega arith

-- ---- The entries that begin at a slot, as a walk by slots has them.

-- Where a position of level l begins at slot c, it stands where the slot does.
pub begins_at : (m key l c : ℕ) → c % 2 ^ (5 - l) ≡ 0 → place_at m key 5 c ≡ place_at m key l (c / 2 ^ (5 - l))
begins_at m key l c z =
    let q : c / 2 ^ (5 - l) * 2 ^ (5 - l) ≡ c = let s = div-add-mod' c (2 ^ (5 - l)) in omega arith in
    let e : c * 2 ^ (m + 0) ≡ c / 2 ^ (5 - l) * 2 ^ (m + (5 - l)) =
    rw (pow-add 2 m (5 - l), mul_comm (2 ^ m) (2 ^ (5 - l)), ← mul_assoc, q, add-zero m) in
    ap (λ (n : ℕ). key + n) e

module _ (entries : ℕ) (hops : List ℕ) (depth key c : ℕ) where
  -- Of one level.
  pub slot-head : (l : ℕ) → slot_head entries hops depth (place_at (slot_size depth) key 5 c) c l ≡ starts_at (entry_at entries hops depth key) l c
  slot-head l = go (eqb (c % 2 ^ (5 - l)) 0) refl
    where
      go : (b : Bool) → eqb (c % 2 ^ (5 - l)) 0 ≡ b
          → slot_head entries hops depth (place_at (slot_size depth) key 5 c) c l ≡ starts_at (entry_at entries hops depth key) l c
      go true e = rw (e, begins_at (slot_size depth) key l c (eqb-true (c % 2 ^ (5 - l)) 0 e))
      go false e = rw e

  -- Of the first levels.
  pub slot-heads : (l : ℕ)
      → slot_heads entries hops depth (place_at (slot_size depth) key 5 c) c l ≡ heads (entry_at entries hops depth key) l c
  unfolding slot_heads heads_of
  slot-heads zero = refl
  slot-heads (suc l) = ap₂ ◌++◌ (slot-heads l) (slot-head l)

-- A slot of a node lies in the wide addresses.
pub slot-within : (depth key c : ℕ) → At depth key → c < 32 → place_at (slot_size depth) key 5 c + 2 ^ (wide - (depth + 5)) ≤ 2 ^ wide
slot-within depth key c at lt =
    let deep = at.deep in
    let whole : 2 ^ (slot_size depth + 5) ≡ 2 ^ (wide - depth) = ap (λ (k : ℕ). 2 ^ k) (omega arith) in
    let size : 2 ^ size_at (slot_size depth) 5 ≡ 2 ^ (wide - (depth + 5)) = ap (λ (k : ℕ). 2 ^ k) (omega arith) in
    omega (arith, at.small, (place_nested (slot_size depth) key 5 c (omega arith) lt).upto)

-- ---- A node written by its slots.

-- Of no slot there is nothing to write.
pub slots-zero : (entry : ℕ → ℕ → List Route) (slot : ℕ → List Route) → slots entry slot 0 ≡ []
unfolding slots_of
slots-zero entry slot = refl

-- A slot at which no entry begins and that has nothing of its own adds nothing.
pub slots-past : (entry : ℕ → ℕ → List Route) (slot : ℕ → List Route) (c : ℕ) → heads entry 5 c ≡ [] → slot c ≡ []
    → slots entry slot (c + 1) ≡ slots entry slot c
unfolding slots_of
slots-past entry slot c none own = rw (add-one c, none, own) (append-nil (slots entry slot c))

-- One slot more: the entries that begin there, and then its own.
pub slots_more : {size : ℕ} → IsSize size → (entries : ℕ) (hops : List ℕ) (depth key : ℕ) (slot : ℕ → List Route) (c : ℕ) {n e k : ℕ}
    {o o₁ o₂ o₃ : List ℕ} → Wrote size (slots (entry_at entries hops depth key) slot c) 0 n o o₁ → length o₁ ≡ length o
    → Wrote size (slot_heads entries hops depth (place_at (slot_size depth) key 5 c) c 5) n e o₁ o₂ → length o₂ ≡ length o₁
    → Wrote size (slot c) e k o₂ o₃
    → Wrote size (slots (entry_at entries hops depth key) slot (c + 1)) 0 k o o₃
unfolding slots_of
slots_more is entries hops depth key slot c p same q same' r =
    rw (add-one c, ← slot-heads entries hops depth key c 5) (wrote_then is p (wrote_then is q r same') same)
