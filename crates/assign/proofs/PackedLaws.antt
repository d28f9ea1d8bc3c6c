-- A node's packed sets, position by position: what each adds to the mask and the words, how long both are, how they are laid, and what is read
-- of them.
use Prim.Native.Nat.{ℕ, zero, suc, ◌+◌, ◌-◌, ◌*◌, ◌/◌, ◌%◌, ◌^◌, ◌≤◌, ◌<◌}
use mathlib.Core.Path.{◌≡◌, refl, sym, ◌∙◌}
use mathlib.Core.Bool.{Bool, true, false, true≢false, cond, not}
use mathlib.Core.List.{List, [], ◌∷◌, ◌++◌}
use native.Mathlib.Nat.{pow-suc, lt_of_lt_of_le, add-zero}
use native.Mathlib.Omega.{arith}
use lib.Dec.{eqb}
use lib.ListN.{length, get_or, set}
use lib.Pow.{pow_pos, pow_mono}
use borrow.Author.Tests.{eq-eqb, ne_eqb, eqb-true, eqb-false, not-false}
use Rattle.nodes.specs.Room.{Begins, Pushed}
use Rattle.nodes.proofs.RoomLaws.{Read, begins-word, pushed_none, pushed_then, pushed-length, pushed-word}
use Rattle.writer.specs.declared.NodeWriter.{NodeWriter}
use Rattle.writer.specs.Write.{low, high, stored_words, MayPush, DidPush}
use Rattle.assign.specs.Packed.{stored, mask_of, words_of, packed}

-- ---- The mask and the words of the last positions.

-- Of no position there is nothing.
pub mask_none : (xs : List ℕ) → mask_of xs 0 ≡ 0
unfolding mask_of
mask_none xs = refl

pub words_none : (xs : List ℕ) → words_of xs 0 ≡ []
unfolding words_of
words_none xs = refl

-- Of k positions, of which position b is the first, by the k' after it:
module _ (xs : List ℕ) (b k k' : ℕ) (more : k ≡ suc k') (at : 30 - k' ≡ b) where
  -- it adds a bit, and the words of its set below the others:
  pub mask_more : mask_of xs k ≡ mask_of xs k' * 2 + cond (stored xs b) 1 0
  unfolding mask_of
  mask_more = rw (more, at)

  pub words_more : words_of xs k ≡ stored_words (stored xs b) (get_or xs b 0) ++ words_of xs k'
  unfolding words_of
  words_more = rw (more, at) (go (stored xs b))
    where
      go : (s : Bool) → cond s (low (get_or xs b 0) ∷ high (get_or xs b 0) ∷ words_of xs k') (words_of xs k') ≡ stored_words s (get_or xs b 0) ++ words_of xs k'
      go true = refl
      go false = refl

  -- one that is stored a bit that is set and two words,
  pub mask_stored : stored xs b ≡ true → mask_of xs k ≡ mask_of xs k' * 2 + 1
  mask_stored e = mask_more ∙ rw e

  pub words-stored : stored xs b ≡ true → words_of xs k ≡ low (get_or xs b 0) ∷ high (get_or xs b 0) ∷ words_of xs k'
  words-stored e = words_more ∙ rw e

  -- and one that is not a bit that is clear.
  pub mask_left : stored xs b ≡ false → mask_of xs k ≡ mask_of xs k' * 2
  mask_left e = mask_more ∙ rw e (omega arith)

  pub words_left : stored xs b ≡ false → words_of xs k ≡ words_of xs k'
  words_left e = words_more ∙ rw e

-- They are two words a position at most.
pub words-most : (xs : List ℕ) (k : ℕ) → length (words_of xs k) ≤ 2 * k
unfolding words_of
words-most xs zero = omega arith
words-most xs (suc k) = go (stored xs (30 - k)) (words-most xs k)
  where
    go : (s : Bool) → length (words_of xs k) ≤ 2 * k
        → length (cond s (low (get_or xs (30 - k) 0) ∷ high (get_or xs (30 - k) 0) ∷ words_of xs k) (words_of xs k)) ≤ 2 * suc k
    go true h = omega arith
    go false h = omega arith

-- So a node has at most 63: a mask, and two for each of 31 positions.
pub packed-length : (xs : List ℕ) → length (packed xs) ≤ 63
packed-length xs = omega (arith, words-most xs 31)

-- The mask has a bit for each position.
pub mask_small : (xs : List ℕ) (k : ℕ) → mask_of xs k < 2 ^ k
unfolding mask_of
mask_small xs zero = pow_pos 0
mask_small xs (suc k) = go (stored xs (30 - k)) (mask_small xs k)
  where
    go : (s : Bool) → mask_of xs k < 2 ^ k → mask_of xs k * 2 + cond s 1 0 < 2 ^ suc k
    go true h = omega (arith, pow-suc 2 k)
    go false h = omega (arith, pow-suc 2 k)

pub mask_within : (xs : List ℕ) (k n : ℕ) → k ≤ n → mask_of xs k < 2 ^ n
mask_within xs k n le = lt_of_lt_of_le (mask_small xs k) (pow_mono le)

-- A position that is not stored is not the first, and has its parent's word.
pub left_parent : (xs : List ℕ) (b : ℕ) → stored xs b ≡ false → (b ≡ 0 → ⊥) × (get_or xs b 0 ≡ get_or xs ((b - 1) / 2) 0)
left_parent xs b = go (eqb b 0) refl
  where
    go : (z : Bool) → eqb b 0 ≡ z → cond z true (not (eqb (get_or xs b 0) (get_or xs ((b - 1) / 2) 0))) ≡ false
        → (b ≡ 0 → ⊥) × (get_or xs b 0 ≡ get_or xs ((b - 1) / 2) 0)
    go true e s = absurd (true≢false s)
    go false e s =
        (eqb-false b 0 e, eqb-true (get_or xs b 0) (get_or xs ((b - 1) / 2) 0) (not-false (eqb (get_or xs b 0) (get_or xs ((b - 1) / 2) 0)) s))

-- ---- Laying them.

-- In the room o, which was o₀, the words of the positions from b on are laid below top, and the writer w has their mask.
pub record Laying (xs : List ℕ) (top : ℕ) (o₀ : List ℕ) (b : ℕ) (w : NodeWriter) (o : List ℕ) : Type 0 where
  pub masks : w.mask ≡ mask_of xs (31 - b)
  pub laid : Pushed (words_of xs (31 - b)) top w.top o₀ o

-- At the start there is no such position.
pub laying_start : (xs : List ℕ) (top : ℕ) (o : List ℕ) → Laying xs top o 31 (record { mask = 0; top = top }) o
laying_start xs top o = record { masks = sym (mask_none xs); laid = rw words_none (pushed_none top o) }

module _ {xs : List ℕ} {top : ℕ} {o₀ : List ℕ} {b : ℕ} {w : NodeWriter} {o : List ℕ} (h : Laying xs top o₀ b w o) (within : top ≤ length o₀) where
  -- They have two words each at most, and the room stays as long.
  pub laying_room : (w.top ≤ top) × (top ≤ w.top + 2 * (31 - b)) × (length o ≡ length o₀)
  laying_room =
      let e = h.laid.ends in
      let m = words-most xs (31 - b) in
      (omega arith, omega arith, pushed-length h.laid within)

  -- There is room for one position more.
  pub laying_may : 0 < b → 63 ≤ top → (s : Bool) → MayPush w (length o) s
  laying_may low enough s =
      let r = laying_room in
      let m = h.masks in
      let n = mask_within xs (31 - b) 30 (omega arith) in
      record { bit = omega arith; two = λ t. omega arith; within = λ t. omega arith }

  -- One position more.
  pub laying_next : (j : ℕ) → b ≡ suc j → b ≤ 31 → {s : Bool} → s ≡ stored xs j → {w' : NodeWriter} {o' : List ℕ}
      → DidPush w s (get_or xs j 0) w' o o' → Laying xs top o₀ j w' o'
  laying_next j e small {s} is {w'} {o'} d =
      let d' : DidPush w (stored xs j) (get_or xs j 0) w' o o' = rw is at d in
      record {
        masks = d'.marked ∙ rw h.masks (sym (mask_more xs j (31 - j) (31 - b) (omega arith) (omega arith)));
        laid = rw (words_more xs j (31 - j) (31 - b) (omega arith) (omega arith)) (pushed_then h.laid d'.laid within);
      }

  -- One that stands under position p is stored where their sets differ.
  pub laying_under : (j p : ℕ) → b ≡ suc j → b ≤ 31 → 0 < j → (j - 1) / 2 ≡ p → {w' : NodeWriter} {o' : List ℕ}
      → DidPush w (not (eqb (get_or xs j 0) (get_or xs p 0))) (get_or xs j 0) w' o o' → Laying xs top o₀ j w' o'
  laying_under j p e small low up d = laying_next j e small (rw (ne_eqb j 0 (λ z. omega arith), up)) d

-- After the first position the mask is laid, below them all.
pub laying_end : {xs : List ℕ} {top : ℕ} {o₀ : List ℕ} {w : NodeWriter} {o : List ℕ} → Laying xs top o₀ 0 w o → 63 ≤ top → top ≤ length o₀
    → Pushed (packed xs) top (w.top - 1) o₀ (set o (w.top - 1) w.mask)
laying_end {xs} {top} {o₀} {w} {o} p enough within =
    let r = laying_room p within in
    rw (← p.masks) (pushed_then p.laid (pushed-word w.mask w.top o (omega arith) (omega arith)) within)

-- ---- Reading them back.

-- Before position b the reader's mask, and the words from where it stands, are those of the positions from b on.
pub record Reading (xs : List ℕ) (top : ℕ) (o : List ℕ) (b mask at : ℕ) : Type 0 where
  pub masks : mask ≡ mask_of xs (31 - b)
  pub words : Begins (words_of xs (31 - b)) at o
  pub ends : at + length (words_of xs (31 - b)) ≡ top + length (packed xs)

-- Before the first position, past the mask.
pub reading-start : (xs : List ℕ) (top : ℕ) (o : List ℕ) (mask at : ℕ) → Begins (packed xs) top o → mask ≡ get_or o top 0 → at ≡ top + 1
    → Reading xs top o 0 mask at
reading-start xs top o mask at h e s =
    let r : Read (mask_of xs 31) (words_of xs 31) top o = begins-word h in
    record { masks = e ∙ r.word; words = rw s r.after; ends = omega arith }

module _ {xs : List ℕ} {top : ℕ} {o : List ℕ} {b mask at : ℕ} (r : Reading xs top o b mask at) (small : b < 31) where
  -- The lowest bit says whether the position is stored.
  pub reading-stored : eqb (mask % 2) 1 ≡ stored xs b
  reading-stored = go (stored xs b) refl
    where
      go : (s : Bool) → stored xs b ≡ s → eqb (mask % 2) 1 ≡ s
      go true e = let m = r.masks ∙ mask_stored xs b (31 - b) (31 - (b + 1)) (omega arith) (omega arith) e in eq-eqb (mask % 2) 1 (omega arith)
      go false e = let m = r.masks ∙ mask_left xs b (31 - b) (31 - (b + 1)) (omega arith) (omega arith) e in ne_eqb (mask % 2) 1 (λ z. omega arith)

  -- What is read of a position that is stored: its word, and those after it.
  pub record Taken : Type 0 where
    pub room : at + 2 ≤ length o
    pub word : get_or o at 0 + get_or o (at + 1) 0 * 4294967296 ≡ get_or xs b 0
    pub after : Begins (words_of xs (31 - (b + 1))) (at + 2) o

  pub reading-taken : stored xs b ≡ true → Taken
  reading-taken e =
      let w = words-stored xs b (31 - b) (31 - (b + 1)) (omega arith) (omega arith) e in
      let x = get_or xs b 0 in
      let rest = words_of xs (31 - (b + 1)) in
      let first : Read (low x) (high x ∷ rest) at o = begins-word (rw w at r.words) in
      let second : Read (high x) rest (at + 1) o = begins-word first.after in
      let two : at + 1 + 1 ≡ at + 2 = omega arith in
      record { room = omega arith; word = omega arith; after = rw two at second.after }

  -- The reader past the position.
  pub reading-next : (mask' at' : ℕ) → mask' ≡ mask / 2 → at' ≡ at + cond (eqb (mask % 2) 1) 2 0 → Reading xs top o (b + 1) mask' at'
  reading-next mask' at' e s = go (stored xs b) refl
    where
      go : (t : Bool) → stored xs b ≡ t → Reading xs top o (b + 1) mask' at'
      go true t =
          let m = r.masks ∙ mask_stored xs b (31 - b) (31 - (b + 1)) (omega arith) (omega arith) t in
          let w = words-stored xs b (31 - b) (31 - (b + 1)) (omega arith) (omega arith) t in
          let p : at' ≡ at + 2 = s ∙ rw (reading-stored, t) in
          let ends = rw w at r.ends in
          record { masks = omega arith; words = rw p (reading-taken t).after; ends = omega arith }
      go false t =
          let m = r.masks ∙ mask_left xs b (31 - b) (31 - (b + 1)) (omega arith) (omega arith) t in
          let w = words_left xs b (31 - b) (31 - (b + 1)) (omega arith) (omega arith) t in
          let p : at' ≡ at = s ∙ rw (reading-stored, t) (add-zero at) in
          record { masks = omega arith; words = rw p (rw w at r.words); ends = rw p (rw w at r.ends) }

-- Past the last position stands what comes after the node's own words.
pub reading_end : {xs : List ℕ} {top : ℕ} {o : List ℕ} {b mask at : ℕ} → Reading xs top o b mask at → b ≡ 31 → at ≡ top + length (packed xs)
reading_end {xs} {top} {o} {b} {mask} {at} r e =
    let z : 31 - b ≡ 0 = omega arith in
    let n : length (words_of xs (31 - b)) ≡ 0 = rw (z, words_none xs) in
    omega (arith, r.ends)
