-- Laws of lines: the hop of a map's line, and the first line of a text. Assumes nothing.
use mathlib.Core.Path.{◌≡◌, refl, ap}
use mathlib.Core.Bool.{Bool, true, false, cond, ◌||◌}
use mathlib.Core.List.{List, [], ◌∷◌}
use Prim.Native.Nat.{ℕ, suc, ◌+◌, ◌<◌}
use native.Mathlib.Omega.{arith}
use borrow.Author.Tests.{lt-ltb, eq-eqb, ne_eqb}
use lib.Dec.{eqb, leb-suc-suc}
use lib.ListN.{length}
use Rattle.tabletext.specs.Pieces.{is, place, has, up_to, behind, unblank, number}
use Rattle.tabletext.specs.Lines.{entry, end_of_map}
use Rattle.tabletext.specs.Reading.{on_first, lines_in}

-- ---- The hop of a map's line.

module _ (addr len : ℕ) (rest : List ℕ) (some : length rest ≡ 0 → ⊥) where
  pub map-hop : length (unblank (behind 32 rest)) ≡ 0 → number (up_to 32 rest) < 64 → entry addr len (number (up_to 32 rest)) ≡ end_of_map addr len rest
  unfolding end_of_map
  map-hop h low = rw (ne_eqb (length rest) 0 some, eq-eqb (length (unblank (behind 32 rest))) 0 h, lt-ltb (number (up_to 32 rest)) 64 low)

-- ---- The first line of a text.

-- The lines behind the first.
abbrev pub later : List ℕ → List (List ℕ)
later s = cond (has 10 s) (lines_in (behind 10 s)) []

-- A line feed is a line feed alone.
feed_is : (x : ℕ) → is 10 x ≡ eqb x 10
feed_is x = go (eqb x 10)
  where
    go : (t : Bool) → (t || false) ≡ t
    go true = refl
    go false = refl

-- A line feed ends the first line.
here : (x : ℕ) (s : List ℕ) → eqb x 10 ≡ true → lines_in (x ∷ s) ≡ up_to 10 (x ∷ s) ∷ later (x ∷ s)
unfolding lines_in up_to behind place
here x s e = rw (feed_is x, e, lt-ltb 0 (suc (length s)) (omega arith))

-- Any other byte is one of the first line.
on : (x : ℕ) (s : List ℕ) → eqb x 10 ≡ false → lines_in s ≡ up_to 10 s ∷ later s → lines_in (x ∷ s) ≡ up_to 10 (x ∷ s) ∷ later (x ∷ s)
unfolding lines_in up_to behind place
on x s e rest =
    let n : suc (place 10 s) + 1 ≡ suc (place 10 s + 1) = omega arith in
    rw (feed_is x, e, leb-suc-suc (suc (place 10 s)) (length s), n) (ap (on_first x) rest)

-- The lines of a text are its first, up to the first line feed, and those of what stands behind that.
pub first-line : (s : List ℕ) → lines_in s ≡ up_to 10 s ∷ later s
unfolding lines_in up_to behind place
first-line [] = refl
first-line (x ∷ s) = go (eqb x 10) refl (first-line s)
  where
    go : (t : Bool) → eqb x 10 ≡ t → lines_in s ≡ up_to 10 s ∷ later s → lines_in (x ∷ s) ≡ up_to 10 (x ∷ s) ∷ later (x ∷ s)
    go true e rest = here x s e
    go false e rest = on x s e rest
