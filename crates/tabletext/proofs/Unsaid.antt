-- What does not matter in a text: a carriage return at the end of a line, comments, blank lines, a byte order mark, and the last line feed. Assumes nothing.
use mathlib.Core.Path.{◌≡◌, refl, sym, ap, ap₂, subst, ◌∙◌}
use mathlib.Core.Bool.{Bool, true, false, cond, ◌||◌}
use mathlib.Core.List.{List, [], ◌∷◌, ◌++◌}
use mathlib.Core.Logic.{◌⊎◌, inl, inr}
use Prim.Native.Nat.{ℕ, suc, ◌+◌, ◌-◌}
use native.Mathlib.Omega.{arith}
use borrow.Author.Tests.{lt-ltb, le-leb, eqb-true}
use lib.Dec.{eqb}
use lib.ListN.{length, length-append}
use lib.Seq.{take_at, get_or_at}
use Rattle.tabletext.specs.Pieces.{is, unblank, up_to}
use Rattle.tabletext.specs.Lines.{nothing, unreturned, of_words, of_body, of_line, said}
use Rattle.tabletext.specs.Reading.{on_first, lines_in, marked, unmarked, Reading, with_line, read_lines, says}
use Rattle.tabletext.proofs.LineLaws.{later, first-line}
use Rattle.tabletext.proofs.Free.{Free, nil, cons, free_append, up_to-joined, up_to_all, has_none, unreturned_free}

-- ---- A carriage return at the end.

unreturned-joined : (l : List ℕ) → unreturned (l ++ (13 ∷ [])) ≡ l
unfolding unreturned
unreturned-joined l =
    let size : length (l ++ (13 ∷ [])) ≡ length l + 1 = length-append l (13 ∷ []) in
    let less : length l + 1 - 1 ≡ length l = omega arith in
    rw (size, lt-ltb 0 (length l + 1) (omega arith), less, get_or_at l 13 [] 0 (length l) refl) (take_at l (13 ∷ []) (length l) refl)

-- A line with a carriage return at its end says what it says without.
pub return_unsaid : (hops : Bool) (l : List ℕ) → Free 13 l → said hops (l ++ (13 ∷ [])) ≡ said hops l
unfolding said
return_unsaid hops l p = ap (λ (x : List ℕ). of_line hops x) (unreturned-joined l ∙ sym (unreturned_free l p))

-- ---- Comments.

-- A line with a comment says what it says without.
pub comment_unsaid : (hops : Bool) (l t : List ℕ) → Free 13 l → Free 35 l → Free 13 t → said hops (l ++ (35 ∷ t)) ≡ said hops l
unfolding said of_line
comment_unsaid hops l t p q r =
    let whole = free_append p (cons refl r) in
    rw (unreturned_free (l ++ (35 ∷ t)) whole, unreturned_free l p, has_none 13 (l ++ (35 ∷ t)) whole, has_none 13 l p, up_to-joined 35 l 35 t q refl, up_to_all 35 l q)

-- ---- Blank lines.

-- Spaces and tabs alone.
pub data Blanks : List ℕ → Type 0 where
  none : Blanks []
  blank : {x : ℕ} {s : List ℕ} → is 32 x ≡ true → Blanks s → Blanks (x ∷ s)

-- A blank is a space or a tab.
blank_is : (x : ℕ) → is 32 x ≡ true → (x ≡ 32) ⊎ (x ≡ 9)
blank_is x e = go (eqb x 32) refl (eqb x 9) refl e
  where
    go : (a : Bool) → eqb x 32 ≡ a → (b : Bool) → eqb x 9 ≡ b → (a || b) ≡ true → (x ≡ 32) ⊎ (x ≡ 9)
    go true p b q e = inl (eqb-true x 32 p)
    go false p true q e = inr (eqb-true x 9 q)
    go false p false q e = let z : ◌≡◌ {A = ℕ} 0 1 = cc in absurd (omega arith)

-- It is no byte that is neither.
blanks_free : (b : ℕ) {s : List ℕ} → is b 32 ≡ false → is b 9 ≡ false → Blanks s → Free b s
blanks_free b p q none = nil
blanks_free b p q (blank {x = x} e r) = cons (go (blank_is x e)) (blanks_free b p q r)
  where
    go : (x ≡ 32) ⊎ (x ≡ 9) → is b x ≡ false
    go (inl z) = subst (λ (y : ℕ). is b y ≡ false) (sym z) p
    go (inr z) = subst (λ (y : ℕ). is b y ≡ false) (sym z) q

unblank_blanks : {s : List ℕ} → Blanks s → unblank s ≡ []
unfolding unblank
unblank_blanks none = refl
unblank_blanks (blank e r) = rw e (unblank_blanks r)

-- A blank line says nothing.
pub blank_says_nothing : (hops : Bool) {l : List ℕ} → Blanks l → said hops l ≡ nothing
unfolding said of_line of_body of_words
blank_says_nothing hops {l} p =
    let f = blanks_free 13 refl refl p in
    rw (unreturned_free l f, has_none 13 l f, up_to_all 35 l (blanks_free 35 refl refl p), has_none 58 l (blanks_free 58 refl refl p), unblank_blanks p)

-- Nor does a comment alone.
pub comment_says_nothing : (hops : Bool) {l : List ℕ} (t : List ℕ) → Blanks l → Free 13 t → said hops (l ++ (35 ∷ t)) ≡ nothing
comment_says_nothing hops {l} t p r =
    comment_unsaid hops l t (blanks_free 13 refl refl p) (blanks_free 35 refl refl p) r ∙ blank_says_nothing hops p

-- ---- The byte order mark.

-- A text behind a byte order mark says what its lines say.
pub mark_unsaid : (hops : Bool) (s : List ℕ) → says hops (239 ∷ 187 ∷ 191 ∷ s) ≡ read_lines hops 0 1 (lines_in s)
unfolding says marked unmarked
mark_unsaid hops s = rw (le-leb 3 (suc (suc (suc (length s)))) (omega arith))

-- ---- The last line feed.

on_first_lem : (x : ℕ) (ls ms : List (List ℕ)) (l : List ℕ) (t : List (List ℕ)) → ls ≡ l ∷ ms → on_first x (ls ++ t) ≡ on_first x ls ++ t
on_first_lem x ls ms l t e = rw e

-- One line more, and empty.
lines_more : (s : List ℕ) → lines_in (s ++ (10 ∷ [])) ≡ lines_in s ++ ([] ∷ [])
unfolding lines_in
lines_more [] = refl
lines_more (x ∷ s) = go (eqb x 10) (lines_more s)
  where
    go : (t : Bool) → lines_in (s ++ (10 ∷ [])) ≡ lines_in s ++ ([] ∷ [])
        → cond t ([] ∷ lines_in (s ++ (10 ∷ []))) (on_first x (lines_in (s ++ (10 ∷ [])))) ≡ cond t ([] ∷ lines_in s) (on_first x (lines_in s)) ++ ([] ∷ [])
    go true e = ap (λ (ls : List (List ℕ)). [] ∷ ls) e
    go false e = ap (on_first x) e ∙ on_first_lem x (lines_in s) (later s) (up_to 10 s) ([] ∷ []) (first-line s)

read_more : (hops : Bool) (n k : ℕ) (ls : List (List ℕ)) → read_lines hops n k (ls ++ ([] ∷ [])) ≡ read_lines hops n k ls
unfolding read_lines
read_more hops n k [] = rw (blank_says_nothing hops none)
read_more hops n k (l ∷ ls) =
    ap₂ (λ (a b : Reading). with_line n k (said hops l) a b) (read_more hops n (k + 1) ls) (read_more hops (n + 1) (k + 1) ls)

-- A text that ends in a line feed says what it says without.
pub last_feed_unsaid : (hops : Bool) (n k : ℕ) (s : List ℕ) → read_lines hops n k (lines_in (s ++ (10 ∷ []))) ≡ read_lines hops n k (lines_in s)
last_feed_unsaid hops n k s = ap (λ (ls : List (List ℕ)). read_lines hops n k ls) (lines_more s) ∙ read_more hops n k (lines_in s)

-- ---- Lines that end in a carriage return and a line feed.

-- A text with a carriage return before each line feed.
pub with_returns : List ℕ → List ℕ
with_returns [] = []
with_returns (x ∷ s) = cond (eqb x 10) (13 ∷ 10 ∷ with_returns s) (x ∷ with_returns s)

-- Its lines: each but the last has a carriage return more.
data Returned : List (List ℕ) → List (List ℕ) → Type 0 where
  last : {l : List ℕ} → Returned (l ∷ []) (l ∷ [])
  more : {l : List ℕ} {ls ms : List (List ℕ)} → Free 13 l → Returned ls ms → Returned (l ∷ ls) ((l ++ (13 ∷ [])) ∷ ms)

returned_first : (x : ℕ) {ls ms : List (List ℕ)} → is 13 x ≡ false → Returned ls ms → Returned (on_first x ls) (on_first x ms)
returned_first x e last = last
returned_first x e (more f r) = more (cons e f) r

returned_lines : (s : List ℕ) → Free 13 s → Returned (lines_in s) (lines_in (with_returns s))
unfolding lines_in with_returns
returned_lines [] nil = last
returned_lines (x ∷ s) (cons e f) = go (eqb x 10) refl (returned_lines s f)
  where
    go : (t : Bool) → eqb x 10 ≡ t → Returned (lines_in s) (lines_in (with_returns s))
        → Returned (cond t ([] ∷ lines_in s) (on_first x (lines_in s))) (lines_in (cond t (13 ∷ 10 ∷ with_returns s) (x ∷ with_returns s)))
    go true p r = more nil r
    go false p r = rw p (returned_first x e r)

read_returned : (hops : Bool) (n k : ℕ) {ls ms : List (List ℕ)} → Returned ls ms → read_lines hops n k ms ≡ read_lines hops n k ls
unfolding read_lines
read_returned hops n k last = refl
read_returned hops n k (more {l = l} f r) =
    rw (return_unsaid hops l f)
    (ap₂ (λ (a b : Reading). with_line n k (said hops l) a b) (read_returned hops n (k + 1) r) (read_returned hops (n + 1) (k + 1) r))

-- A text whose lines end in both says what it says with line feeds alone.
pub returns_unsaid : (hops : Bool) (n k : ℕ) (s : List ℕ) → Free 13 s → read_lines hops n k (lines_in (with_returns s)) ≡ read_lines hops n k (lines_in s)
returns_unsaid hops n k s f = read_returned hops n k (returned_lines s f)
