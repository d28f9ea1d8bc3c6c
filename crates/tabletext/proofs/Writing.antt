-- Laws of what is written line by line. Assumes nothing.
use mathlib.Core.Path.{◌≡◌, refl, sym, ap, ap₂, subst, ◌∙◌}
use mathlib.Core.Bool.{Bool, true, false, cond}
use mathlib.Core.List.{List, [], ◌∷◌, ◌++◌, append_assoc}
use Prim.Native.Nat.{ℕ, ◌+◌, ◌*◌, ◌≤◌, ◌<◌}
use native.Mathlib.Numerals.{add-one}
use native.Mathlib.Omega.{arith}
use Rattle.std.specs.List.{slice_split, onto_first, enumerate_from}
use Rattle.std.proofs.lemmas.List.FromFn.{get_or-enumerate_from, length-enumerate_from}
use borrow.Author.Tests.{ltb-true, le-leb, lt-leb}
use lib.Dec.{ltb, eqb}
use lib.ListN.{length, get_or, take, drop, set, length-append, drop_of_length-le}
use lib.Seq.{drop-drop, drop-cons, set_split}
use Rattle.theory.specs.Routes.{Route}
use Rattle.records.specs.Wire.{record_of, bytes_of}
use Rattle.records.specs.Sized.{laid, bytes_in}
use Rattle.records.proofs.Laid.{laid_none, take-laid, drop-laid}
use Rattle.records.proofs.Reading.{eight}
use Rattle.records.proofs.SizedWritten.{length_record}
use Rattle.std.specs.Prelude.{Some, None, Ok, Err}
use Rattle.tabletext.specs.Lines.{Said, said}
use Rattle.tabletext.specs.Reading.{Read, Reading, wrong_line, route_said, Written, Reads, on_first, lines_in, unmarked, ends, before, with_line, read_lines, says, read_into, stored, stored_bytes, stored_numbers}
use Rattle.tabletext.specs.declared.Reason.{Reason}
use Rattle.tabletext.specs.declared.Reason.TheVariants.{TooMany}
use Rattle.tabletext.specs.declared.ReadError.TheVariants.{NoRoom}

-- ---- Lists laid over a list.

joined : (k : ℕ) (bs cs o p : List ℕ) → take (k + length bs) p ≡ take k o ++ bs → drop (k + length bs) p ≡ drop (k + length bs) o
    → laid (k + length bs) cs p ≡ laid k (bs ++ cs) o
unfolding laid
joined k bs cs o p front back =
    let n : k + length bs + length cs ≡ k + length (bs ++ cs) = omega (arith, length-append bs cs) in
    let rest : drop (k + length bs + length cs) p ≡ drop (k + length (bs ++ cs)) o =
    sym (drop-drop (length cs) (k + length bs) p) ∙ ap (λ (l : List ℕ). drop (length cs) l) back ∙ drop-drop (length cs) (k + length bs) o ∙ ap (λ (j : ℕ). drop j o) n in
    ap₂ (λ (l m : List ℕ). l ++ (cs ++ m)) front rest
    ∙ append_assoc (take k o) bs (cs ++ drop (k + length (bs ++ cs)) o)
    ∙ ap (λ (l : List ℕ). take k o ++ l) (sym (append_assoc bs cs (drop (k + length (bs ++ cs)) o)))

-- One behind another is the two joined, whether or not the second fits.
laid_on : (k : ℕ) (bs cs o : List ℕ) → k + length bs ≤ length o → laid k (bs ++ cs) o ≡ laid (k + length bs) cs (laid k bs o)
laid_on k bs cs o fits = sym (joined k bs cs o (laid k bs o) (take-laid k bs o fits) (drop-laid k bs o fits))

-- A record, and more.
record_on : (n : ℕ) (r : Route) (rs : List Route) (o : List ℕ) → 8 * n + 8 ≤ length o
    → laid (8 * n) (bytes_of (r ∷ rs)) o ≡ laid (8 * (n + 1)) (bytes_of rs) (laid (8 * n) (record_of r) o)
unfolding bytes_in
record_on n r rs o fits =
    let size = length_record 8 eight r in
    let e : 8 * n + length (record_of r) ≡ 8 * (n + 1) = omega arith in
    laid_on (8 * n) (record_of r) (bytes_of rs) o (omega arith) ∙ ap (λ (j : ℕ). laid j (bytes_of rs) (laid (8 * n) (record_of r) o)) e

one : (n k : ℕ) (o : List ℕ) → n < length o → set o n k ≡ laid n (k ∷ []) o
unfolding laid
one n k o fits = set_split o n k fits ∙ ap (λ (j : ℕ). take n o ++ (k ∷ drop j o)) (sym (add-one n))

-- A number, and more.
number_on : (n k : ℕ) (ks o : List ℕ) → n < length o → laid n (k ∷ ks) o ≡ laid (n + 1) ks (set o n k)
number_on n k ks o fits =
    laid_on n (k ∷ []) ks o (omega arith) ∙ ap (λ (l : List ℕ). laid (n + 1) ks l) (sym (one n k o fits))

-- ---- Lines, one after another.

-- What stands between line feeds are the lines.
pub lines_split : (s : List ℕ) → slice_split (λ x. eqb x 10) s ≡ lines_in s
unfolding lines_in
lines_split [] = refl
lines_split (x ∷ s) = go (eqb x 10) (lines_split s)
  where
    first : (ls : List (List ℕ)) → onto_first x ls ≡ on_first x ls
    first [] = refl
    first (l ∷ ls) = refl

    go : (t : Bool) → slice_split (λ y. eqb y 10) s ≡ lines_in s
        → cond t ([] ∷ slice_split (λ y. eqb y 10) s) (onto_first x (slice_split (λ y. eqb y 10) s)) ≡ cond t ([] ∷ lines_in s) (on_first x (lines_in s))
    go true e = ap (λ (ls : List (List ℕ)). [] ∷ ls) e
    go false e = ap (onto_first x) e ∙ first (lines_in s)

module _ (ps ls : List (List ℕ)) (same : ps ≡ ls) (j : ℕ) where
  -- The line of a turn, where they are numbered, has the turn's number and is the first of those that are left.
  pub turn_line : (i : ℕ) (line : List ℕ) → (j < length (enumerate_from 0 ps)) × ((i, line) ≡ get_or (enumerate_from 0 ps) j (i, line))
      → (i ≡ j) × (drop j ls ≡ line ∷ drop (j + 1) ls)
  turn_line i line t =
      let low : j < length ps = omega (arith, length-enumerate_from 0 ps, t.0) in
      let e : ◌≡◌ {A = ℕ × List ℕ} (i, line) (0 + j, get_or ps j line) = t.1 ∙ get_or-enumerate_from 0 ps j (i, line) low in
      let is : line ≡ get_or ls j line = ap (λ (p : ℕ × List ℕ). p.1) e ∙ ap (λ (ms : List (List ℕ)). get_or ms j line) same in
      let none : 0 + j ≡ j = omega arith in
      (ap (λ (p : ℕ × List ℕ). p.0) e ∙ none, drop-cons ls j line (omega (arith, ap length same)) ∙ ap₂ (λ (m : List ℕ) (k : ℕ). m ∷ drop k ls) (sym is) (sym (add-one j)))

  -- None is left where there are no more turns.
  pub turns_over : j ≡ length (enumerate_from 0 ps) → drop j ls ≡ []
  turns_over e = drop_of_length-le ls (omega (arith, length-enumerate_from 0 ps, ap length same))

-- ---- What is left to be read.

-- With n records in the rooms, what is still read makes all that is to be read.
pub record Left (all : Reading) (o l : List ℕ) (rest : Reading) (n : ℕ) (out lines : List ℕ) : Type 0 where
  pub answer : rest.answer ≡ all.answer
  pub records : laid (8 * n) (bytes_of rest.routes) out ≡ laid 0 (bytes_of all.routes) o
  pub numbers : laid n rest.lines lines ≡ laid 0 all.lines l

-- At the beginning all is left.
pub left_all : (all : Reading) (o l : List ℕ) → Left all o l all 0 o l
left_all all o l = record { answer = refl; records = refl; numbers = refl }

module _ {all : Reading} {o l : List ℕ} where
  -- Where no records are left, the rooms are as they are to be.
  pub left_none : {r : Read} {n : ℕ} {out lines : List ℕ} → Left all o l (ends r) n out lines → Written all r o l out lines
  unfolding bytes_in
  left_none {n = n} {out = out} {lines = lines} g =
      record { answers = g.answer; records = sym (laid_none (8 * n) out) ∙ g.records; numbers = sym (laid_none n lines) ∙ g.numbers }

  -- Where no lines are left, the answer is how many records there are.
  pub left_end : (hops : Bool) (n k : ℕ) {ls : List (List ℕ)} {out lines : List ℕ} → ls ≡ [] → Left all o l (read_lines hops n k ls) n out lines
      → Written all (Ok n) o l out lines
  unfolding read_lines
  left_end hops n k {ls} {out} {lines} e g = left_none (subst (λ (x : List (List ℕ)). Left all o l (read_lines hops n k x) n out lines) e g)

  -- A line is read, and what is behind it.
  pub left_line : (hops : Bool) (n k : ℕ) {ls ms : List (List ℕ)} {line : List ℕ} {out lines : List ℕ} → ls ≡ line ∷ ms → Left all o l (read_lines hops n k ls) n out lines
      → Left all o l (with_line n k (said hops line) (read_lines hops n (k + 1) ms) (read_lines hops (n + 1) (k + 1) ms)) n out lines
  unfolding read_lines
  left_line hops n k {ls} {ms} {line} {out} {lines} e g = subst (λ (x : List (List ℕ)). Left all o l (read_lines hops n k x) n out lines) e g

  -- A record is stored.
  pub left_more : {r : Route} {k n : ℕ} {more : Reading} {out lines : List ℕ} → 8 * n + 8 ≤ length out → n < length lines
      → Left all o l (before r k more) n out lines → Left all o l more (n + 1) (laid (8 * n) (record_of r) out) (set lines n k)
  left_more {r = r} {k = k} {n = n} {more = more} {out = out} {lines = lines} fits room g =
      record {
        answer = g.answer;
        records = sym (record_on n r more.routes out fits) ∙ g.records;
        numbers = sym (number_on n k more.lines lines room) ∙ g.numbers;
      }

  module _ (n k : ℕ) (next : ℕ → Reading) (out lines : List ℕ) (wide : 8192 ≤ length out) (long : 1024 ≤ length lines) where
    -- Behind a line that is counted, the rest is left.
    pub left-next : (what : Said) (m : ℕ) → Left all o l (with_line n k what (next n) (next (n + 1))) n out lines → stored n what ≡ Ok m
        → Left all o l (next m) m (stored_bytes n what out) (stored_numbers n k what lines)
    unfolding stored stored_bytes stored_numbers
    left-next (Ok None) m g e = let same : n ≡ m = cc in rw (← same) g
    left-next (Ok (Some r)) m g e = go (ltb n 1024) refl g e
      where
        go : (t : Bool) → ltb n 1024 ≡ t
            → Left all o l (cond t (before (route_said r) k (next (n + 1))) (ends (wrong_line k TooMany))) n out lines
            → cond t (Ok (n + 1)) (Err TooMany) ≡ Ok m
            → Left all o l (next m) m (cond t (laid (8 * n) (record_of (route_said r)) out) out) (cond t (set lines n k) lines)
        go true t g e =
            let low = ltb-true n 1024 t in
            let same : n + 1 ≡ m = cc in
            rw (← same) (left_more (omega arith) (omega arith) g)
        go false t g e = let z : ◌≡◌ {A = ℕ} 0 1 = cc in absurd (omega arith)
    left-next (Err why) m g e = let z : ◌≡◌ {A = ℕ} 0 1 = cc in absurd (omega arith)

    -- A wrong line is the answer.
    pub left_wrong : (what : Said) (why : Reason) → Left all o l (with_line n k what (next n) (next (n + 1))) n out lines → stored n what ≡ Err why
        → Written all (wrong_line k why) o l (stored_bytes n what out) (stored_numbers n k what lines)
    unfolding stored stored_bytes stored_numbers
    left_wrong (Ok None) why g e = let z : ◌≡◌ {A = ℕ} 0 1 = cc in absurd (omega arith)
    left_wrong (Ok (Some r)) why g e = go (ltb n 1024) g e
      where
        go : (t : Bool)
            → Left all o l (cond t (before (route_said r) k (next (n + 1))) (ends (wrong_line k TooMany))) n out lines
            → cond t (Ok (n + 1)) (Err TooMany) ≡ Err why
            → Written all (wrong_line k why) o l (cond t (laid (8 * n) (record_of (route_said r)) out) out) (cond t (set lines n k) lines)
        go true g e = let z : ◌≡◌ {A = ℕ} 0 1 = cc in absurd (omega arith)
        go false g e = let same : TooMany ≡ why = cc in rw (← same) (left_none g)
    left_wrong (Err why') why g e = let same : why' ≡ why = cc in rw (← same) (left_none g)

-- ---- Rooms.

-- Nothing is written.
none_written : (r : Read) (o l : List ℕ) → Written (ends r) r o l o l
unfolding bytes_in
none_written r o l = record { answers = refl; records = sym (laid_none 0 o); numbers = sym (laid_none 0 l) }

module _ (hops : Bool) (text out lines : List ℕ) where
  -- The room for records is too short.
  pub room-narrow : length out < 8192 → Reads hops text (Err NoRoom) out lines out lines
  unfolding read_into
  room-narrow h = rw (lt-leb 8192 (length out) h) (none_written (Err NoRoom) out lines)

  -- The room for the numbers of lines is too short.
  pub room-short : 8192 ≤ length out → length lines < 1024 → Reads hops text (Err NoRoom) out lines out lines
  unfolding read_into
  room-short w h = rw (le-leb 8192 (length out) w, lt-leb 1024 (length lines) h) (none_written (Err NoRoom) out lines)

  -- There is room.
  pub room_enough : {r : Read} {out' lines' s : List ℕ} → 8192 ≤ length out → 1024 ≤ length lines → s ≡ unmarked text
      → Written (read_lines hops 0 1 (lines_in s)) r out lines out' lines' → Reads hops text r out lines out' lines'
  unfolding read_into says
  room_enough {r} {out'} {lines'} w h e g =
      rw (le-leb 8192 (length out) w, le-leb 1024 (length lines) h)
      (subst (λ (x : List ℕ). Written (read_lines hops 0 1 (lines_in x)) r out lines out' lines') e g)
