-- What is read keeps the bounds of a table: addresses of 32 bits, lengths up to 32, hops up to 63, in a set 0; at most 1,024 records; lines that ascend.
-- Assumes nothing.
use mathlib.Core.Path.{◌≡◌, refl, ap}
use mathlib.Core.Bool.{Bool, true, false, cond, ◌&&◌}
use mathlib.Core.List.{List, [], ◌∷◌}
use Prim.Native.Nat.{ℕ, zero, suc, ◌+◌, ◌≤◌, ◌<◌}
use native.Mathlib.Omega.{arith}
use borrow.Author.Tests.{ltb-true, leb-true}
use lib.Dec.{leb, ltb}
use lib.ListN.{length, get_or}
use Rattle.theory.specs.Routes.{Route, All, nil, cons}
use Rattle.tabletext.specs.Pieces.{has, up_to, behind, unblank, none, number, prefix_address, prefix_length}
use Rattle.std.specs.Prelude.{Some, None, Ok, Err}
use Rattle.tabletext.specs.Lines.{Said, nothing, entry, wrong, unreturned, end_of_set, end_of_map, of_prefix, of_words, of_body, of_line, said}
use Rattle.tabletext.specs.Reading.{lines_in, unmarked, Read, Reading, wrong_line, route_said, ends, before, with_line, read_lines, says}
use Rattle.tabletext.specs.declared.Reason.{Reason}
use Rattle.tabletext.specs.declared.Reason.TheVariants.{NotPrefix, Colon, NoHop, HopInSet, NotHop, MoreWords, StrayReturn, TooMany}

-- ---- Records.

-- The bounds of a route, in a map or in a set.
pub record Bounded (hops : Bool) (r : Route) : Type 0 where
  pub addr : r.addr < 4294967296
  pub len : r.len ≤ 32
  pub hop : r.hop ≤ cond hops 63 0

-- The bounds of what is said, if it is a record.
abbrev Sound : Bool → Said → Type 0
Sound hops (Ok None) = 0 ≤ 0
Sound hops (Ok (Some r)) = Bounded hops (route_said r)
Sound hops (Err why) = 0 ≤ 0

-- What is wrong has none.
or_wrong : (hops t : Bool) (why : Reason) (what : Said) → Sound hops what → Sound hops (cond t (wrong why) what)
or_wrong hops true why what s = omega arith
or_wrong hops false why what s = s

or_nothing : (hops t : Bool) (what : Said) → Sound hops what → Sound hops (cond t nothing what)
or_nothing hops true what s = omega arith
or_nothing hops false what s = s

both : (a b : Bool) → (a && b) ≡ true → (a ≡ true) × (b ≡ true)
both true b e = (refl, e)
both false b e = let z : ◌≡◌ {A = ℕ} 0 1 = cc in absurd (omega arith)

module _ (addr len : ℕ) (rest : List ℕ) (small : addr < 4294967296) (short : len ≤ 32) where
  set-sound : Sound false (end_of_set addr len rest)
  unfolding end_of_set
  set-sound = go (none rest)
    where
      go : (t : Bool) → Sound false (cond t (entry addr len 0) (wrong HopInSet))
      go true = record { addr = small; len = short; hop = omega arith }
      go false = omega arith

  map-sound : Sound true (end_of_map addr len rest)
  unfolding end_of_map
  map-sound = or_wrong true (none rest) NoHop (cond (none (unblank (behind 32 rest))) (cond (ltb (number (up_to 32 rest)) 64) (entry addr len (number (up_to 32 rest))) (wrong NotHop)) (wrong MoreWords)) (go (none (unblank (behind 32 rest))) (ltb (number (up_to 32 rest)) 64) refl)
    where
      go : (t u : Bool) → ltb (number (up_to 32 rest)) 64 ≡ u → Sound true (cond t (cond u (entry addr len (number (up_to 32 rest))) (wrong NotHop)) (wrong MoreWords))
      go true true e = record { addr = small; len = short; hop = let h = ltb-true (number (up_to 32 rest)) 64 e in omega arith }
      go true false e = omega arith
      go false u e = omega arith

prefix-sound : (hops : Bool) (addr len : ℕ) (rest : List ℕ) → Sound hops (of_prefix hops addr len rest)
unfolding of_prefix
prefix-sound hops addr len rest = go hops (ltb addr 4294967296 && leb len 32) refl
  where
    go : (h t : Bool) → (ltb addr 4294967296 && leb len 32) ≡ t → Sound h (cond t (cond h (end_of_map addr len rest) (end_of_set addr len rest)) (wrong NotPrefix))
    go true true e =
        let p = both (ltb addr 4294967296) (leb len 32) e in
        map-sound addr len rest (ltb-true addr 4294967296 p.0) (leb-true len 32 p.1)
    go false true e =
        let p = both (ltb addr 4294967296) (leb len 32) e in
        set-sound addr len rest (ltb-true addr 4294967296 p.0) (leb-true len 32 p.1)
    go h false e = omega arith

-- What a line says is bounded.
said-sound : (hops : Bool) (l : List ℕ) → Sound hops (said hops l)
unfolding said of_line of_body of_words
said-sound hops l =
    let s = unreturned l in
    let w = unblank (up_to 35 s) in
    let what = of_prefix hops (prefix_address (up_to 32 w)) (prefix_length (up_to 32 w)) (unblank (behind 32 w)) in
    or_wrong hops (has 13 s) StrayReturn (cond (has 58 (up_to 35 s)) (wrong Colon) (cond (none w) nothing what))
    (or_wrong hops (has 58 (up_to 35 s)) Colon (cond (none w) nothing what)
    (or_nothing hops (none w) what (prefix-sound hops (prefix_address (up_to 32 w)) (prefix_length (up_to 32 w)) (unblank (behind 32 w)))))

-- ---- Texts.

-- What is known of what is read from line k on, with n records before it.
pub record Kept (hops : Bool) (n k : ℕ) (g : Reading) : Type 0 where
  pub bounded : All (Bounded hops) g.routes
  pub few : n + length g.routes ≤ 1024
  pub numbered : length g.lines ≡ length g.routes
  pub from : (i : ℕ) → i < length g.lines → k ≤ get_or g.lines i 0
  pub ascend : (i j : ℕ) → i < j → j < length g.lines → get_or g.lines i 0 < get_or g.lines j 0

module _ (hops : Bool) (n k : ℕ) (most : n ≤ 1024) where
  kept_none : (r : Read) → Kept hops n k (ends r)
  kept_none r = record { bounded = nil; few = omega arith; numbered = refl; from = λ i h. absurd (omega arith); ascend = λ i j p h. absurd (omega arith) }

  -- From a later line on.
  kept-later : {g : Reading} → Kept hops n (k + 1) g → Kept hops n k g
  kept-later g =
      record {
        bounded = g.bounded;
        few = g.few;
        numbered = g.numbered;
        from = λ i h. let f = g.from i h in omega arith;
        ascend = g.ascend;
      }

  -- With a record.
  kept_record : (r : Route) {g : Reading} → Bounded hops r → Kept hops (n + 1) (k + 1) g → Kept hops n k (before r k g)
  kept_record r {g} b kept =
      record {
        bounded = cons b kept.bounded;
        few = omega (arith, kept.few);
        numbered = ap suc kept.numbered;
        from = first;
        ascend = up;
      }
    where
      first : (i : ℕ) → i < suc (length g.lines) → k ≤ get_or (k ∷ g.lines) i 0
      first zero h = omega arith
      first (suc i) h = let f = kept.from i (omega arith) in omega arith

      up : (i j : ℕ) → i < j → j < suc (length g.lines) → get_or (k ∷ g.lines) i 0 < get_or (k ∷ g.lines) j 0
      up i zero p h = absurd (omega arith)
      up zero (suc j) p h = let f = kept.from j (omega arith) in omega arith
      up (suc i) (suc j) p h = kept.ascend i j (omega arith) (omega arith)

  kept_line : (what : Said) {same more : Reading} → Sound hops what → Kept hops n (k + 1) same → (n + 1 ≤ 1024 → Kept hops (n + 1) (k + 1) more)
      → Kept hops n k (with_line n k what same more)
  kept_line (Ok None) s p q = kept-later p
  kept_line (Ok (Some r)) {same} {more} s p q = go (ltb n 1024) refl
    where
      go : (t : Bool) → ltb n 1024 ≡ t → Kept hops n k (cond t (before (route_said r) k more) (ends (wrong_line k TooMany)))
      go true e = let low = ltb-true n 1024 e in kept_record (route_said r) s (q (omega arith))
      go false e = kept_none (wrong_line k TooMany)
  kept_line (Err why) s p q = kept_none (wrong_line k why)

lines-kept : (hops : Bool) (n k : ℕ) (ls : List (List ℕ)) → n ≤ 1024 → Kept hops n k (read_lines hops n k ls)
unfolding read_lines
lines-kept hops n k [] most = kept_none hops n k most (Ok n)
lines-kept hops n k (l ∷ ls) most =
    kept_line hops n k most (said hops l) (said-sound hops l) (lines-kept hops n (k + 1) ls most) (λ h. lines-kept hops (n + 1) (k + 1) ls h)

-- What a text says is bounded, has at most 1,024 records, and its lines ascend.
pub says-kept : (hops : Bool) (text : List ℕ) → Kept hops 0 1 (says hops text)
unfolding says
says-kept hops text = lines-kept hops 0 1 (lines_in (unmarked text)) (omega arith)

-- The count that is answered is that of the records.
answer-count : (hops : Bool) (n k m : ℕ) (ls : List (List ℕ)) → (read_lines hops n k ls).answer ≡ Ok m → n + length (read_lines hops n k ls).routes ≡ m
unfolding read_lines
answer-count hops n k m [] e = let same : n ≡ m = cc in omega arith
answer-count hops n k m (l ∷ ls) e =
    go (said hops l) (read_lines hops n (k + 1) ls) (read_lines hops (n + 1) (k + 1) ls) e (answer-count hops n (k + 1) m ls) (answer-count hops (n + 1) (k + 1) m ls)
  where
    go : (what : Said) (same more : Reading) → (with_line n k what same more).answer ≡ Ok m → (same.answer ≡ Ok m → n + length same.routes ≡ m)
        → (more.answer ≡ Ok m → n + 1 + length more.routes ≡ m) → n + length (with_line n k what same more).routes ≡ m
    go (Ok None) same more e p q = p e
    go (Ok (Some r)) same more e p q = choose (ltb n 1024) e
      where
        choose : (t : Bool) → (cond t (before (route_said r) k more) (ends (wrong_line k TooMany))).answer ≡ Ok m
            → n + length (cond t (before (route_said r) k more) (ends (wrong_line k TooMany))).routes ≡ m
        choose true e = omega (arith, q e)
        choose false e = let z : ◌≡◌ {A = ℕ} 0 1 = cc in absurd (omega arith)
    go (Err why) same more e p q = let z : ◌≡◌ {A = ℕ} 0 1 = cc in absurd (omega arith)

pub says-count : (hops : Bool) (text : List ℕ) (m : ℕ) → (says hops text).answer ≡ Ok m → length (says hops text).routes ≡ m
unfolding says
says-count hops text m e = let f = answer-count hops 0 1 m (lines_in (unmarked text)) e in omega arith
