-- What is printed of routes reads back as the routes. Assumes nothing.
use mathlib.Core.Path.{subst, ◌≡◌, refl, ap, ◌∙◌}
use mathlib.Core.Bool.{Bool}
use mathlib.Core.List.{List, [], ◌∷◌, ◌++◌, append_assoc}
use Prim.Native.Nat.{ℕ, suc, ◌+◌, ◌≤◌, ◌<◌}
use native.Mathlib.Omega.{arith}
use borrow.Author.Tests.{lt-ltb, le-leb}
use lib.ListN.{length}
use Rattle.theory.specs.Routes.{Route, All, nil, cons}
use Rattle.text.specs.Text as text
use Rattle.text.specs.Text.{line_of, lines_of}
use Rattle.std.specs.Prelude.{Ok}
use Rattle.tabletext.specs.Lines.{Said, entry}
use Rattle.tabletext.specs.Reading.{lines_in, marked, unmarked, Read, Reading, before, with_line, read_lines, says, read_into, Written, Reads}
use Rattle.tabletext.proofs.LineLaws.{first-line}
use Rattle.tabletext.proofs.Free.{Free, up_to-joined, behind-joined, has-joined}
use Rattle.tabletext.proofs.Unsaid.{blank_says_nothing, none}
use Rattle.textback.specs.Held.{Held, upward}
use Rattle.textback.proofs.Lines.{body_of, line_body, body_free, line-said, line-unmarked}

-- A line and a text behind it.
line_first : (l s : List ℕ) → Free 10 l → lines_in (l ++ (10 ∷ s)) ≡ l ∷ lines_in s
line_first l s f =
    first-line (l ++ (10 ∷ s))
    ∙ rw (up_to-joined 10 l 10 s f refl, has-joined 10 l 10 s f refl, behind-joined 10 l 10 s f refl)

-- What is read of routes.
abbrev pub back : ℕ → ℕ → List Route → Reading
back n k rs = record { routes = rs; lines = upward k (length rs); answer = Ok (n + length rs) }

-- A record's line, and more.
read_record : (hops : Bool) (n k : ℕ) (r : Route) (rest : Reading) (same : Reading) → n < 1024
    → with_line n k (entry r.addr r.len r.hop) same rest ≡ before r k rest
read_record hops n k r rest same low = rw (lt-ltb n 1024 low)

lines_back : (hops : Bool) (n k : ℕ) (rs : List Route) → All (Held hops) rs → n + length rs ≤ 1024 → read_lines hops n k (lines_in (lines_of hops rs)) ≡ back n k rs
unfolding read_lines lines_in text.lines_in upward
lines_back hops n k [] nil few = let e : n + 0 ≡ n = omega arith in rw (blank_says_nothing hops none, e)
lines_back hops n k (r ∷ rs) (cons g gs) few =
    let s = lines_of hops rs in
    let split : line_of hops r ++ s ≡ body_of hops r ++ (10 ∷ s) = ap (λ (l : List ℕ). l ++ s) (line_body hops r) ∙ append_assoc (body_of hops r) (10 ∷ []) s in
    let first : lines_in (line_of hops r ++ s) ≡ body_of hops r ∷ lines_in s =
    ap lines_in split ∙ line_first (body_of hops r) s (body_free hops r g 10 (λ v p q e. omega arith) refl refl refl) in
    let count : n + 1 + length rs ≡ n + suc (length rs) = omega arith in
    ap (λ (ls : List (List ℕ)). read_lines hops n k ls) first
    ∙ ap (λ (w : Said). with_line n k w (read_lines hops n (k + 1) (lines_in s)) (read_lines hops (n + 1) (k + 1) (lines_in s))) (line-said hops r g)
    ∙ read_record hops n k r (read_lines hops (n + 1) (k + 1) (lines_in s)) (read_lines hops n (k + 1) (lines_in s)) (omega arith)
    ∙ ap (λ (x : Reading). before r k x) (lines_back hops (n + 1) (k + 1) rs gs (omega arith))
    ∙ ap (λ (m : ℕ). record { routes = r ∷ rs; lines = k ∷ upward (k + 1) (length rs); answer = Ok m }) count

-- It begins with no byte order mark.
unmarked-lines : (hops : Bool) (rs : List Route) → All (Held hops) rs → unmarked (lines_of hops rs) ≡ lines_of hops rs
unfolding unmarked marked text.lines_in
unmarked-lines hops [] nil = refl
unmarked-lines hops (r ∷ rs) (cons g gs) = line-unmarked hops r g (lines_of hops rs)

-- What is printed of at most 1,024 routes that lines can hold reads back as these routes, line by line.
pub prints_back : (hops : Bool) (rs : List Route) → All (Held hops) rs → length rs ≤ 1024 → says hops (lines_of hops rs) ≡ back 0 1 rs
unfolding says
prints_back hops rs gs few = ap (λ (s : List ℕ). read_lines hops 0 1 (lines_in s)) (unmarked-lines hops rs gs) ∙ lines_back hops 0 1 rs gs (omega arith)

-- So the reader, with rooms that are long enough, leaves the records of these routes, and answers how many they are.
pub reads_back : (hops : Bool) (rs : List Route) → All (Held hops) rs → length rs ≤ 1024 → {r : Read} {o l o' l' : List ℕ} → 8192 ≤ length o → 1024 ≤ length l
    → Reads hops (lines_of hops rs) r o l o' l' → Written (back 0 1 rs) r o l o' l'
unfolding read_into
reads_back hops rs gs few {r} {o} {l} {o'} {l'} wide long w =
    let same : read_into hops (lines_of hops rs) o l ≡ back 0 1 rs = rw (le-leb 8192 (length o) wide, le-leb 1024 (length l) long) (prints_back hops rs gs few) in
    subst (λ (g : Reading). Written g r o l o' l') same w
