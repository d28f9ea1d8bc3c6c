-- A table in any order of lines reads as the same table. Assumes nothing.
use Prim.Native.Nat.{ℕ, zero, suc, ◌+◌, ◌*◌, ◌≤◌}
use mathlib.Core.Path.{◌≡◌, refl, sym, ap, ap₂, subst, ◌∙◌}
use mathlib.Core.Bool.{Bool, true, false, cond, ◌&&◌}
use mathlib.Core.List.{List, [], ◌∷◌, ◌++◌, map}
use native.Mathlib.Omega.{arith}
use borrow.Author.Tests.{leb-true}
use lib.Dec.{leb}
use lib.ListN.{length, get_or, take, drop}
use lib.Seq.{get_or-append-add}
use Rattle.theory.specs.Routes.{Route}
use Rattle.records.specs.Wire.{record_of, bytes_of}
use Rattle.records.specs.Sized.{laid, octets_of, record_in, bytes_in}
use Rattle.records.proofs.Laid.{length-laid}
use Rattle.records.proofs.Reading.{eight}
use Rattle.records.proofs.SizedWritten.{length_record}
use Rattle.records.proofs.Written.{length-bytes}
use Rattle.std.specs.Prelude.{Ok, Err}
use Rattle.tabletext.specs.Reading.{Read, ends, says, read_into, Written, Reads}
use Rattle.tabletext.specs.declared.ReadError.TheVariants.{NoRoom}
use Rattle.tabletext.proofs.Sound.{says-kept, says-count}
use Rattle.tableorder.specs.Rows.{record_at, listed, records_of, Moved, Sorts, OnePrefix}
use Rattle.tableorder.proofs.Exchange.{record_same}
use Rattle.tableorder.proofs.Lists.{count, moved-count, moved-map}
use Rattle.tableorder.proofs.Settled.{same_table}
use Rattle.tableread.specs.Sorted.{ReadsSorted}

-- ---- Records that are laid at the beginning.

-- Behind a record the others follow.
shift : (r : Route) (s : List ℕ) (i : ℕ) → record_at (record_of r ++ s) (suc i) ≡ record_at s i
shift r s i =
    record_same (record_of r ++ s) s (suc i) i
    (λ k low.
    let e : 8 * suc i + k ≡ length (record_of r) + (8 * i + k) = omega (arith, length_record 8 eight r) in
    ap (λ (m : ℕ). get_or (record_of r ++ s) m 0) e ∙ get_or-append-add (record_of r) s (8 * i + k) 0)

shifted : (r : Route) (s : List ℕ) (i n : ℕ) → listed (record_at (record_of r ++ s)) (suc i) n ≡ listed (record_at s) i n
unfolding listed
shifted r s i zero = refl
shifted r s i (suc n) = ap₂ (λ (b : List ℕ) (l : List (List ℕ)). b ∷ l) (shift r s i) (shifted r s (suc i) n)

-- The records of routes are the routes'.
records_front : (rs : List Route) (s : List ℕ) → records_of (bytes_of rs ++ s) (length rs) ≡ map record_of rs
unfolding listed bytes_in record_in octets_of
records_front [] s = refl
records_front (r ∷ rs) s = ap (λ (l : List (List ℕ)). record_of r ∷ l) (shifted r (bytes_of rs ++ s) 0 (length rs) ∙ records_front rs s)

records-laid : (rs : List Route) (o : List ℕ) → records_of (laid 0 (bytes_of rs) o) (length rs) ≡ map record_of rs
unfolding laid
records-laid rs o = records_front rs (drop (0 + length (bytes_of rs)) o)

-- ---- What is read, where it is a table.

both : (a b : Bool) → (a && b) ≡ true → (a ≡ true) × (b ≡ true)
both true b e = (refl, e)
both false b e = let z : ◌≡◌ {A = ℕ} 0 1 = cc in absurd (omega arith)

-- A table of n records: they are those that the text says, and the rooms have space for them.
pub record Tabled (hops : Bool) (text : List ℕ) (n : ℕ) (o' l' : List ℕ) : Type 0 where
  pub many : length (says hops text).routes ≡ n
  pub records : records_of o' n ≡ map record_of (says hops text).routes
  pub wide : 8 * n ≤ length o'
  pub long : n ≤ length l'

module _ (hops : Bool) (text : List ℕ) (n : ℕ) (o l o' l' : List ℕ) where
  tabled : Written (says hops text) (Ok n) o l o' l' → 8192 ≤ length o → 1024 ≤ length l → Tabled hops text n o' l'
  tabled w p q =
      let g = says hops text in
      let kept = says-kept hops text in
      let few = kept.few in
      let many = says-count hops text n (sym w.answers) in
      let bytes = length-bytes g.routes in
      let lines = kept.numbered in
      let fits : 0 + length (bytes_of g.routes) ≤ length o = omega arith in
      let fits' : 0 + length g.lines ≤ length l = omega arith in
      let size = ap (λ (x : List ℕ). length x) w.records ∙ length-laid 0 (bytes_of g.routes) o fits in
      let size' = ap (λ (x : List ℕ). length x) w.numbers ∙ length-laid 0 g.lines l fits' in
      record {
        many = many;
        records = ap₂ (λ (t : List ℕ) (m : ℕ). records_of t m) w.records (sym many) ∙ records-laid g.routes o;
        wide = omega arith;
        long = omega arith;
      }

  pub read_tabled : Reads hops text (Ok n) o l o' l' → Tabled hops text n o' l'
  unfolding read_into
  read_tabled w = go (leb 8192 (length o) && leb 1024 (length l)) refl w
    where
      go : (t : Bool) → (leb 8192 (length o) && leb 1024 (length l)) ≡ t → Written (cond t (says hops text) (ends (Err NoRoom))) (Ok n) o l o' l' → Tabled hops text n o' l'
      go true e w =
          let p = both (leb 8192 (length o)) (leb 1024 (length l)) e in
          tabled w (leb-true 8192 (length o) p.0) (leb-true 1024 (length l) p.1)
      go false e w = let f = w.answers in let z : ◌≡◌ {A = ℕ} 0 1 = cc in absurd (omega arith)

-- ---- Another order of lines.

count_all : {A : Type 0} (l : List A) → count (λ x. true) l ≡ length l
unfolding count
count_all [] = refl
count_all (x ∷ l) = let e = count_all l in omega arith

-- Two texts that say the same routes, in any order and on any lines, where no prefix has two different records, give the same table.
pub any_order : (hops : Bool) (a b : List ℕ) (n m : ℕ) {o l o' l' p k p' k' : List ℕ} → ReadsSorted hops a (Ok n) o l o' l' → ReadsSorted hops b (Ok m) p k p' k'
    → Moved (says hops a).routes (says hops b).routes → OnePrefix (map record_of (says hops a).routes) → (n ≡ m) × (take (8 * n) o' ≡ take (8 * m) p')
any_order hops a b n m {o} {l} {o'} {l'} {p} {k} {p'} {k'} x y moved one =
    let u = read_tabled hops a n o l x.records x.numbers x.reads in
    let v = read_tabled hops b m p k y.records y.numbers y.reads in
    let e : n ≡ m = sym u.many ∙ sym (count_all (says hops a).routes) ∙ moved-count (λ z. true) moved ∙ count_all (says hops b).routes ∙ v.many in
    let sorts : Sorts n y.records y.numbers p' k' = subst (λ (c : ℕ). Sorts c y.records y.numbers p' k') (sym e) y.moves in
    let others : records_of y.records n ≡ map record_of (says hops b).routes = ap (λ (c : ℕ). records_of y.records c) e ∙ v.records in
    let again : Moved (records_of x.records n) (records_of y.records n) =
    subst (λ (s : List (List ℕ)). Moved s (records_of y.records n)) (sym u.records)
    (subst (λ (s : List (List ℕ)). Moved (map record_of (says hops a).routes) s) (sym others) (moved-map record_of moved)) in
    let single : OnePrefix (records_of x.records n) = subst (λ (s : List (List ℕ)). OnePrefix s) (sym u.records) one in
    let wide = v.wide in
    (e, same_table x.moves sorts u.wide (omega arith) again single ∙ ap (λ (c : ℕ). take (8 * c) p') e)

-- ---- The answer by its kind.

module _ (hops : Bool) (text : List ℕ) {r : Read} {o l o' l' : List ℕ} (w : Reads hops text r o l o' l') where
  -- The rooms have space for what is read.
  pub room_of : (n : ℕ) → r ≡ Ok n → (8 * n ≤ length o') × (n ≤ length l')
  room_of n e =
      let t = read_tabled hops text n o l o' l' (subst (λ (x : Read). Reads hops text x o l o' l') e w) in
      (t.wide, t.long)
