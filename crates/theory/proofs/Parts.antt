-- A table taken apart by a test, and the longest match of the whole from those of the parts.
use Prim.Native.Nat.{ℕ, suc, ◌+◌, ◌≤◌, ◌<◌}
use mathlib.Core.Path.{◌≡◌, refl, sym, ap, ap₂, ◌∙◌}
use mathlib.Core.Bool.{Bool, true, false, cond, not, ◌||◌}
use mathlib.Core.List.{List, [], ◌∷◌, ◌++◌}
use mathlib.Core.Logic.{◌↔◌}
use native.Mathlib.Decide.{dec_lt}
use native.Mathlib.Omega.{arith}
use lib.Dec.{eqb}
use lib.ListN.{length}
use borrow.Author.Tests.{lt-ltb, le-ltb, eqb-true, eqb-false}
use Rattle.theory.specs.Results.{part}
use Rattle.theory.specs.Routes.{Route, matches, Match, miss, hit, longer, tried, lookup, Answer, under, All, nil, cons, Before, Ascending, empty, first, Table, Member, head, later}
use Rattle.theory.proofs.Lists.{all_member, member_all}
use Rattle.theory.proofs.Ordered.{not_both}
use Rattle.theory.proofs.Preserve.{Deep, longer-miss}
use Rattle.theory.proofs.Routed.{Every, lookup_every}

-- The routes that fail a test.
abbrev pub rest : (Route → Bool) → List Route → List Route
rest p [] = []
rest p (r ∷ t) = cond (p r) (rest p t) (r ∷ rest p t)

pub length_parts : (p : Route → Bool) (t : List Route) → length t ≡ length (part p t) + length (rest p t)
length_parts p [] = refl
length_parts p (r ∷ t) = go (p r) (length_parts p t)
  where
    go : (b : Bool) → length t ≡ length (part p t) + length (rest p t)
        → suc (length t) ≡ length (cond b (r ∷ part p t) (part p t)) + length (cond b (rest p t) (r ∷ rest p t))
    go true ih = omega arith
    go false ih = omega arith

pub all_part : {P Q : Route → Type 0} {t : List Route} (p : Route → Bool) → ((r : Route) → P r → p r ≡ true → Q r) → All P t → All Q (part p t)
all_part p k nil = nil
all_part {P} {Q} p k (cons {r = r} {t = t} h hs) = go (p r) refl (all_part p k hs)
  where
    go : (b : Bool) → p r ≡ b → All Q (part p t) → All Q (cond b (r ∷ part p t) (part p t))
    go true e ih = cons (k r h e) ih
    go false e ih = ih

pub all_rest : {P Q : Route → Type 0} {t : List Route} (p : Route → Bool) → ((r : Route) → P r → p r ≡ false → Q r) → All P t → All Q (rest p t)
all_rest p k nil = nil
all_rest {P} {Q} p k (cons {r = r} {t = t} h hs) = go (p r) refl (all_rest p k hs)
  where
    go : (b : Bool) → p r ≡ b → All Q (rest p t) → All Q (cond b (rest p t) (r ∷ rest p t))
    go true e ih = ih
    go false e ih = cons (k r h e) ih

longer_none : (m : Match) → longer m miss ≡ m
longer_none miss = refl
longer_none (hit k h) = refl

longer_assoc : (m l i : Match) → longer m (longer l i) ≡ longer (longer m l) i
longer_assoc miss l i = refl
longer_assoc (hit k h) miss i = refl
longer_assoc (hit k h) (hit l i) miss = sym (longer_none (longer (hit k h) (hit l i)))
longer_assoc (hit k h) (hit l i) (hit m j) = go (dec_lt l k) (dec_lt m l)
  where
    go : Dec (l < k) → Dec (m < l) → longer (hit k h) (longer (hit l i) (hit m j)) ≡ longer (longer (hit k h) (hit l i)) (hit m j)
    go (yes p) (yes q) = simp (lt-ltb l k p, lt-ltb m l q, lt-ltb m k (omega arith))
    go (yes p) (no q) = simp (lt-ltb l k p, le-ltb m l (omega arith))
    go (no p) (yes q) = simp (le-ltb l k (omega arith), lt-ltb m l q)
    go (no p) (no q) = simp (le-ltb l k (omega arith), le-ltb m l (omega arith), le-ltb m k (omega arith))

-- A match is at most so long.
abbrev pub Shallow : ℕ → Match → Type 0
Shallow k m = Every (λ l h. l ≤ k) m

pub lookup_shallow : (w k x : ℕ) {t : List Route} → All (λ r. r.len ≤ k) t → Shallow k (lookup w t x)
lookup_shallow w k x h = lookup_every (λ l h. l ≤ k) w x h

longer_comm : (k : ℕ) (m e : Match) → Deep (suc k) m → Shallow k e → longer m e ≡ longer e m
longer_comm k miss e p q = sym (longer_none e)
longer_comm k (hit l h) miss p q = refl
longer_comm k (hit l h) (hit j g) p q = rw (lt-ltb j l (omega arith), le-ltb l j (omega arith))

pub under-longer : (k : ℕ) (g : Answer) (e i : Match) → Shallow k e → Deep k i → under g (longer e i) ≡ under (under g e) i
under-longer k g miss i p q = refl
under-longer k g (hit l h) miss p q = refl
under-longer k g (hit l h) (hit j m) p q = rw (le-ltb j l (omega arith))

module _ (w x : ℕ) (p : Route → Bool) where
  -- Where one part has no match, the other part has the whole's.
  pub lookup-part : (t : List Route) → lookup w (rest p t) x ≡ miss → lookup w t x ≡ lookup w (part p t) x
  lookup-part [] e = refl
  lookup-part (r ∷ t) e = go (p r) (lookup-part t) e
    where
      go : (b : Bool) → (lookup w (rest p t) x ≡ miss → lookup w t x ≡ lookup w (part p t) x) → lookup w (cond b (rest p t) (r ∷ rest p t)) x ≡ miss
          → longer (tried w r x) (lookup w t x) ≡ lookup w (cond b (r ∷ part p t) (part p t)) x
      go true ih q = ap (longer (tried w r x)) (ih q)
      go false ih q =
          let both : (tried w r x ≡ miss) × (lookup w (rest p t) x ≡ miss) = longer-miss (tried w r x) (lookup w (rest p t) x) q in
          ap (λ (m : Match). longer m (lookup w t x)) both.0 ∙ ih both.1

  pub lookup_rest : (t : List Route) → lookup w (part p t) x ≡ miss → lookup w t x ≡ lookup w (rest p t) x
  lookup_rest [] e = refl
  lookup_rest (r ∷ t) e = go (p r) (lookup_rest t) e
    where
      go : (b : Bool) → (lookup w (part p t) x ≡ miss → lookup w t x ≡ lookup w (rest p t) x) → lookup w (cond b (r ∷ part p t) (part p t)) x ≡ miss
          → longer (tried w r x) (lookup w t x) ≡ lookup w (cond b (rest p t) (r ∷ rest p t)) x
      go false ih q = ap (longer (tried w r x)) (ih q)
      go true ih q =
          let both : (tried w r x ≡ miss) × (lookup w (part p t) x ≡ miss) = longer-miss (tried w r x) (lookup w (part p t) x) q in
          ap (λ (m : Match). longer m (lookup w t x)) both.0 ∙ ih both.1

-- Routes that match both or neither of two addresses have one longest match of both.
pub lookup_alike : (w x y : ℕ) {t : List Route} → All (λ r. matches w r x ≡ matches w r y) t → lookup w t x ≡ lookup w t y
lookup_alike w x y nil = refl
lookup_alike w x y (cons {r = r} p ps) = let e : tried w r x ≡ tried w r y = rw p in ap₂ longer e (lookup_alike w x y ps)

-- the routes of length k
abbrev pub of_len : ℕ → Route → Bool
of_len k r = eqb r.len k

pub part-len : {k : ℕ} {t : List Route} → All (λ r. k ≤ r.len) t → All (λ r. r.len ≤ k) (part (of_len k) t)
part-len {k} h = all_part (of_len k) (λ r p e. omega (arith, eqb-true r.len k e)) h

-- Where no route is shorter than k, the whole's match is that of the longer routes, or else that of those of length k.
pub lookup_lens : (w x k : ℕ) {t : List Route} → All (λ r. k ≤ r.len) t
    → lookup w t x ≡ longer (lookup w (part (of_len k) t) x) (lookup w (rest (of_len k) t) x)
lookup_lens w x k nil = refl
lookup_lens w x k (cons {r = r} {t = t} h hs) = go (of_len k r) refl (lookup_lens w x k hs)
  where
    e : Match
    e = lookup w (part (of_len k) t) x

    i : Match
    i = lookup w (rest (of_len k) t) x

    deep : (b : Bool) → of_len k r ≡ false → Deep (suc k) (cond b (hit r.len r.hop) miss)
    deep true q = go (dec_lt k r.len)
      where
        go : Dec (k < r.len) → k < r.len
        go (yes lt) = lt
        go (no ge) = absurd (eqb-false r.len k q (omega arith))
    deep false q = tt

    go : (b : Bool) → of_len k r ≡ b → lookup w t x ≡ longer e i
        → longer (tried w r x) (lookup w t x)
        ≡ longer (lookup w (cond b (r ∷ part (of_len k) t) (part (of_len k) t)) x) (lookup w (cond b (rest (of_len k) t) (r ∷ rest (of_len k) t)) x)
    go true q ih = ap (longer (tried w r x)) ih ∙ longer_assoc (tried w r x) e i
    go false q ih =
        ap (longer (tried w r x)) ih
        ∙ longer_assoc (tried w r x) e i
        ∙ ap (λ (m : Match). longer m i) (longer_comm k (tried w r x) e (deep (matches w r x) q) (lookup_shallow w k x (part-len hs)))
        ∙ sym (longer_assoc e (tried w r x) i)

in_part : (p : Route → Bool) {r : Route} {t : List Route} → Member r t → p r ≡ true → Member r (part p t)
in_part p head e = rw e head
in_part p {r} (later {s = s} {t = t} m) e = go (p s) (in_part p m e)
  where
    go : (b : Bool) → Member r (part p t) → Member r (cond b (s ∷ part p t) (part p t))
    go true ih = later ih
    go false ih = ih

-- The members of a part are the members that pass its test; those of the rest fail it.
pub member-part : (p : Route → Bool) (t : List Route) {r : Route} → Member r (part p t) ↔ (Member r t × (p r ≡ true))
member-part p t = (
  all_member {P = λ r. Member r t × (p r ≡ true)} (all_part p (λ r m e. (m, e)) (member_all t (λ r m. m))),
  λ z. in_part p z.0 z.1,
)

pub member_rest : (p : Route → Bool) (t : List Route) {r : Route} → Member r (rest p t) → Member r t × (p r ≡ false)
member_rest p t = all_member {P = λ r. Member r t × (p r ≡ false)} (all_rest p (λ r m e. (m, e)) (member_all t (λ r m. m)))

pub ascending_part : (p : Route → Bool) {t : List Route} → Ascending t → Ascending (part p t)
ascending_part p empty = empty
ascending_part p (first {r = r} {t = t} b o) = go (p r) (ascending_part p o)
  where
    go : (c : Bool) → Ascending (part p t) → Ascending (cond c (r ∷ part p t) (part p t))
    go true ih = first (all_part p (λ s q e. q) b) ih
    go false ih = ih

-- A part of a table is a table.
pub table-part : (w : ℕ) (p : Route → Bool) {t : List Route} → Table w t → Table w (part p t)
table-part w p table = record { valid = all_part p (λ r v e. v) table.valid; order = ascending_part p table.order }

-- Where no route passes a test, all are left.
pub rest_all : (p : Route → Bool) (t : List Route) → length (part p t) ≤ 0 → rest p t ≡ t
rest_all p [] le = refl
rest_all p (r ∷ t) le = go (p r) (rest_all p t) le
  where
    go : (b : Bool) → (length (part p t) ≤ 0 → rest p t ≡ t) → length (cond b (r ∷ part p t) (part p t)) ≤ 0 → cond b (rest p t) (r ∷ rest p t) ≡ r ∷ t
    go true ih e = absurd (omega arith)
    go false ih e = ap (λ (s : List Route). r ∷ s) (ih e)

-- Those that are left are those that fail the test.
pub rest_part : (p : Route → Bool) (t : List Route) → rest p t ≡ part (λ r. not (p r)) t
rest_part p [] = refl
rest_part p (r ∷ t) = go (p r) (rest_part p t)
  where
    go : (b : Bool) → rest p t ≡ part (λ s. not (p s)) t
        → cond b (rest p t) (r ∷ rest p t) ≡ cond (not b) (r ∷ part (λ s. not (p s)) t) (part (λ s. not (p s)) t)
    go true ih = ih
    go false ih = ap (λ (s : List Route). r ∷ s) ih

pub in_rest : (p : Route → Bool) {t : List Route} {r : Route} → Member r t → p r ≡ false → Member r (rest p t)
in_rest p {t} m e = rw (rest_part p t) ((member-part (λ r. not (p r)) t).1 (m, ap not e))

-- Parts by tests that agree on the members are equal; a part by a test that all pass is the whole.
pub part-agree : (p q : Route → Bool) (t : List Route) → ((r : Route) → Member r t → p r ≡ q r) → part p t ≡ part q t
part-agree p q [] k = refl
part-agree p q (r ∷ t) k = rw (k r head, part-agree p q t (λ s m. k s (later m)))

pub part-whole : (p : Route → Bool) (t : List Route) → ((r : Route) → Member r t → p r ≡ true) → part p t ≡ t
part-whole p [] k = refl
part-whole p (r ∷ t) k = rw (k r head, part-whole p t (λ s m. k s (later m)))

-- A part of a part, by both tests in either order.
pub part_swap : (p q : Route → Bool) (t : List Route) → part p (part q t) ≡ part q (part p t)
part_swap p q [] = refl
part_swap p q (r ∷ t) = go (p r) refl (q r) refl (part_swap p q t)
  where
    go : (b : Bool) → p r ≡ b → (c : Bool) → q r ≡ c → part p (part q t) ≡ part q (part p t)
        → part p (cond c (r ∷ part q t) (part q t)) ≡ part q (cond b (r ∷ part p t) (part p t))
    go true e true d ih = rw (e, d, ih)
    go true e false d ih = rw d ih
    go false e true d ih = rw e ih
    go false e false d ih = ih

-- A part of a part, where whatever passes the first test passes the second.
pub part_twice : (p q : Route → Bool) (t : List Route) → ((r : Route) → p r ≡ true → q r ≡ true) → part p (part q t) ≡ part p t
part_twice p q t k = part_swap p q t ∙ part-whole q (part p t) (λ r m. k r ((member-part p t).0 m).1)

-- A part by a test that none pass is empty.
pub part_none : (p : Route → Bool) (t : List Route) → ((r : Route) → Member r t → p r ≡ false) → part p t ≡ []
part_none p [] k = refl
part_none p (r ∷ t) k = rw (k r head) (part_none p t (λ s m. k s (later m)))

-- Where each route that passes one test stands before each that passes another, those that pass either are those of the one, then those of the other.
pub part_either : (p q : Route → Bool) {t : List Route} → ((r s : Route) → p r ≡ true → q s ≡ true → Before r s) → Ascending t
    → part (λ r. p r || q r) t ≡ part p t ++ part q t
part_either p q k empty = refl
part_either p q k (first {r = r} {t = t} b o) = go (p r) refl (q r) refl (part_either p q k o)
  where
    either : Route → Bool
    either s = p s || q s

    none : q r ≡ true → part p t ≡ []
    none e = part_none p t (λ s m. go (p s) refl m)
      where
        go : {s : Route} (c : Bool) → p s ≡ c → Member s t → c ≡ false
        go {s} true f m = absurd (not_both r s (all_member b m) (k s r f e))
        go false f m = refl

    go : (c : Bool) → p r ≡ c → (d : Bool) → q r ≡ d → part either t ≡ part p t ++ part q t
        → cond (c || d) (r ∷ part either t) (part either t) ≡ cond c (r ∷ part p t) (part p t) ++ cond d (r ∷ part q t) (part q t)
    go true e true f ih = absurd (not_both r r (k r r e f) (k r r e f))
    go true e false f ih = ap (λ (u : List Route). r ∷ u) ih
    go false e true f ih = rw (ih, none f)
    go false e false f ih = ih

-- The routes of two lists, one after the other, that pass a test.
pub part-append : (p : Route → Bool) (s t : List Route) → part p (s ++ t) ≡ part p s ++ part p t
part-append p [] t = refl
part-append p (r ∷ s) t = go (p r) (part-append p s t)
  where
    go : (b : Bool) → part p (s ++ t) ≡ part p s ++ part p t → cond b (r ∷ part p (s ++ t)) (part p (s ++ t)) ≡ cond b (r ∷ part p s) (part p s) ++ part p t
    go true ih = ap (λ (u : List Route). r ∷ u) ih
    go false ih = ih
