-- Runs: the routes of a table that lie in a position. Runs of nested positions; a run taken apart into the position's own route and the runs
-- of its halves, and so met by a walk; and one step of the longest match and of the cover, from a position to a half.
use Prim.Native.Nat.{ℕ, zero, suc, ◌+◌, ◌-◌, ◌^◌, ◌≤◌, ◌<◌}
use mathlib.Core.Path.{◌≡◌, refl, sym, ap, ap₂, ◌∙◌}
use mathlib.Core.Bool.{Bool, true, false, ◌||◌, ◌&&◌, or-false, and-eq-true_iff, or-and_distrib_left}
use mathlib.Core.List.{List, [], ◌∷◌, ◌++◌, append-nil}
use mathlib.Core.Logic.{◌↔◌, ◌⊎◌, inl, inr}
use native.Mathlib.Nat.{pow-suc, le_refl, eq-or-lt_of_le}
use native.Mathlib.Decide.{dec_lt}
use native.Mathlib.Omega.{arith}
use lib.Dec.{eqb, leb, ltb}
use borrow.Author.Tests.{eq-eqb, eqb-true, le-leb, leb-true, lt-ltb, ltb-true}
use Rattle.theory.specs.Shapes.{Within, routed}
use Rattle.theory.specs.Results.{In, part, throughout}
use Rattle.theory.specs.Routes.{Route, matches, held, Match, miss, hit, lookup, Answer, none, via, under, Aligned, Valid, All, nil, cons, Before, Ascending, empty, first, Table}
use Rattle.theory.proofs.Blocks.{pow_pos, aligned-left, aligned-right, aligned_down, aligned_next, next-block, same_start, in→block}
use Rattle.theory.proofs.Lists.{all_member}
use Rattle.theory.proofs.Maximal.{throughout-each, throughout-agree}
use Rattle.theory.proofs.Parts.{all_part, under-longer, ascending_part, table-part, part-whole, part_twice, part_either}
use Rattle.theory.proofs.Preserve.{Deep, lookup_outside, lookup-deep, lookup-append-left, lookup-append-right}
use Rattle.theory.proofs.Routed.{held-answer}
use Rattle.positions.specs.Runs.{is_at, is_in, inside, Run, head_hop, own, or_else}
use Rattle.positions.specs.Walk.{walk}

-- ---- The two tests, by the facts that they stand for.

-- A route stands at a position exactly when it has its length and its address.
pub is_at_lem : (w n a : ℕ) (r : Route) → (is_at w n a r ≡ true) ↔ ((r.len ≡ w - n) × (r.addr ≡ a))
is_at_lem w n a r = (
  λ e. let z = (and-eq-true_iff (eqb r.len (w - n)) (eqb r.addr a)).0 e in (eqb-true _ _ z.0, eqb-true _ _ z.1),
  λ z. (and-eq-true_iff (eqb r.len (w - n)) (eqb r.addr a)).1 (eq-eqb _ _ z.0, eq-eqb _ _ z.1),
)

-- A route lies in a position exactly when it is as long and its address is one of the position's.
pub is_in_lem : (w n a : ℕ) (r : Route) → (is_in w n a r ≡ true) ↔ ((w - n ≤ r.len) × In n a r.addr)
is_in_lem w n a r = (
  λ e.
      let z = (and-eq-true_iff (leb (w - n) r.len) (leb a r.addr && ltb r.addr (a + 2 ^ n))).0 e in
      let y = (and-eq-true_iff (leb a r.addr) (ltb r.addr (a + 2 ^ n))).0 z.1 in
      (leb-true _ _ z.0, (leb-true _ _ y.0, ltb-true _ _ y.1)),
  λ z.
      (and-eq-true_iff (leb (w - n) r.len) (leb a r.addr && ltb r.addr (a + 2 ^ n))).1
      (le-leb _ _ z.0, (and-eq-true_iff (leb a r.addr) (ltb r.addr (a + 2 ^ n))).1 (le-leb _ _ z.1.0, lt-ltb _ _ z.1.1)),
)

-- ---- Nested positions.

-- The position (m, b) lies in the position (n, a).
pub record Nested (m b n a : ℕ) : Type 0 where
  pub smaller : m ≤ n
  pub from : a ≤ b
  pub upto : b + 2 ^ m ≤ a + 2 ^ n

-- A position lies in itself.
pub nested_self : (n a : ℕ) → Nested n a n a
nested_self n a = record { smaller = le_refl n; from = le_refl a; upto = le_refl (a + 2 ^ n) }

module _ (w : ℕ) {m b n a : ℕ} (i : Nested m b n a) (t : List Route) where
  in_in : (r : Route) → is_in w m b r ≡ true → is_in w n a r ≡ true
  in_in r e = (is_in_lem w n a r).1 (omega (arith, (is_in_lem w m b r).0 e))

  at_in : (r : Route) → is_at w m b r ≡ true → is_in w n a r ≡ true
  at_in r e = (is_in_lem w n a r).1 (omega (arith, (is_at_lem w m b r).0 e, pow_pos m))

  -- The routes that lie in a position nested in another are all found among those that lie in the other, and so is the route that stands at it.
  pub inside_nested : inside w m b (inside w n a t) ≡ inside w m b t
  inside_nested = part_twice (is_in w m b) (is_in w n a) t in_in

  pub at_nested : part (is_at w m b) (inside w n a t) ≡ part (is_at w m b) t
  at_nested = part_twice (is_at w m b) (is_in w n a) t at_in

  pub own_nested : own w m b (inside w n a t) ≡ own w m b t
  own_nested = ap head_hop at_nested

-- An aligned position that starts in a larger one lies in it.
pub nested_start : (m b n a : ℕ) → m ≤ n → Aligned m b → Aligned n a → In n a b → Nested m b n a
nested_start m b n a le c d i =
    record { smaller = le; from = i.0; upto = next-block m b (a + 2 ^ n) c (aligned_down m n (a + 2 ^ n) le (aligned_next n a d)) i.1 }

-- ---- Runs.

-- The routes inside a position are a table.
pub inside-table : (w n a : ℕ) {t : List Route} → Table w t → Table w (inside w n a t)
inside-table w n a table = table-part w (is_in w n a) table

-- The addresses of a valid route that lies in a position are the position's.
pub inside-within : (w n a : ℕ) {t : List Route} → n ≤ w → Aligned n a → All (Valid w) t → All (Within w n a) (inside w n a t)
inside-within w n a le d valid = all_part (is_in w n a) one valid
  where
    one : (r : Route) → Valid w r → is_in w n a r ≡ true → Within w n a r
    one r v e =
        let z = (is_in_lem w n a r).0 e in
        let i : Nested (w - r.len) r.addr n a = nested_start (w - r.len) r.addr n a (omega (arith, v.short)) v.clean d z.1 in
        record { low = i.from; high = i.upto; deep = z.0; short = v.short; aligned = v.clean }

-- So the routes inside a position are a run of it.
pub inside-run : (w n a : ℕ) {t : List Route} → n ≤ w → Aligned n a → Table w t → Run w n a (inside w n a t)
inside-run w n a le d table =
    record { fits = le; aligned = d; table = inside-table w n a table; within = inside-within w n a le d table.valid }

within_in : (w n a : ℕ) (r : Route) → Within w n a r → is_in w n a r ≡ true
within_in w n a r i = (is_in_lem w n a r).1 (omega (arith, pow_pos (w - r.len)))

-- A run has no routes outside its position.
pub inside_all : (w n a : ℕ) {t : List Route} → All (Within w n a) t → inside w n a t ≡ t
inside_all w n a {t} tw = part-whole (is_in w n a) t (λ r m. within_in w n a r (all_member tw m))

-- The empty list, or one route of the position's.
abbrev pub AtMostOne : ℕ → ℕ → ℕ → List Route → Type 0
AtMostOne w n a t = (t ≡ []) ⊎ ((r : Route) × (t ≡ r ∷ []) × (r.len ≡ w - n) × (r.addr ≡ a))

-- At a position stands one route of a table at most.
pub at_most_one : (w n a : ℕ) {t : List Route} → Table w t → AtMostOne w n a (part (is_at w n a) t)
at_most_one w n a {t} table =
    go (ascending_part (is_at w n a) table.order) (all_part (is_at w n a) (λ r v e. (is_at_lem w n a r).0 e) table.valid)
  where
    go : {s : List Route} → Ascending s → All (λ r. (r.len ≡ w - n) × (r.addr ≡ a)) s → AtMostOne w n a s
    go empty p = inl refl
    go (first nil o) (cons {r = r} p ps) = inr (r, refl, p.0, p.1)
    go (first (cons (inl lt) b) o) (cons p (cons q ps)) = absurd (omega arith)
    go (first (cons (inr lt) b) o) (cons p (cons q ps)) = absurd (omega arith)

-- ---- A run taken apart.

-- A route of a position of one address stands at it.
pub run_one : {w a : ℕ} {t : List Route} → All (Within w 0 a) t → t ≡ part (is_at w 0 a) t
run_one {w} {a} {t} tw = sym (part-whole (is_at w 0 a) t (λ r m. one r (all_member tw m)))
  where
    one : (r : Route) → Within w 0 a r → is_at w 0 a r ≡ true
    one r i = (is_at_lem w 0 a r).1 (omega (arith, pow_pos (w - r.len)))

module _ {w n a : ℕ} {t : List Route} (run : Run w (suc n) a t) where
  in_halves_or_at : (r : Route) → Within w (suc n) a r → (is_at w (suc n) a r || (is_in w n a r || is_in w n (a + 2 ^ n) r)) ≡ true
  in_halves_or_at r i = go (eq-or-lt_of_le i.deep) (dec_lt r.addr (a + 2 ^ n))
    where
      or_left : (b c : Bool) → b ≡ true → (b || c) ≡ true
      or_left b c e = rw e

      or_right : (b c : Bool) → c ≡ true → (b || c) ≡ true
      or_right true c e = refl
      or_right false c e = e

      go : (w - suc n ≡ r.len) ⊎ (w - suc n < r.len) → Dec (r.addr < a + 2 ^ n)
          → (is_at w (suc n) a r || (is_in w n a r || is_in w n (a + 2 ^ n) r)) ≡ true
      go (inl e) h =
          let q : w - r.len ≡ suc n = omega (arith, run.fits) in
          let low : In (suc n) a r.addr = omega (arith, i.low, i.high, pow_pos (w - r.len)) in
          or_left (is_at w (suc n) a r) _ ((is_at_lem w (suc n) a r).1 (sym e, same_start (suc n) a r.addr run.aligned (rw q at i.aligned) low))
      go (inr lt) (yes h) =
          or_right (is_at w (suc n) a r) _ (or_left (is_in w n a r) _ ((is_in_lem w n a r).1 (omega (arith, i.low))))
      go (inr lt) (no h) =
          or_right (is_at w (suc n) a r) _ (or_right (is_in w n a r) _ ((is_in_lem w n (a + 2 ^ n) r).1
          (omega (arith, i.high, pow-suc 2 n, pow_pos (w - r.len)))))

  -- The route at the position, then those in its left half, then those in its right half.
  pub run_splits : t ≡ part (is_at w (suc n) a) t ++ (inside w n a t ++ inside w n (a + 2 ^ n) t)
  run_splits =
      sym (part-whole (λ r. is_at w (suc n) a r || (is_in w n a r || is_in w n (a + 2 ^ n) r)) t (λ r m. in_halves_or_at r (all_member run.within m)))
      ∙ part_either (is_at w (suc n) a) (λ r. is_in w n a r || is_in w n (a + 2 ^ n) r) top run.table.order
      ∙ ap (λ (u : List Route). part (is_at w (suc n) a) t ++ u) (part_either (is_in w n a) (is_in w n (a + 2 ^ n)) across run.table.order)
    where
      across : (r s : Route) → is_in w n a r ≡ true → is_in w n (a + 2 ^ n) s ≡ true → Before r s
      across r s e f = inl (omega (arith, (is_in_lem w n a r).0 e, (is_in_lem w n (a + 2 ^ n) s).0 f))

      before : (r s : Route) → is_at w (suc n) a r ≡ true → (w - n ≤ s.len) × (a ≤ s.addr) → Before r s
      before r s e z = go (eq-or-lt_of_le z.1)
        where
          at : (r.len ≡ w - suc n) × (r.addr ≡ a)
          at = (is_at_lem w (suc n) a r).0 e

          go : (a ≡ s.addr) ⊎ (a < s.addr) → Before r s
          go (inl q) = inr (omega (arith, at, run.fits))
          go (inr lt) = inl (omega (arith, at))

      top : (r s : Route) → is_at w (suc n) a r ≡ true → (is_in w n a s || is_in w n (a + 2 ^ n) s) ≡ true → Before r s
      top r s e f = before r s e (go (is_in w n a s) refl f)
        where
          go : (b : Bool) → is_in w n a s ≡ b → (b || is_in w n (a + 2 ^ n) s) ≡ true → (w - n ≤ s.len) × (a ≤ s.addr)
          go true q g = omega (arith, (is_in_lem w n a s).0 q)
          go false q g = omega (arith, (is_in_lem w n (a + 2 ^ n) s).0 g)

-- ---- One step down: an address of a half is answered by the half's run, or else by the position's own route.

-- (n, b) is a half of the position (suc n, a).
abbrev pub Half : ℕ → ℕ → ℕ → Type 0
Half n a b = (b ≡ a) ⊎ (b ≡ a + 2 ^ n)

-- A half is aligned, and lies in its position.
pub half_aligned : (n a b : ℕ) → Aligned (suc n) a → Half n a b → Aligned n b
half_aligned n a b d (inl e) = rw e (aligned-left n a d)
half_aligned n a b d (inr e) = rw e (aligned-right n a d)

pub half_nested : (n a b : ℕ) → Half n a b → Nested n b (suc n) a
half_nested n a b (inl e) = record { smaller = omega arith; from = omega arith; upto = omega (arith, pow-suc 2 n) }
half_nested n a b (inr e) = record { smaller = omega arith; from = omega arith; upto = omega (arith, pow-suc 2 n) }

-- Whether a hop is said: by the match, or else by what is above.
pub routed-under : (v : Answer) (m : Match) → routed (under v m) ≡ (routed v || routed (under none m))
routed-under none m = refl
routed-under (via h) miss = refl
routed-under (via h) (hit k i) = refl

-- Or by the one answer, or else by the other.
pub routed_else : (v g : Answer) → routed (or_else v g) ≡ (routed v || routed g)
routed_else none g = refl
routed_else (via h) g = refl

-- The route at a position, if there is one, answers its addresses where no longer route does.
top-answer : (w n a x : ℕ) → n ≤ w → Aligned n a → In n a x → (g : Answer) {s : List Route} → AtMostOne w n a s → (inner : List Route)
    → Deep (w - n) (lookup w inner x) → under g (lookup w (s ++ inner) x) ≡ under (or_else (head_hop s) g) (lookup w inner x)
top-answer w n a x le d i g (inl e) inner deep = rw e
top-answer w n a x le d i g (inr (r, e, l, q)) inner deep =
    let k : w - r.len ≡ n = omega arith in
    let match : matches w r x ≡ true = rw (k, q) (eq-eqb _ _ (in→block n a x d i)) in
    rw (e, match) (under-longer (w - n) g (hit r.len r.hop) (lookup w inner x) (omega arith) deep)

-- So the run of a single address answers it by the route that stands there.
pub one_answer : {w a : ℕ} {t : List Route} → Run w 0 a t → (g : Answer) → under g (lookup w t a) ≡ or_else (own w 0 a t) g
one_answer {w} {a} {t} run g =
    ap (λ (u : List Route). under g (lookup w u a)) (run_one run.within ∙ sym (append-nil (part (is_at w 0 a) t)))
    ∙ top-answer w 0 a a run.fits run.aligned (omega arith) g (at_most_one w 0 a run.table) [] tt

-- And holds it by that route.
pub one_held : {w a : ℕ} {t : List Route} → Run w 0 a t → held w t a ≡ routed (own w 0 a t)
one_held {w} {a} {t} run = held-answer w a t ∙ ap routed (one_answer run none) ∙ routed_else (own w 0 a t) none ∙ or-false (routed (own w 0 a t))

-- Where b or q holds of each address, b holds or q holds throughout.
pub throughout-under : (p q : ℕ → Bool) (b : Bool) (n a : ℕ) → ((x : ℕ) → In n a x → p x ≡ (b || q x)) → throughout p n a ≡ (b || throughout q n a)
throughout-under p q true n a h = (throughout-each p n a).1 h
throughout-under p q false n a h = throughout-agree p q n a h

module _ {w n a : ℕ} {t : List Route} (run : Run w (suc n) a t) where
  -- The routes inside a half are its run.
  pub half_run : (b : ℕ) → Half n a b → Run w n b (inside w n b t)
  half_run b h = inside-run w n b (omega (arith, run.fits)) (half_aligned n a b run.aligned h) run.table

  -- An address of one half is matched in that half's run only.
  lookup_half : (b x : ℕ) → Half n a b → In n b x → lookup w (inside w n a t ++ inside w n (a + 2 ^ n) t) x ≡ lookup w (inside w n b t) x
  lookup_half b x (inl e) i =
      lookup-append-left w x (inside w n a t) (inside w n (a + 2 ^ n) t)
      (lookup_outside w n (a + 2 ^ n) x (half_run (a + 2 ^ n) (inr refl)).within (λ j. omega arith))
      ∙ ap (λ (c : ℕ). lookup w (inside w n c t) x) (sym e)
  lookup_half b x (inr e) i =
      lookup-append-right w x (inside w n a t) (inside w n (a + 2 ^ n) t)
      (lookup_outside w n a x (half_run a (inl refl)).within (λ j. omega arith))
      ∙ ap (λ (c : ℕ). lookup w (inside w n c t) x) (sym e)

  -- What a run answers under g: its half's run, under the position's own hop or else g.
  pub half_answer : (g : Answer) (b x : ℕ) → Half n a b → In n b x
      → under g (lookup w t x) ≡ under (or_else (own w (suc n) a t) g) (lookup w (inside w n b t) x)
  half_answer g b x h i =
      ap (λ (u : List Route). under g (lookup w u x)) (run_splits run)
      ∙ top-answer w (suc n) a x run.fits run.aligned (omega (arith, half_nested n a b h)) g (at_most_one w (suc n) a run.table) _
      (rw (lookup_half b x h i) (lookup-deep w (suc n) a x (all_part (is_in w n b) (λ r p e. p) run.within)))
      ∙ ap (under (or_else (own w (suc n) a t) g)) (lookup_half b x h i)

  -- The same of whether an address is held.
  pub half_held : (b x : ℕ) → Half n a b → In n b x → held w t x ≡ (routed (own w (suc n) a t) || held w (inside w n b t) x)
  half_held b x h i =
      held-answer w x t
      ∙ ap routed (half_answer none b x h i)
      ∙ routed-under (or_else (own w (suc n) a t) none) (lookup w (inside w n b t) x)
      ∙ ap₂ ◌||◌ (routed_else (own w (suc n) a t) none ∙ or-false (routed (own w (suc n) a t))) (sym (held-answer w x (inside w n b t)))

  -- A position is covered by its own route, or else half by half.
  pub run-covered : throughout (held w t) (suc n) a
      ≡ (routed (own w (suc n) a t)
      || (throughout (held w (inside w n a t)) n a && throughout (held w (inside w n (a + 2 ^ n) t)) n (a + 2 ^ n)))
  unfolding throughout
  run-covered = ap₂ ◌&&◌ (half a (inl refl)) (half (a + 2 ^ n) (inr refl)) ∙ sym (or-and_distrib_left (routed (own w (suc n) a t)) _ _)
    where
      half : (b : ℕ) → Half n a b → throughout (held w t) n b ≡ (routed (own w (suc n) a t) || throughout (held w (inside w n b t)) n b)
      half b h = throughout-under (held w t) (held w (inside w n b t)) (routed (own w (suc n) a t)) n b (λ x i. half_held b x h i)

-- The same steps inside a position of any table, its size N one more than n.
module _ (w n a : ℕ) {N : ℕ} (e : N ≡ suc n) {t : List Route} (le : N ≤ w) (d : Aligned N a) (table : Table w t) where
  whole_run : Run w (suc n) a (inside w (suc n) a t)
  whole_run = inside-run w (suc n) a (rw e at le) (rw e at d) table

  -- The route at the position, then the routes inside its left half, then those inside its right half.
  pub inside_splits : inside w N a t ≡ part (is_at w N a) t ++ (inside w n a t ++ inside w n (a + 2 ^ n) t)
  inside_splits =
      rw e (run_splits whole_run
      ∙ ap₂ ◌++◌ (at_nested w (nested_self (suc n) a) t) (ap₂ ◌++◌ (inside_nested w (half_nested n a a (inl refl)) t)
      (inside_nested w (half_nested n a (a + 2 ^ n) (inr refl)) t)))

  -- An address of a half is answered by the routes inside the half, or else by the route at the position.
  pub inside-answer : (g : Answer) (b x : ℕ) → Half n a b → In n b x
      → under g (lookup w (inside w N a t) x) ≡ under (or_else (own w N a t) g) (lookup w (inside w n b t) x)
  inside-answer g b x h i =
      rw e (half_answer whole_run g b x h i
      ∙ ap₂ (λ (v : Answer) (u : List Route). under (or_else v g) (lookup w u x)) (own_nested w (nested_self (suc n) a) t)
      (inside_nested w (half_nested n a b h) t))

  -- A position is covered from inside by the route at it, or else half by half; the halves stand at b and c.
  pub inside-covered : (b c : ℕ) → b ≡ a → c ≡ a + 2 ^ n
      → throughout (held w (inside w N a t)) N a
      ≡ (routed (own w N a t) || (throughout (held w (inside w n b t)) n b && throughout (held w (inside w n c t)) n c))
  inside-covered b c p q =
      rw (e, p, q) (run-covered whole_run
      ∙ ap₂ ◌||◌ (ap routed (own_nested w (nested_self (suc n) a) t)) (ap₂ ◌&&◌ (half a (inl refl)) (half (a + 2 ^ n) (inr refl))))
    where
      half : (b : ℕ) → Half n a b → throughout (held w (inside w n b (inside w (suc n) a t))) n b ≡ throughout (held w (inside w n b t)) n b
      half b h = ap (λ (u : List Route). throughout (held w u) n b) (inside_nested w (half_nested n a b h) t)

-- The routes inside a position are those that a walk down meets, one position after another.
pub inside-walk : {S : Type 0} (next : ℕ → ℕ → S → S) (w n a : ℕ) {t : List Route} → n ≤ w → Aligned n a → Table w t → (s : S)
    → inside w n a t ≡ walk (λ k b s. part (is_at w k b) t) next n a s
unfolding walk
inside-walk next w zero a {t} le d table s =
    run_one (inside-within w 0 a le d table.valid) ∙ at_nested w (nested_self 0 a) t
inside-walk next w (suc n) a {t} le d table s =
    inside_splits w n a refl le d table
    ∙ ap (λ (u : List Route). part (is_at w (suc n) a) t ++ u) (ap₂ ◌++◌ (inside-walk next w n a (omega arith) (aligned-left n a d) table (next (suc n) a s))
    (inside-walk next w n (a + 2 ^ n) (omega arith) (aligned-right n a d) table (next (suc n) a s)))
