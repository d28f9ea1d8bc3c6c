-- The entries of a table: what they are in a part and after a step, and that they settle the table and its length.
use Prim.Native.Nat.{ℕ, suc, ◌≤◌, ◌<◌}
use mathlib.Core.Path.{◌≡◌, refl, sym, ap, ap₂, ◌∙◌}
use mathlib.Core.Bool.{Bool, true, false, cond, not, ◌&&◌, true≢false, false≢true}
use mathlib.Core.List.{List, [], ◌∷◌, ◌++◌}
use mathlib.Core.Logic.{◌⊎◌, inl, inr}
use native.Mathlib.Decide.{dec_lt}
use native.Mathlib.Omega.{arith}
use lib.Dec.{eqb}
use lib.ListN.{length}
use borrow.Author.Tests.{eqb-true, eq-eqb}
use Rattle.theory.specs.Results.{part}
use Rattle.theory.specs.Routes.{Route, Answer, none, via, All, nil, cons, Before, Ascending, empty, first, Member, head, later}
use Rattle.theory.specs.Shapes.{routed}
use Rattle.theory.proofs.Lists.{all_map}
use Rattle.theory.proofs.Parts.{length_parts}
use Rattle.positions.specs.Runs.{or_else}
use Rattle.steps.specs.Steps.{Step, putting, taking, same, entry, present, precedes, put, without, apply}
use Rattle.steps.specs.Views.{stepped, same_answer}

pub none_via : {h : ℕ} → none ≡ via h → ⊥
none_via e = let z : ◌≡◌ {A = ℕ} 0 1 = cc in absurd (omega arith)

-- ---- Answers and prefixes.

pub answer_true : (u v : Answer) → same_answer u v ≡ true → u ≡ v
answer_true none none e = refl
answer_true none (via i) e = absurd (false≢true e)
answer_true (via h) none e = absurd (false≢true e)
answer_true (via h) (via i) e = ap via (eqb-true h i e)

pub true_answer : (u v : Answer) → u ≡ v → same_answer u v ≡ true
true_answer none none e = refl
true_answer none (via i) e = absurd (none_via e)
true_answer (via h) none e = absurd (none_via (sym e))
true_answer (via h) (via i) e = eq-eqb h i (cc)

pub and-true : (b c : Bool) → (b && c) ≡ true → (b ≡ true) × (c ≡ true)
and-true true c e = (refl, e)
and-true false c e = absurd (false≢true e)

pub same_true : (a l b m : ℕ) → same a l b m ≡ true → (a ≡ b) × (l ≡ m)
same_true a l b m e = let z = and-true (eqb a b) (eqb l m) e in (eqb-true a b z.0, eqb-true l m z.1)

pub true_same : (a l b m : ℕ) → a ≡ b → l ≡ m → same a l b m ≡ true
true_same a l b m e q = rw (eq-eqb a b e, eq-eqb l m q)

pub same_false : (a l b m : ℕ) → ((a ≡ b) → (l ≡ m) → ⊥) → same a l b m ≡ false
same_false a l b m k = go (same a l b m) refl
  where
    go : (c : Bool) → same a l b m ≡ c → c ≡ false
    go true e = let z = same_true a l b m e in absurd (k z.0 z.1)
    go false e = refl

pub same_sym : (a l b m : ℕ) → same a l b m ≡ same b m a l
same_sym a l b m = go (same a l b m) refl
  where
    go : (c : Bool) → same a l b m ≡ c → c ≡ same b m a l
    go true e = let z = same_true a l b m e in sym (true_same b m a l (sym z.0) (sym z.1))
    go false e = sym (same_false b m a l (λ p q. true≢false (sym (true_same a l b m (sym p) (sym q)) ∙ e)))

-- ---- What a step makes of an entry.

pub entry-put : (r : Route) (t : List Route) (a l : ℕ) → entry (put r t) a l ≡ cond (same r.addr r.len a l) (via r.hop) (entry t a l)
entry-put r [] a l = refl
entry-put r (s ∷ t) a l = go (precedes r s) (same r.addr r.len s.addr s.len) refl (entry-put r t a l)
  where
    mine : Bool
    mine = same r.addr r.len a l

    other : Bool
    other = same s.addr s.len a l

    once : (c : Bool) (u v e : Answer) → cond c u e ≡ cond c u (cond c v e)
    once true u v e = refl
    once false u v e = refl

    apart : (c d : Bool) → mine ≡ c → other ≡ d → same r.addr r.len s.addr s.len ≡ false
        → cond d (via s.hop) (cond c (via r.hop) (entry t a l)) ≡ cond c (via r.hop) (cond d (via s.hop) (entry t a l))
    apart true false e f q = refl
    apart false d e f q = refl
    apart true true e f q =
        let z = same_true r.addr r.len a l e in
        let y = same_true s.addr s.len a l f in
        absurd (true≢false (sym (true_same r.addr r.len s.addr s.len (z.0 ∙ sym y.0) (z.1 ∙ sym y.1)) ∙ q))

    go : (p q : Bool) → same r.addr r.len s.addr s.len ≡ q
        → entry (put r t) a l ≡ cond mine (via r.hop) (entry t a l)
        → entry (cond p (r ∷ s ∷ t) (cond q (r ∷ t) (s ∷ put r t))) a l ≡ cond mine (via r.hop) (cond other (via s.hop) (entry t a l))
    go true q e ih = refl
    go false true e ih =
        let z = same_true r.addr r.len s.addr s.len e in
        rw (z.0, z.1) (once other (via r.hop) (via s.hop) (entry t a l))
    go false false e ih = ap (λ (v : Answer). cond other (via s.hop) v) ih ∙ apart mine other refl refl e

-- The entries of the routes that pass a test of the prefix.
pub entry-part : (p : ℕ → ℕ → Bool) (t : List Route) (a l : ℕ) → entry (part (λ r. p r.addr r.len) t) a l ≡ cond (p a l) (entry t a l) none
entry-part p [] a l = go (p a l)
  where
    go : (b : Bool) → none ≡ cond b none none
    go true = refl
    go false = refl
entry-part p (r ∷ t) a l = go (same r.addr r.len a l) refl (entry-part p t a l)
  where
    kept : List Route
    kept = part (λ s. p s.addr s.len) t

    own : (b : Bool) → same r.addr r.len a l ≡ true → entry kept a l ≡ cond b (entry t a l) none
        → entry (cond b (r ∷ kept) kept) a l ≡ cond b (via r.hop) none
    own true e ih = rw e
    own false e ih = ih

    other : (b : Bool) → same r.addr r.len a l ≡ false → entry (cond b (r ∷ kept) kept) a l ≡ entry kept a l
    other true e = rw e
    other false e = refl

    go : (c : Bool) → same r.addr r.len a l ≡ c → entry kept a l ≡ cond (p a l) (entry t a l) none
        → entry (cond (p r.addr r.len) (r ∷ kept) kept) a l ≡ cond (p a l) (cond c (via r.hop) (entry t a l)) none
    go true e ih =
        let z = same_true r.addr r.len a l e in
        rw (ap₂ p z.0 z.1) (own (p a l) e ih)
    go false e ih = other (p r.addr r.len) e ∙ ih

entry-without : (b m : ℕ) (t : List Route) (a l : ℕ) → entry (without b m t) a l ≡ cond (same b m a l) none (entry t a l)
entry-without b m t a l = entry-part (λ c n. not (same c n b m)) t a l ∙ rw (same_sym a l b m) (go (same b m a l))
  where
    go : (c : Bool) → cond (not c) (entry t a l) none ≡ cond c none (entry t a l)
    go true = refl
    go false = refl

-- The law of both steps.
pub entry_step : (s : Step) (t : List Route) (a l : ℕ) → entry (apply s t) a l ≡ stepped s a l (entry t a l)
entry_step (putting r) t a l = entry-put r t a l
entry_step (taking b m) t a l = entry-without b m t a l

pub entry-append : (s t : List Route) (a l : ℕ) → entry (s ++ t) a l ≡ or_else (entry s a l) (entry t a l)
entry-append [] t a l = refl
entry-append (r ∷ s) t a l = go (same r.addr r.len a l) (entry-append s t a l)
  where
    go : (c : Bool) → entry (s ++ t) a l ≡ or_else (entry s a l) (entry t a l)
        → cond c (via r.hop) (entry (s ++ t) a l) ≡ or_else (cond c (via r.hop) (entry s a l)) (entry t a l)
    go true ih = refl
    go false ih = ih

-- A route that is read after others, with a prefix that they lack, is put.
pub entry_last : (s : List Route) (r : Route) (a l : ℕ) → entry s r.addr r.len ≡ none
    → entry (s ++ (r ∷ [])) a l ≡ stepped (putting r) a l (entry s a l)
entry_last s r a l e = entry-append s (r ∷ []) a l ∙ go (same r.addr r.len a l) refl (entry s a l) refl
  where
    go : (c : Bool) → same r.addr r.len a l ≡ c → (v : Answer) → entry s a l ≡ v
        → or_else v (cond c (via r.hop) none) ≡ cond c (via r.hop) v
    go true p none q = refl
    go false p none q = refl
    go false p (via h) q = refl
    go true p (via h) q = let z = same_true r.addr r.len a l p in absurd (none_via (sym e ∙ ap₂ (entry s) z.0 z.1 ∙ q))

-- ---- Entries and members.

-- No prefix twice.
abbrev pub Distinct : List Route → Type 0
Distinct [] = Unit {0}
Distinct (r ∷ t) = (entry t r.addr r.len ≡ none) × Distinct t

pub distinct_append : (t : List Route) {s : List Route} → Distinct s → Distinct t → All (λ r. entry t r.addr r.len ≡ none) s → Distinct (s ++ t)
distinct_append t d e nil = e
distinct_append t d e (cons {r = r} {t = s} k ks) =
    (entry-append s t r.addr r.len ∙ ap₂ or_else d.0 k, distinct_append t d.1 e ks)

-- A prefix that no route has.
pub entry_none : (a l : ℕ) {t : List Route} → All (λ s. (s.addr ≡ a) → (s.len ≡ l) → ⊥) t → entry t a l ≡ none
entry_none a l nil = refl
entry_none a l (cons {r = s} k ks) = rw (same_false s.addr s.len a l k) (entry_none a l ks)

before-apart : (r s : Route) → Before r s → (s.addr ≡ r.addr) → (s.len ≡ r.len) → ⊥
before-apart r s (inl lt) e q = omega arith
before-apart r s (inr p) e q = omega arith

pub before_none : {t : List Route} (r : Route) → All (Before r) t → entry t r.addr r.len ≡ none
before_none r b = entry_none r.addr r.len (all_map (before-apart r) b)

pub ascending_distinct : {t : List Route} → Ascending t → Distinct t
ascending_distinct empty = tt
ascending_distinct (first {r = r} b o) = (before_none r b, ascending_distinct o)

pub member-entry : {r : Route} {t : List Route} → Distinct t → Member r t → entry t r.addr r.len ≡ via r.hop
member-entry {r} d head = rw (true_same r.addr r.len r.addr r.len refl refl)
member-entry {r} d (later {s = s} {t = t} m) =
    let ih = member-entry d.1 m in
    rw (same_false s.addr s.len r.addr r.len (λ e q. none_via (sym d.0 ∙ ap₂ (entry t) e q ∙ ih))) ih

pub entry-member : (t : List Route) (a l : ℕ) {h : ℕ} → entry t a l ≡ via h
    → (r : Route) × Member r t × (r.addr ≡ a) × (r.len ≡ l) × (r.hop ≡ h)
entry-member [] a l e = absurd (none_via e)
entry-member (r ∷ t) a l {h} e = go (same r.addr r.len a l) refl e (λ q. entry-member t a l q)
  where
    go : (c : Bool) → same r.addr r.len a l ≡ c → cond c (via r.hop) (entry t a l) ≡ via h
        → (entry t a l ≡ via h → (s : Route) × Member s t × (s.addr ≡ a) × (s.len ≡ l) × (s.hop ≡ h))
        → (s : Route) × Member s (r ∷ t) × (s.addr ≡ a) × (s.len ≡ l) × (s.hop ≡ h)
    go true q p k = let z = same_true r.addr r.len a l q in (r, head, z.0, z.1, cc)
    go false q p k = let z = k p in (z.0, later z.1, z.2, z.3, z.4)

-- ---- Entries settle a table and its length.

-- A present prefix taken away leaves fewer.
pub without_less : (t : List Route) (a l : ℕ) → present t a l ≡ true → length (without a l t) < length t
without_less [] a l e = absurd (false≢true e)
without_less (r ∷ t) a l e = go (same r.addr r.len a l) e (without_less t a l)
  where
    go : (c : Bool) → routed (cond c (via r.hop) (entry t a l)) ≡ true → (present t a l ≡ true → length (without a l t) < length t)
        → length (cond (not c) (r ∷ without a l t) (without a l t)) < suc (length t)
    go true q k = omega (arith, length_parts (λ r. not (same r.addr r.len a l)) t)
    go false q k = let z = k q in omega arith

-- Distinct prefixes that are all present in t are no more than its routes.
pub fits : (s t : List Route) → Distinct s → ((a l : ℕ) → present s a l ≡ true → present t a l ≡ true) → length s ≤ length t
fits [] t d k = omega arith
fits (r ∷ s) t d k =
    let own : present t r.addr r.len ≡ true = k r.addr r.len (rw (true_same r.addr r.len r.addr r.len refl refl)) in
    let ih = fits s (without r.addr r.len t) d.1 (λ a l e. rest a l e) in
    omega (arith, without_less t r.addr r.len own)
  where
    rest : (a l : ℕ) → present s a l ≡ true → present (without r.addr r.len t) a l ≡ true
    rest a l e =
        let other : (r.addr ≡ a) → (r.len ≡ l) → ⊥ = λ p q. true≢false (sym e ∙ ap routed (sym (ap₂ (entry s) p q) ∙ d.0)) in
        let here : present (r ∷ s) a l ≡ true = rw (same_false r.addr r.len a l other) e in
        rw (entry-without r.addr r.len t a l, same_false r.addr r.len a l other) (k a l here)

-- Two routes are one by their prefix or one stands before the other.
pub order : (r s : Route) → Before r s ⊎ (Before s r ⊎ ((r.addr ≡ s.addr) × (r.len ≡ s.len)))
order r s = go (dec_lt r.addr s.addr) (dec_lt s.addr r.addr) (dec_lt r.len s.len) (dec_lt s.len r.len)
  where
    go : Dec (r.addr < s.addr) → Dec (s.addr < r.addr) → Dec (r.len < s.len) → Dec (s.len < r.len)
        → Before r s ⊎ (Before s r ⊎ ((r.addr ≡ s.addr) × (r.len ≡ s.len)))
    go (yes p) b c d = inl (inl p)
    go (no p) (yes q) c d = inr (inl (inl q))
    go (no p) (no q) (yes c) d = inl (inr (omega arith, c))
    go (no p) (no q) (no c) (yes d) = inr (inl (inr (omega arith, d)))
    go (no p) (no q) (no c) (no d) = inr (inr (omega arith))

pub before_trans : (r s u : Route) → Before r s → Before s u → Before r u
before_trans r s u (inl p) (inl q) = inl (omega arith)
before_trans r s u (inl p) (inr q) = inl (omega arith)
before_trans r s u (inr p) (inl q) = inl (omega arith)
before_trans r s u (inr p) (inr q) = inr (omega arith)

-- What stands before the first route of a table is none of its prefixes.
absent : (r s : Route) {t : List Route} → Before r s → All (Before s) t → entry (s ∷ t) r.addr r.len ≡ none
absent r s lt b = before_none r (cons lt (all_map (λ u q. before_trans r s u lt q) b))

own-entry : (r : Route) (t : List Route) → entry (r ∷ t) r.addr r.len ≡ via r.hop
own-entry r t = rw (true_same r.addr r.len r.addr r.len refl refl)

-- Two tables with the same entries are one.
pub same_entries : {s t : List Route} → Ascending s → Ascending t → ((a l : ℕ) → entry s a l ≡ entry t a l) → s ≡ t
same_entries empty empty k = refl
same_entries empty (first {r = r} {t = t} b o) k = absurd (none_via (k r.addr r.len ∙ own-entry r t))
same_entries (first {r = r} {t = t} b o) empty k = absurd (none_via (sym (k r.addr r.len) ∙ own-entry r t))
same_entries (first {r = r} {t = s} b o) (first {r = q} {t = t} c p) k = go (order r q) (λ h. same_entries o p h)
  where
    tails : (r.addr ≡ q.addr) → (r.len ≡ q.len) → (a l : ℕ) → entry s a l ≡ entry t a l
    tails e f a l = pick (same r.addr r.len a l) refl
      where
        pick : (d : Bool) → same r.addr r.len a l ≡ d → entry s a l ≡ entry t a l
        pick true g =
            let z = same_true r.addr r.len a l g in
            ap₂ (entry s) (sym z.0) (sym z.1) ∙ before_none r b ∙ sym (before_none q c) ∙ ap₂ (entry t) (sym e ∙ z.0) (sym f ∙ z.1)
        pick false g =
            let h : same q.addr q.len a l ≡ false = rw (e, f) at g in
            let v : entry (r ∷ s) a l ≡ entry s a l = rw g in
            let u : entry (q ∷ t) a l ≡ entry t a l = rw h in
            sym v ∙ k a l ∙ u

    go : Before r q ⊎ (Before q r ⊎ ((r.addr ≡ q.addr) × (r.len ≡ q.len))) → (((a l : ℕ) → entry s a l ≡ entry t a l) → s ≡ t)
        → r ∷ s ≡ q ∷ t
    go (inl lt) ih = absurd (none_via (sym (absent r q lt c) ∙ sym (k r.addr r.len) ∙ own-entry r s))
    go (inr (inl lt)) ih = absurd (none_via (sym (absent q r lt b) ∙ k q.addr q.len ∙ own-entry q t))
    go (inr (inr e)) ih =
        let hops : via r.hop ≡ via q.hop = sym (own-entry r s) ∙ k r.addr r.len ∙ ap₂ (entry (q ∷ t)) e.0 e.1 ∙ own-entry q t in
        let z : r.hop ≡ q.hop = cc in
        let same_route : r ≡ q = λ i. record { addr = e.0 i; len = e.1 i; hop = z i } in
        ap₂ (λ (x : Route) (u : List Route). x ∷ u) same_route (ih (tails e.0 e.1))
