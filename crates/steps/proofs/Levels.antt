-- The lists that the planner goes through: their order and their entries.
use Prim.Native.Nat.{ℕ, zero, suc, ◌≤◌, ◌<◌}
use mathlib.Core.Path.{◌≡◌, refl, sym, ap, ap₂, ◌∙◌}
use mathlib.Core.Bool.{Bool, true, false, cond, not}
use mathlib.Core.List.{List, ◌∷◌}
use mathlib.Core.Logic.{◌⊎◌, inl, inr}
use native.Mathlib.Decide.{dec_lt}
use native.Mathlib.Nat.{eq-or-lt_of_le}
use native.Mathlib.Omega.{arith}
use lib.Dec.{eqb}
use borrow.Author.Tests.{eqb-true, eq-eqb, ne_eqb}
use Rattle.theory.specs.Routes.{Route, Answer, none, via, All, nil, cons, Before, Ascending, empty, first, Table}
use Rattle.theory.proofs.Lists.{all_append, all_map}
use Rattle.theory.proofs.Parts.{all_part, ascending_part, part-agree}
use Rattle.positions.specs.Runs.{or_else}
use Rattle.steps.specs.Steps.{entry, present}
use Rattle.steps.specs.Views.{same_answer}
use Rattle.steps.specs.Planned.{changes, gone, level, falling, rising}
use Rattle.steps.proofs.Entries.{entry-part, entry-append, entry_none, ascending_distinct, member-entry}
use Rattle.steps.proofs.Phase.{Way, down, up, Sooner, Ordered, over, next, ordered_append}

or_else_none : (v : Answer) → or_else v none ≡ v
or_else_none none = refl
or_else_none (via h) = refl

-- ---- One length.

level_all : {P : Route → Type 0} {t : List Route} (k : ℕ) → All P t → All P (level k t)
level_all k p = all_part (λ r. eqb r.len k) (λ r q e. q) p

level-len : (k : ℕ) {t : List Route} → Ascending t → All (λ r. r.len ≡ k) (level k t)
level-len k empty = nil
level-len k (first {r = r} {t = t} b o) = go (eqb r.len k) refl (level-len k o)
  where
    go : (c : Bool) → eqb r.len k ≡ c → All (λ r. r.len ≡ k) (level k t) → All (λ r. r.len ≡ k) (cond c (r ∷ level k t) (level k t))
    go true e ih = cons (eqb-true r.len k e) ih
    go false e ih = ih

one_length : {way : Way} {k : ℕ} {t : List Route} → Ascending t → All (λ r. r.len ≡ k) t → Ordered way t
one_length empty nil = over
one_length {way} {k} (first {r = r} b o) (cons e es) = next (go b es) (one_length o es)
  where
    go : {t : List Route} → All (Before r) t → All (λ r. r.len ≡ k) t → All (Sooner way r) t
    go nil nil = nil
    go (cons {r = s} (inl lt) ps) (cons q qs) = cons (inr (e ∙ sym q, lt)) (go ps qs)
    go (cons {r = s} (inr z) ps) (cons q qs) = absurd (omega arith)

level_ordered : {way : Way} (k : ℕ) {t : List Route} → Ascending t → Ordered way (level k t)
level_ordered k o = one_length (ascending_part (λ r. eqb r.len k) o) (level-len k o)

-- ---- All lengths, falling or rising.

pub falling_all : {P : Route → Type 0} {t : List Route} (k : ℕ) → All P t → All P (falling k t)
unfolding falling
falling_all zero p = level_all zero p
falling_all (suc k) p = all_append (level_all (suc k) p) (falling_all k p)

module _ {t : List Route} (o : Ascending t) where
  upto : (k n : ℕ) → k ≤ n → All (λ r. r.len ≤ n) (level k t)
  upto k n le = all_map (λ r e. omega arith) (level-len k o)

  falling-len : (k n : ℕ) → k ≤ n → All (λ r. r.len ≤ n) (falling k t)
  unfolding falling
  falling-len zero n le = upto zero n le
  falling-len (suc k) n le = all_append (upto (suc k) n le) (falling-len k n (omega arith))

  rising-len : (k n : ℕ) → k ≤ n → All (λ r. r.len ≤ n) (rising k t)
  unfolding rising
  rising-len zero n le = upto zero n le
  rising-len (suc k) n le = all_append (rising-len k n (omega arith)) (upto (suc k) n le)

  pub falling_ordered : (k : ℕ) → Ordered down (falling k t)
  unfolding falling
  falling_ordered zero = level_ordered zero o
  falling_ordered (suc k) =
      ordered_append (level_ordered (suc k) o) (falling_ordered k)
      (all_map (λ r e. all_map (λ s le. inl (omega arith)) (falling-len k k (omega arith))) (level-len (suc k) o))

  pub rising_ordered : (k : ℕ) → Ordered up (rising k t)
  unfolding rising
  rising_ordered zero = level_ordered zero o
  rising_ordered (suc k) =
      ordered_append (rising_ordered k) (level_ordered (suc k) o)
      (all_map (λ r le. all_map (λ s e. inl (omega arith)) (level-len (suc k) o)) (rising-len k k (omega arith)))

  -- ---- Entries.

  level-entry : (k a l : ℕ) → (l ≡ k → entry (level k t) a l ≡ entry t a l) × ((l ≡ k → ⊥) → entry (level k t) a l ≡ none)
  level-entry k a l = (
    λ e. entry-part (λ b m. eqb m k) t a l ∙ ap (λ (c : Bool). cond c (entry t a l) none) (eq-eqb l k e),
    λ n. entry-part (λ b m. eqb m k) t a l ∙ ap (λ (c : Bool). cond c (entry t a l) none) (ne_eqb l k n),
  )

  pub beyond : {q : List Route} (k a l : ℕ) → All (λ r. r.len ≤ k) q → k < l → entry q a l ≡ none
  beyond k a l p lt = entry_none a l (all_map (λ r le e f. omega arith) p)

  falling_upto : (k a l : ℕ) → l ≤ k → entry (falling k t) a l ≡ entry t a l
  unfolding falling
  falling_upto zero a l le = (level-entry zero a l).0 (omega arith)
  falling_upto (suc k) a l le = entry-append (level (suc k) t) (falling k t) a l ∙ go (eq-or-lt_of_le le) (falling_upto k a l)
    where
      go : (l ≡ suc k) ⊎ (l < suc k) → (l ≤ k → entry (falling k t) a l ≡ entry t a l)
          → or_else (entry (level (suc k) t) a l) (entry (falling k t) a l) ≡ entry t a l
      go (inl e) ih =
          ap₂ or_else ((level-entry (suc k) a l).0 e) (beyond k a l (falling-len k k (omega arith)) (omega arith)) ∙ or_else_none (entry t a l)
      go (inr lt) ih = ap₂ or_else ((level-entry (suc k) a l).1 (λ e. omega arith)) (ih (omega arith))

  rising_upto : (k a l : ℕ) → l ≤ k → entry (rising k t) a l ≡ entry t a l
  unfolding rising
  rising_upto zero a l le = (level-entry zero a l).0 (omega arith)
  rising_upto (suc k) a l le = entry-append (rising k t) (level (suc k) t) a l ∙ go (eq-or-lt_of_le le) (rising_upto k a l)
    where
      go : (l ≡ suc k) ⊎ (l < suc k) → (l ≤ k → entry (rising k t) a l ≡ entry t a l)
          → or_else (entry (rising k t) a l) (entry (level (suc k) t) a l) ≡ entry t a l
      go (inl e) ih = ap₂ or_else (beyond k a l (rising-len k k (omega arith)) (omega arith)) ((level-entry (suc k) a l).0 e)
      go (inr lt) ih = ap₂ or_else (ih (omega arith)) ((level-entry (suc k) a l).1 (λ e. omega arith)) ∙ or_else_none (entry t a l)

-- A table has the same entries by falling and by rising length.
module _ {w : ℕ} {t : List Route} (table : Table w t) (a l : ℕ) where
  pub falling-entry : entry (falling w t) a l ≡ entry t a l
  falling-entry = go (dec_lt w l)
    where
      go : Dec (w < l) → entry (falling w t) a l ≡ entry t a l
      go (yes lt) =
          beyond table.order w a l (falling-len table.order w w (omega arith)) lt
          ∙ sym (beyond table.order w a l (all_map (λ r v. v.short) table.valid) lt)
      go (no ge) = falling_upto table.order w a l (omega arith)

  pub rising-entry : entry (rising w t) a l ≡ entry t a l
  rising-entry = go (dec_lt w l)
    where
      go : Dec (w < l) → entry (rising w t) a l ≡ entry t a l
      go (yes lt) =
          beyond table.order w a l (rising-len table.order w w (omega arith)) lt
          ∙ sym (beyond table.order w a l (all_map (λ r v. v.short) table.valid) lt)
      go (no ge) = rising_upto table.order w a l (omega arith)

-- What new changes, by prefix alone; and what it lacks.
pub changes-entry : (old : List Route) {new : List Route} → Ascending new → (a l : ℕ)
    → entry (changes old new) a l ≡ cond (not (same_answer (entry old a l) (entry new a l))) (entry new a l) none
changes-entry old {new} o a l =
    ap (λ (u : List Route). entry u a l) (part-agree _ (λ r. not (same_answer (entry old r.addr r.len) (entry new r.addr r.len))) new
    (λ r m. ap (λ (v : Answer). not (same_answer (entry old r.addr r.len) v)) (sym (member-entry (ascending_distinct o) m))))
    ∙ entry-part (λ b m. not (same_answer (entry old b m) (entry new b m))) new a l

pub gone-entry : (old new : List Route) (a l : ℕ) → entry (gone old new) a l ≡ cond (not (present new a l)) (entry old a l) none
gone-entry old new a l = entry-part (λ b m. not (present new b m)) old a l
