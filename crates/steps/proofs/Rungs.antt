-- A table answers an address by the longest of the prefixes that hold it and are present.
use Prim.Native.Nat.{ℕ, zero, suc, ◌-◌, ◌*◌, ◌/◌, ◌^◌, ◌≤◌, ◌<◌}
use mathlib.Core.Path.{◌≡◌, refl, sym, ap, ap₂, ◌∙◌}
use mathlib.Core.Bool.{Bool, true, false, true≢false}
use mathlib.Core.List.{List}
use mathlib.Core.Logic.{◌⊎◌, inl, inr}
use native.Mathlib.Nat.{eq-or-lt_of_le}
use native.Mathlib.Omega.{arith}
use borrow.Author.Tests.{eqb-true, eq-eqb}
use Rattle.theory.specs.Results.{start_of}
use Rattle.theory.specs.Routes.{Route, matches, Match, miss, hit, lookup, Answer, none, via, under, answer, Valid, Table, Member}
use Rattle.theory.proofs.Blocks.{pow_pos, aligned-start, in_start, start_is, in→block}
use Rattle.theory.proofs.Lists.{all_member}
use Rattle.theory.proofs.LongestMatch.{lookup-found, lookup_none}
use Rattle.positions.specs.Runs.{or_else}
use Rattle.steps.specs.Steps.{same, entry}
use Rattle.steps.specs.Views.{rung, best}
use Rattle.steps.proofs.Entries.{true_same, same_false, ascending_distinct, member-entry, entry-member}

-- ---- The best of the answers at each length.

pub best_none : (f : ℕ → Answer) (n : ℕ) → ((l : ℕ) → l ≤ n → f l ≡ none) → best f n ≡ none
best_none f zero k = k zero (omega arith)
best_none f (suc n) k = ap₂ or_else (k (suc n) (omega arith)) (best_none f n (λ l le. k l (omega arith)))

pub best_is : (f : ℕ → Answer) (n k : ℕ) {h : ℕ} → k ≤ n → f k ≡ via h → ((l : ℕ) → k < l → l ≤ n → f l ≡ none) → best f n ≡ via h
best_is f zero k le e above = let z : k ≡ zero = omega arith in ap f (sym z) ∙ e
best_is f (suc n) k {h} le e above = go (eq-or-lt_of_le le) (λ j. best_is f n k j e (λ l lt j. above l lt (omega arith)))
  where
    go : (k ≡ suc n) ⊎ (k < suc n) → (k ≤ n → best f n ≡ via h) → best f (suc n) ≡ via h
    go (inl z) ih = ap (λ (v : Answer). or_else v (best f n)) (ap f (sym z) ∙ e)
    go (inr lt) ih = ap₂ or_else (above (suc n) lt (omega arith)) (ih (omega arith))

pub best_alike : (f g : ℕ → Answer) (n : ℕ) → ((l : ℕ) → l ≤ n → f l ≡ g l) → best f n ≡ best g n
best_alike f g zero k = k zero (omega arith)
best_alike f g (suc n) k = ap₂ or_else (k (suc n) (omega arith)) (best_alike f g n (λ l le. k l (omega arith)))

-- ---- The rungs of an address.

module _ (w : ℕ) where
  -- A valid route matches the addresses whose prefix of its length starts where it does.
  pub match_start : (r : Route) (x : ℕ) → Valid w r → matches w r x ≡ true → start_of (w - r.len) x ≡ r.addr
  match_start r x v e =
      ap (λ (q : ℕ). q * 2 ^ (w - r.len)) (eqb-true _ _ e)
      ∙ start_is (w - r.len) r.addr r.addr v.clean (omega (arith, pow_pos (w - r.len)))

  pub start_match : (r : Route) (x : ℕ) → r.addr ≡ start_of (w - r.len) x → matches w r x ≡ true
  start_match r x e =
      eq-eqb _ _ (in→block (w - r.len) (start_of (w - r.len) x) x (aligned-start (w - r.len) x) (in_start (w - r.len) x)
      ∙ ap (λ (a : ℕ). a / 2 ^ (w - r.len)) (sym e))

  module _ {t : List Route} (table : Table w t) (x : ℕ) where
    pub rung-member : (r : Route) → Member r t → matches w r x ≡ true → rung w t x r.len ≡ via r.hop
    rung-member r m e =
        ap (λ (a : ℕ). entry t a r.len) (match_start r x (all_member table.valid m) e)
        ∙ member-entry (ascending_distinct table.order) m

    pub rung-route : (l : ℕ) {h : ℕ} → rung w t x l ≡ via h → (r : Route) × Member r t × (matches w r x ≡ true) × (r.len ≡ l) × (r.hop ≡ h)
    rung-route l e =
        let z = entry-member t (start_of (w - l) x) l e in
        let at : z.0.addr ≡ start_of (w - z.0.len) x = rw z.3 z.2 in
        (z.0, z.1, start_match z.0 x at, z.3, z.4)

    -- The answer is that of the longest rung.
    pub answer-best : answer w t x ≡ best (rung w t x) w
    answer-best = go (lookup w t x) refl
      where
        bare : (l : ℕ) → ((r : Route) → Member r t → matches w r x ≡ true → r.len ≡ l → ⊥) → rung w t x l ≡ none
        bare l k = pick (rung w t x l) refl
          where
            pick : (v : Answer) → rung w t x l ≡ v → v ≡ none
            pick none e = refl
            pick (via h) e = let z = rung-route l e in absurd (k z.0 z.1 z.2 z.3)

        go : (m : Match) → lookup w t x ≡ m → under none m ≡ best (rung w t x) w
        go miss e = sym (best_none (rung w t x) w (λ l le. bare l (λ r m q p. (lookup_none w t x).0 e r m q)))
        go (hit k h) e =
            let z = lookup-found w t x e in
            let i = z.1 in
            let v = all_member table.valid i.member in
            let here : rung w t x k ≡ via h = ap (rung w t x) (sym z.2) ∙ rung-member z.0 i.member i.matching ∙ ap via z.3 in
            sym (best_is (rung w t x) w k (omega (arith, z.2, v.short)) here
            (λ l lt le. bare l (λ r m q p. let y = i.longest r m q in omega (arith, z.2))))

  -- ---- One step at one address: only the rung of its own length may change, and that where its prefix holds x.

  pub rung_other : (a l k x : ℕ) → (l ≡ k → ⊥) → same a l (start_of (w - k) x) k ≡ false
  rung_other a l k x n = same_false a l (start_of (w - k) x) k (λ e q. n q)

  pub rung-own : (r : Route) (x : ℕ) → Valid w r → same r.addr r.len (start_of (w - r.len) x) r.len ≡ matches w r x
  rung-own r x v = go (matches w r x) refl
    where
      go : (b : Bool) → matches w r x ≡ b → same r.addr r.len (start_of (w - r.len) x) r.len ≡ b
      go true e = true_same r.addr r.len (start_of (w - r.len) x) r.len (sym (match_start r x v e)) refl
      go false e =
          same_false r.addr r.len (start_of (w - r.len) x) r.len (λ p q. true≢false (sym (start_match r x p) ∙ e))
