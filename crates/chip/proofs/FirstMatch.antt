-- Where the longer routes come first, the first match is the longest match. Over the width. Assumes nothing.
use mathlib.Core.Path.{◌≡◌, refl, sym, ◌∙◌}
use mathlib.Core.Bool.{Bool, true, false, cond, true≢false}
use mathlib.Core.List.{List, [], ◌∷◌, ◌++◌}
use mathlib.Core.Logic.{inl, inr, ◌↔◌}
use Prim.Native.Nat.{ℕ, ◌≤◌, ◌<◌}
use native.Mathlib.Nat.{le_refl}
use native.Mathlib.Omega.{arith}
use borrow.Author.Tests.{le-leb, lt-leb}
use Rattle.theory.specs.Routes.{Route, matches, miss, hit, Match, lookup, All, nil, cons, Table, Member, head, later}
use Rattle.theory.specs.Longest.{IsLongest}
use Rattle.theory.proofs.Lists.{all_map, all_member, member_all}
use Rattle.theory.proofs.LongestMatch.{lookup_none, lookup_is}
use Rattle.chip.specs.Chip.{slot_matches, first_match}
use Rattle.theory.specs.Falling.{falling, Sooner, Ordered, over, next}
use Rattle.theory.proofs.Ordered.{no_member}
use Rattle.theory.proofs.Falling.{falling-member, falling_ordered}

module _ (w x : ℕ) where
  -- Unused slots behind others change nothing.
  pub first_unused : (s : List Route) {u : List Route} → All (λ r. w < r.len) u → first_match w (s ++ u) x ≡ first_match w s x
  first_unused [] nil = refl
  first_unused [] (cons {r = r} lt more) = rw (lt-leb r.len w lt) (first_unused [] more)
  first_unused (r ∷ s) p = go (slot_matches w r x) (first_unused s p)
    where
      go : (c : Bool) {m n : Match} → m ≡ n → cond c (hit r.len r.hop) m ≡ cond c (hit r.len r.hop) n
      go true e = refl
      go false e = e

  -- Nothing matches, and no match is given; or a longest match is.
  data Finds (s : List Route) : Type 0 where
    nothing : first_match w s x ≡ miss → ((r : Route) → Member r s → matches w r x ≡ true → ⊥) → Finds s
    longest : (r : Route) → IsLongest w s x r → first_match w s x ≡ hit r.len r.hop → Finds s

  finds : {s : List Route} → Ordered Sooner s → All (λ r. r.len ≤ w) s → Finds s
  finds over nil = nothing refl (λ r m e. no_member m)
  finds (next {r = r} {t = s} b o) (cons le short) = go (matches w r x) refl (finds o short)
    where
      tested : {c : Bool} → matches w r x ≡ c → slot_matches w r x ≡ c
      tested e = rw (le-leb r.len w le) e

      no_longer : (q : Route) → Sooner r q → q.len ≤ r.len
      no_longer q (inl lt) = omega arith
      no_longer q (inr z) = omega (arith, z.0)

      go : (c : Bool) → matches w r x ≡ c → Finds s → Finds (r ∷ s)
      go true e more =
          longest r (record {
            member = head;
            matching = e;
            longest = λ q m p. all_member (cons (le_refl r.len) (all_map no_longer b)) m;
          }) (rw (tested e))
      go false e (nothing f none) =
          nothing (rw (tested e) f) (λ q m. all_member {P = λ q. matches w q x ≡ true → ⊥} (cons (λ p. true≢false (sym p ∙ e)) (member_all s none)) m)
      go false e (longest q l f) =
          longest q (record {
            member = later l.member;
            matching = l.matching;
            longest =
                λ u m. all_member {P = λ u. matches w u x ≡ true → u.len ≤ q.len}
                (cons (λ p. absurd (true≢false (sym p ∙ e))) (member_all s l.longest)) m;
          }) (rw (tested e) f)

  -- The first match in a list of a table's routes, the longer first, is the table's longest match.
  pub first_match_lem : {s t : List Route} → Table w t → Ordered Sooner s → ((r : Route) → Member r s ↔ Member r t) → first_match w s x ≡ lookup w t x
  first_match_lem {s} {t} table o same = go (finds o (member_all s (λ r m. (all_member table.valid ((same r).0 m)).short)))
    where
      go : Finds s → first_match w s x ≡ lookup w t x
      go (nothing f none) = f ∙ sym ((lookup_none w t x).1 (λ r m. none r ((same r).1 m)))
      go (longest r l f) =
          f ∙ sym (lookup_is w table x (record {
            member = (same r).0 l.member;
            matching = l.matching;
            longest = λ q m. l.longest q ((same q).1 m);
          }))

  -- So it is in its routes by falling length.
  pub falling-first : {t : List Route} → Table w t → first_match w (falling w t) x ≡ lookup w t x
  falling-first {t} table =
      first_match_lem table (falling_ordered table.order w) (λ r. (
        λ m. ((falling-member w t).0 m).0,
        λ m. (falling-member w t).1 (m, (all_member table.valid m).short),
      ))
