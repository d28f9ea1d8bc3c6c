-- Lists of routes in an order, that of tables or another: one list alone has given members.
use mathlib.Core.Path.{◌≡◌, refl, sym, ap₂, subst, ◌∙◌}
use mathlib.Core.List.{List, [], ◌∷◌, ◌++◌}
use mathlib.Core.Logic.{◌⊎◌, inl, inr, ◌↔◌}
use native.Mathlib.Omega.{arith}
use Rattle.theory.specs.Routes.{Route, All, nil, cons, Before, Ascending, empty, first, Member, head, later}
use Rattle.theory.proofs.Lists.{all_append, all_member}
use Rattle.theory.specs.Falling.{Sooner, Ordered, over, next}

-- Ascending routes are in table order.
pub ascending_ordered : {t : List Route} → Ascending t → Ordered Before t
ascending_ordered empty = over
ascending_ordered (first b o) = next b (ascending_ordered o)

pub ordered_ascending : {t : List Route} → Ordered Before t → Ascending t
ordered_ascending over = empty
ordered_ascending (next b o) = first b (ordered_ascending o)

-- Of two routes one at most goes before the other.
abbrev pub OneWay : (Route → Route → Type 0) → Type 0
OneWay Goes = (r s : Route) → Goes r s → Goes s r → ⊥

-- Of two routes one at most stands before the other.
pub not_both : (r s : Route) → Before r s → Before s r → ⊥
not_both r s (inl p) (inl q) = omega arith
not_both r s (inl p) (inr q) = omega arith
not_both r s (inr p) (inl q) = omega arith
not_both r s (inr p) (inr q) = omega arith

pub before_one_way : OneWay Before
before_one_way = not_both

pub sooner_one_way : OneWay Sooner
sooner_one_way r s (inl p) (inl q) = omega arith
sooner_one_way r s (inl p) (inr q) = omega arith
sooner_one_way r s (inr p) (inl q) = omega arith
sooner_one_way r s (inr p) (inr q) = omega arith

-- An empty list has no member.
pub no_member : {r : Route} → Member r [] → ⊥
no_member m = all_member {P = λ r. ⊥} nil m

module _ (Goes : Route → Route → Type 0) where
  -- Two lists, one behind the other, where each route of the one goes before each of the other.
  pub ordered_append : {s t : List Route} → Ordered Goes s → Ordered Goes t → All (λ r. All (Goes r) t) s → Ordered Goes (s ++ t)
  ordered_append over q p = q
  ordered_append (next b s) q (cons p ps) = next (all_append b p) (ordered_append s q ps)

  -- A member of a list is its first route, or one that goes behind that.
  front_or_behind : {q r : Route} {t : List Route} → All (Goes q) t → Member r (q ∷ t) → (r ≡ q) ⊎ (Goes q r × Member r t)
  front_or_behind b head = inl refl
  front_or_behind b (later m) = inr (all_member b m, m)

  -- Two lists in one order with the same members are equal.
  pub ordered_same : OneWay Goes → {s t : List Route} → Ordered Goes s → Ordered Goes t → ((r : Route) → Member r s ↔ Member r t) → s ≡ t
  ordered_same way over over k = refl
  ordered_same way over (next {r = q} b o) k = absurd (no_member ((k q).1 head))
  ordered_same way (next {r = r} b o) over k = absurd (no_member ((k r).0 head))
  ordered_same way (next {r = r} {t = s} b o) (next {r = q} {t = t} c p) k = ap₂ ◌∷◌ same (ordered_same way o p (λ x. (into x, from x)))
    where
      same : r ≡ q
      same = go (front_or_behind c ((k r).0 head)) (front_or_behind b ((k q).1 head))
        where
          go : (r ≡ q) ⊎ (Goes q r × Member r t) → (q ≡ r) ⊎ (Goes r q × Member q s) → r ≡ q
          go (inl e) other = e
          go (inr z) (inl e) = sym e
          go (inr z) (inr y) = absurd (way q r z.0 y.0)

      -- The first route is none of those behind it.
      apart : (x : Route) → x ≡ r → Goes r x → ⊥
      apart x e g = let here : Goes r r = subst (Goes r) e g in way r r here here

      into : (x : Route) → Member x s → Member x t
      into x m = go (front_or_behind c ((k x).0 (later m)))
        where
          go : (x ≡ q) ⊎ (Goes q x × Member x t) → Member x t
          go (inl e) = absurd (apart x (e ∙ sym same) (all_member b m))
          go (inr z) = z.1

      from : (x : Route) → Member x t → Member x s
      from x m = go (front_or_behind b ((k x).1 (later m)))
        where
          go : (x ≡ r) ⊎ (Goes r x × Member x s) → Member x s
          go (inl e) = absurd (apart x e (subst (λ (u : Route). Goes u x) (sym same) (all_member c m)))
          go (inr z) = z.1
