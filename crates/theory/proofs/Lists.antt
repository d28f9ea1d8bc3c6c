-- Laws of lists of routes: a property of every route, and membership.
use mathlib.Core.Path.{◌≡◌, refl}
use mathlib.Core.List.{List, [], ◌∷◌, ◌++◌}
use mathlib.Core.Logic.{◌⊎◌, inl, inr, ⊎_elim}
use Rattle.theory.specs.Routes.{Route, All, nil, cons, Member, head, later}

pub all_append : {P : Route → Type 0} {s t : List Route} → All P s → All P t → All P (s ++ t)
all_append nil q = q
all_append (cons p ps) q = cons p (all_append ps q)

pub all_map : {P Q : Route → Type 0} {t : List Route} → ((r : Route) → P r → Q r) → All P t → All Q t
all_map k nil = nil
all_map k (cons {r = r} p ps) = cons (k r p) (all_map k ps)

-- A property of every route is one of every member, and the other way.
pub all_member : {P : Route → Type 0} {r : Route} {t : List Route} → All P t → Member r t → P r
all_member {P = P} {r = r} nil m = elim m [ ]
all_member (cons p ps) head = p
all_member (cons p ps) (later m) = all_member ps m

pub member-left : {r : Route} {s : List Route} (t : List Route) → Member r s → Member r (s ++ t)
member-left t head = head
member-left t (later m) = later (member-left t m)

pub member_right : {r : Route} (s : List Route) {t : List Route} → Member r t → Member r (s ++ t)
member_right [] m = m
member_right (u ∷ s) m = later (member_right s m)

pub member-cons : {r s : Route} {t : List Route} → Member r (s ∷ t) → (r ≡ s) ⊎ Member r t
member-cons head = inl refl
member-cons (later m) = inr m

pub member-append : {r : Route} (s : List Route) {t : List Route} → Member r (s ++ t) → Member r s ⊎ Member r t
member-append [] m = inr m
member-append (u ∷ s) head = inl head
member-append (u ∷ s) (later m) = ⊎_elim (λ k. inl (later k)) (λ k. inr k) (member-append s m)

pub member_all : {P : Route → Type 0} (t : List Route) → ((r : Route) → Member r t → P r) → All P t
member_all [] k = nil
member_all (r ∷ t) k = cons (k r head) (member_all t (λ s m. k s (later m)))
