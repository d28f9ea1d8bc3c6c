-- Routes, tables and the longest match (RFC 4632), over the width w of an address. Addresses are the numbers below 2 ^ w.
use Rattle.std.specs.Prelude.{ℕ, ◌-◌, ◌*◌, ◌/◌, ◌^◌, ◌≤◌, ◌<◌, ◌≡◌, Bool, false, cond, ◌||◌, List, [], ◌∷◌, ◌⊎◌, eqb, ltb}

-- A route: the addresses that share their first `len` bits with `addr` leave by `hop`.
pub record Route : Type 0 where
  pub addr : ℕ
  pub len : ℕ
  pub hop : ℕ

-- Does the route match the address x: are their first `len` of w bits the same?
abbrev pub matches : ℕ → Route → ℕ → Bool
matches w r x = eqb (x / 2 ^ (w - r.len)) (r.addr / 2 ^ (w - r.len))

-- Is x under some member of the table?
abbrev pub held : ℕ → List Route → ℕ → Bool
held w [] x = false
held w (r ∷ t) x = matches w r x || held w t x

-- No match, or one: its length and its hop.
pub data Match : Type 0 where
  miss : Match
  hit : ℕ → ℕ → Match

-- The longer of two matches; of two as long, the later.
abbrev pub longer : Match → Match → Match
longer miss m = m
longer (hit k h) miss = hit k h
longer (hit k h) (hit l i) = cond (ltb l k) (hit k h) (hit l i)

-- The match that one route gives.
abbrev pub tried : ℕ → Route → ℕ → Match
tried w r x = cond (matches w r x) (hit r.len r.hop) miss

-- The longest match of x in a table.
abbrev pub lookup : ℕ → List Route → ℕ → Match
lookup w [] x = miss
lookup w (r ∷ t) x = longer (tried w r x) (lookup w t x)

-- What is said of an address: no route, or a hop.
pub data Answer : Type 0 where
  none : Answer
  via : ℕ → Answer

-- What a match says, where `above` is said of an address without one.
abbrev pub under : Answer → Match → Answer
under above miss = above
under above (hit k h) = via h

-- What a table says of x: the hop of the longest match.
abbrev pub answer : ℕ → List Route → ℕ → Answer
answer w t x = under none (lookup w t x)

-- The same, once unrouted addresses have the default d.
abbrev pub or_default : ℕ → Answer → Answer
or_default d none = via d
or_default d (via h) = via h

abbrev pub filled : ℕ → (ℕ → Answer) → ℕ → Answer
filled d f x = or_default d (f x)

-- Two ways of answering say the same of every address.
abbrev pub Alike : ℕ → (ℕ → Answer) → (ℕ → Answer) → Type 0
Alike w f g = (x : ℕ) → x < 2 ^ w → f x ≡ g x

-- a is a multiple of 2 ^ n: none of its last n bits is set.
abbrev pub Aligned : ℕ → ℕ → Type 0
Aligned n a = (q : ℕ) × (a ≡ q * 2 ^ n)

-- A route as a table has it: a length up to the width, no host bits, an address of w bits.
pub record Valid (w : ℕ) (r : Route) : Type 0 where
  pub short : r.len ≤ w
  pub clean : Aligned (w - r.len) r.addr
  pub small : r.addr < 2 ^ w

-- P holds of every route of a list.
pub data All (P : Route → Type 0) : List Route → Type 0 where
  nil : All P []
  cons : {r : Route} {t : List Route} → P r → All P t → All P (r ∷ t)

-- Table order: by address, then by length.
abbrev pub Before : Route → Route → Type 0
Before r s = (r.addr < s.addr) ⊎ ((r.addr ≡ s.addr) × (r.len < s.len))

-- Each route stands before all the later ones.
pub data Ascending : List Route → Type 0 where
  empty : Ascending []
  first : {r : Route} {t : List Route} → All (Before r) t → Ascending t → Ascending (r ∷ t)

-- A table: valid routes in order, so no prefix twice.
pub record Table (w : ℕ) (t : List Route) : Type 0 where
  pub valid : All (Valid w) t
  pub order : Ascending t

-- The route r is one of the list.
pub data Member (r : Route) : List Route → Type 0 where
  head : {t : List Route} → Member r (r ∷ t)
  later : {s : Route} {t : List Route} → Member r t → Member r (s ∷ t)
