-- The longest match of an address and the nearest entry above a route, said by the routes of a table and with no walk along it.
use Rattle.std.specs.Prelude.{ℕ, ◌≤◌, ◌<◌, ◌≡◌, true, List}
use Rattle.theory.specs.Routes.{Route, matches, Member}

-- r is a longest match of x: a route of the table that matches x, and none that matches x is longer.
pub record IsLongest (w : ℕ) (t : List Route) (x : ℕ) (r : Route) : Type 0 where
  pub member : Member r t
  pub matching : matches w r x ≡ true
  pub longest : (s : Route) → Member s t → matches w s x ≡ true → s.len ≤ r.len

-- s is above r: a shorter route of the table that matches the address of r.
pub record IsAbove (w : ℕ) (t : List Route) (r s : Route) : Type 0 where
  pub member : Member s t
  pub shorter : s.len < r.len
  pub matching : matches w s r.addr ≡ true

-- s is nearest above r: none above r is longer.
pub record IsNearest (w : ℕ) (t : List Route) (r s : Route) : Type 0 where
  pub above : IsAbove w t r s
  pub closest : (u : Route) → IsAbove w t r u → u.len ≤ s.len
