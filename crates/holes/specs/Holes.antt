-- The holes of a table, over the width w of an address: the widest prefixes none of whose addresses has a route.
use Rattle.std.specs.Prelude.{ℕ, suc, ◌-◌, ◌/◌, ◌^◌, ◌<◌, ◌≡◌, Bool, true, List}
use Rattle.theory.specs.Results.{is_miss, start_of, maximal}
use Rattle.theory.specs.Routes.{Route, matches, miss, lookup, Valid}
use Rattle.records.specs.Sized.{width_in}
use Rattle.runs.specs.Runs.{run}

-- Has the address no route: does it have no longest match?
abbrev pub is_unrouted : ℕ → List Route → ℕ → Bool
is_unrouted w t x = is_miss (lookup w t x)

-- The holes in the position (n, a), where t are the routes, in table order: none of their addresses has a route, and some address of the one-bit-shorter
-- prefix does, if that lies in the position too. Their hops are 0.
unfoldable pub holes_in : ℕ → List Route → ℕ → ℕ → List Route
holes_in w t n a = maximal w (is_unrouted w t) n a

-- The holes of a table: those in the position of all addresses.
abbrev pub holes : ℕ → List Route → List Route
holes w t = holes_in w t w 0

-- ---- What it is to be a hole, said of the addresses and with no walk; a theorem says that the listed routes are these.

-- None of the prefix's addresses has a route.
abbrev pub NoneRouted : ℕ → List Route → Route → Type 0
NoneRouted w t r = (x : ℕ) → matches w r x ≡ true → lookup w t x ≡ miss

-- The prefix that is one bit shorter.
abbrev pub shorter : ℕ → Route → Route
shorter w r = record { addr = start_of (suc (w - r.len)) r.addr; len = r.len - 1; hop = 0 }

-- r is a hole's record: a prefix none of whose addresses has a route, and whose one-bit-shorter prefix, if there is one, is not such.
pub record IsHole (w : ℕ) (t : List Route) (r : Route) : Type 0 where
  pub valid : Valid w r
  pub bare : r.hop ≡ 0
  pub unrouted : NoneRouted w t r
  pub widest : 0 < r.len → NoneRouted w t (shorter w r) → ⊥

-- ---- The walk's.

-- The address whose key this is, in records of this size.
abbrev pub address_in : ℕ → ℕ → ℕ
address_in size key = key / 2 ^ (64 - width_in size)

-- The holes in the position of length len whose first address has this key, where the records lo..hi of a table, of this size, are its run.
abbrev pub holes_at : ℕ → List ℕ → ℕ → ℕ → ℕ → ℕ → List Route
holes_at size t lo hi len key = holes_in (width_in size) (run size t lo hi) (width_in size - len) (address_in size key)
