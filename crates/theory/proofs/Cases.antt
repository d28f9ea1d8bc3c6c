-- The worked routes of document 01 that are marked, at 32 bits: one table of cases and one theorem over it, by computation.
use Prim.Native.Nat.{ℕ, ◌+◌, ◌-◌, ◌*◌, ◌/◌, ◌%◌, ◌^◌}
use mathlib.Core.Path.{◌≡◌, refl, ◌∙◌}
use mathlib.Core.Bool.{Bool, true, false, ◌&&◌}
use mathlib.Core.List.{List, [], ◌∷◌}
use native.Mathlib.Nat.{div-add-mod'}
use native.Mathlib.Omega.{arith}
use lib.Dec.{T, eqb, leb, ltb, eqb→eq, leb→le, ltb→lt}
use Rattle.theory.specs.Routes.{Route, none, via, Valid, All, nil, cons}
use Rattle.theory.specs.Results.{unhopped, smallest, Mode, aggregate_set, aggregate_consistent_map, aggregate_map_drop, aggregate_map_fill, result}
use Rattle.theory.proofs.Chosen.{smallest_chooses}
use Rattle.theory.proofs.Quick.{sets_of, ortc_of}
use Rattle.theory.proofs.Computed.{set_computed, drop_computed, fill_computed}

-- The prefix a.b.c.d/len by hop h.
unfoldable pub route : ℕ → ℕ → ℕ → ℕ → ℕ → ℕ → Route
route a b c d len h = record { addr = ((a * 256 + b) * 256 + c) * 256 + d; len = len; hop = h }

-- A worked case: what a mode makes of a table.
pub record Case : Type 0 where
  pub mode : Mode
  pub table : List Route
  pub expected : List Route

-- The marked cases, in document 01's order: 1, 2, 4 in mode 1, 5, 7, 9 to 15; mode 2, of cases 3 and 4, is retired.
unfoldable pub cases : List Case
unfolding route
cases =
    record { mode = aggregate_set; table = []; expected = [] }
    ∷ record { mode = aggregate_set; table = route 10 0 0 0 9 0 ∷ route 10 128 0 0 9 0 ∷ []; expected = route 10 0 0 0 8 0 ∷ [] }
    ∷ record { mode = aggregate_set; table = route 10 0 0 0 8 0 ∷ route 10 1 0 0 16 0 ∷ []; expected = route 10 0 0 0 8 0 ∷ [] }
    ∷ record { mode = aggregate_set; table = route 0 0 0 0 1 0 ∷ route 128 0 0 0 1 0 ∷ []; expected = route 0 0 0 0 0 0 ∷ [] }
    ∷ record {
      mode = aggregate_set;
      table = route 192 0 2 1 32 0 ∷ route 192 0 2 2 32 0 ∷ [];
      expected = route 192 0 2 1 32 0 ∷ route 192 0 2 2 32 0 ∷ [];
    }
    ∷ record {
      mode = aggregate_consistent_map;
      table = route 10 0 0 0 8 1 ∷ route 10 1 0 0 16 2 ∷ route 10 1 2 0 24 1 ∷ [];
      expected = route 10 0 0 0 8 1 ∷ route 10 1 0 0 16 2 ∷ route 10 1 2 0 24 1 ∷ [];
    }
    ∷ record {
      mode = aggregate_map_drop;
      table = route 10 0 0 0 8 1 ∷ route 10 0 0 0 9 2 ∷ route 10 128 0 0 9 2 ∷ [];
      expected = route 10 0 0 0 8 2 ∷ [];
    }
    ∷ record {
      mode = aggregate_map_drop;
      table = route 10 0 0 0 9 1 ∷ route 10 128 0 0 9 2 ∷ [];
      expected = route 10 0 0 0 8 1 ∷ route 10 128 0 0 9 2 ∷ [];
    }
    ∷ record { mode = aggregate_map_drop; table = route 0 0 0 0 1 1 ∷ []; expected = route 0 0 0 0 1 1 ∷ [] }
    ∷ record { mode = aggregate_map_fill 3; table = []; expected = route 0 0 0 0 0 3 ∷ [] }
    ∷ record { mode = aggregate_map_fill 3; table = route 0 0 0 0 1 3 ∷ []; expected = route 0 0 0 0 0 3 ∷ [] }
    ∷ record { mode = aggregate_map_fill 0; table = route 10 0 0 0 8 5 ∷ []; expected = route 0 0 0 0 0 0 ∷ route 10 0 0 0 8 5 ∷ [] }
    ∷ []

-- ---- How a case is computed.

-- A test of a route's form.
abbrev well_formed : ℕ → Route → Bool
well_formed w r = leb r.len w && (eqb (r.addr % 2 ^ (w - r.len)) 0 && ltb r.addr (2 ^ w))

abbrev all_well_formed : ℕ → List Route → Bool
all_well_formed w [] = true
all_well_formed w (r ∷ t) = well_formed w r && all_well_formed w t

both : (p q : Bool) → T (p && q) → T p × T q
both true q h = (tt, h)
both false q h = absurd h

formed_valid : (w : ℕ) (t : List Route) → T (all_well_formed w t) → All (Valid w) t
formed_valid w [] h = nil
formed_valid w (r ∷ t) h =
    let b : T (well_formed w r) × T (all_well_formed w t) = both (well_formed w r) (all_well_formed w t) h in
    let c : T (leb r.len w) × T (eqb (r.addr % 2 ^ (w - r.len)) 0 && ltb r.addr (2 ^ w)) = both (leb r.len w) _ b.0 in
    let d : T (eqb (r.addr % 2 ^ (w - r.len)) 0) × T (ltb r.addr (2 ^ w)) = both (eqb (r.addr % 2 ^ (w - r.len)) 0) (ltb r.addr (2 ^ w)) c.1 in
    cons {r = r} (record {
      short = leb→le r.len w c.0;
      clean = (
        r.addr / 2 ^ (w - r.len),
        omega (arith, div-add-mod' r.addr (2 ^ (w - r.len)), eqb→eq (r.addr % 2 ^ (w - r.len)) 0 d.0),
      );
      small = ltb→lt r.addr (2 ^ w) d.1;
    }) (formed_valid w t b.1)

-- A mode's result in a form that computes.
abbrev computed : Mode → List Route → List Route
computed aggregate_set t = ortc_of smallest 32 32 0 none none (unhopped t)
computed aggregate_consistent_map t = result smallest 32 aggregate_consistent_map t
computed aggregate_map_drop t = ortc_of smallest 32 32 0 none none t
computed (aggregate_map_fill d) t = ortc_of smallest 32 32 0 (via d) none t

is_computed : (mode : Mode) (t : List Route) → T (all_well_formed 32 t) → result smallest 32 mode t ≡ computed mode t
is_computed aggregate_set t h = set_computed smallest smallest_chooses 32 (formed_valid 32 t h)
is_computed aggregate_consistent_map t h = refl
is_computed aggregate_map_drop t h = drop_computed smallest smallest_chooses 32 (formed_valid 32 t h)
is_computed (aggregate_map_fill d) t h = fill_computed smallest smallest_chooses 32 (formed_valid 32 t h) d

abbrev Right : List Case → Type 0
Right [] = Unit {0}
Right (c ∷ cs) = (computed c.mode c.table ≡ c.expected) × (T (all_well_formed 32 c.table) × Right cs)

right : Right cases
unfolding cases ortc_of sets_of route result
right =
    (refl, (tt, (refl, (tt, (refl, (tt, (refl, (tt, (refl, (tt, (refl, (tt, (refl, (tt, (refl, (tt, (refl, (tt, (refl, (tt, (refl, (tt, (refl, (tt, tt))))))))))))))))))))))))

-- Each case's result is what is expected.
abbrev pub Answered : List Case → Type 0
Answered [] = Unit {0}
Answered (c ∷ cs) = (result smallest 32 c.mode c.table ≡ c.expected) × Answered cs

answered : (cs : List Case) → Right cs → Answered cs
answered [] p = tt
answered (c ∷ cs) p = (is_computed c.mode c.table p.1.0 ∙ p.0, answered cs p.1.1)

-- The theorem over the table of cases.
pub worked : Answered cases
worked = answered cases right
