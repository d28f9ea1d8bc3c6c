-- What either engine writes in modes 1, 4 and 5 is as short as can be. The argument is calls `Shortest`, the same for every engine. The tables' elements are bytes.
use mathlib.Core.Path.{◌≡◌}
use mathlib.Core.Bool.{Bool, true}
use mathlib.Core.List.{List}
use Prim.Native.Nat.{ℕ, ◌*◌, ◌^◌, ◌≤◌, ◌<◌}
use lib.IntN.{ℤ}
use lib.ListN.{take}
use lib.Signed.{◌≤ℤ◌}
use Rattle.theory.specs.Routes.{held}
use Rattle.theory.specs.Shortest.{Shortens, NoFewer}
use Rattle.records.specs.Sized.{width_in, records_in, routes_in, bytes_in, Bytes}
use Rattle.records.specs.declared.Form.{Form}
use Rattle.records.specs.Forms.{size_of}
use Rattle.table.specs.SizedConditions.{AcceptedIn}
use Rattle.calls.specs.Rewriting.{mode_of, change_of, Outcome, records_out}
use Rattle.calls.specs.Shortest.{NoneShorter, most_change}
use Rattle.calls.proofs.Shortest.{shortest_by, none_shorter_by, only_written_by, change_by}
use Rattle.plain.proofs.Demand3.{Engine, rules_of, RewritesWith, both_guarded}

module _ (form : Form) (g : Engine) (t : List ℕ) (ranks o : List ℕ) (o' : List ℕ) where
  -- The change is never above 0, in mode 5 never above 1, answered or refused.
  pub both_engines_change : (mode default : ℕ) (r : Outcome) → RewritesWith form g t mode default ranks o r o' → Bytes t
      → change_of r ≤ℤ most_change (mode_of mode default)
  both_engines_change mode default r = change_by form (rules_of form g t mode default ranks o) t mode default ranks o (both_guarded form g t mode default ranks o) r o'

  module _ (count : ℕ) (change : ℤ) where
    -- No valid routes that say of each address what the result must, in any order and with any hops, are fewer than the records written,
    pub both_engines_shortest : (mode default : ℕ) → RewritesWith form g t mode default ranks o (records_out count change) o' → Shortens (mode_of mode default)
        → NoFewer (width_in (size_of form)) (mode_of mode default) (routes_in (size_of form) t) count
    both_engines_shortest mode default =
        shortest_by form (rules_of form g t mode default ranks o) t mode default ranks o (both_guarded form g t mode default ranks o) count change o'

    -- so no accepted table that does has fewer records.
    pub both_engines_none_shorter : (mode default : ℕ) → RewritesWith form g t mode default ranks o (records_out count change) o' → Shortens (mode_of mode default)
        → NoneShorter (size_of form) mode default t count
    both_engines_none_shorter mode default =
        none_shorter_by form (rules_of form g t mode default ranks o) t mode default ranks o (both_guarded form g t mode default ranks o) count change o'

    -- Mode 1: a set of the same addresses that has as many records is the one written, but for host bits.
    pub both_engines_alone : (d : ℕ) → RewritesWith form g t 1 d ranks o (records_out count change) o' → (strict : Bool) (u : List ℕ) → Bytes u
        → AcceptedIn (size_of form) strict true u
        → ((x : ℕ) → x < 2 ^ width_in (size_of form) → held (width_in (size_of form)) (routes_in (size_of form) u) x ≡ held (width_in (size_of form)) (routes_in (size_of form) t) x)
        → records_in (size_of form) u ≤ count → bytes_in (size_of form) (routes_in (size_of form) u) ≡ take (size_of form * count) o'
    both_engines_alone d = only_written_by form (rules_of form g t 1 d ranks o) t d ranks o (both_guarded form g t 1 d ranks o) count change o'
