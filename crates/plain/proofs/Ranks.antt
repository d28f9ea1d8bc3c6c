-- The ranks of either engine: in modes 4 and 5 the hop of each record that is written has the lowest rank of the candidates of its prefix, and how many records
-- are written does not depend on the ranks, nor on the engine. The argument is calls `Ranks`, the same for every engine. The tables' elements are bytes.
use mathlib.Core.Path.{◌≡◌}
use mathlib.Core.List.{List}
use Prim.Native.Nat.{ℕ, ◌*◌}
use lib.IntN.{ℤ}
use lib.ListN.{take}
use Rattle.calls.specs.Rewriting.{records_out}
use Rattle.theory.specs.Ranks.{RankedFirst}
use Rattle.theory.specs.Routes.{All, answer, filled}
use Rattle.records.specs.Sized.{width_in, routes_in, Bytes}
use Rattle.records.specs.declared.Form.{Form}
use Rattle.records.specs.Forms.{size_of}
use Rattle.calls.proofs.Ranks.{drop_by_first, fill_by_first, by_count}
use Rattle.plain.proofs.Demand3.{Engine, rules_of, RewritesWith, both_guarded}

module _ (form : Form) (g : Engine) (t ranks o : List ℕ) (count : ℕ) (change : ℤ) (o' : List ℕ) where
  -- Mode 4: of the candidates by the table's answers.
  pub both_engines_drop_first : Bytes t → (d : ℕ) → RewritesWith form g t 4 d ranks o (records_out count change) o'
      → All (RankedFirst ranks (width_in (size_of form)) (answer (width_in (size_of form)) (routes_in (size_of form) t))) (routes_in (size_of form) (take (size_of form * count) o'))
  both_engines_drop_first bytes d = drop_by_first form (rules_of form g t 4 d ranks o) t bytes ranks o count change o' d (both_guarded form g t 4 d ranks o)

  -- Mode 5: of those by its answers or else the default.
  pub both_engines_fill_first : Bytes t → (d : ℕ) → RewritesWith form g t 5 d ranks o (records_out count change) o'
      → All (RankedFirst ranks (width_in (size_of form)) (filled d (answer (width_in (size_of form)) (routes_in (size_of form) t)))) (routes_in (size_of form) (take (size_of form * count) o'))
  both_engines_fill_first bytes d = fill_by_first form (rules_of form g t 5 d ranks o) t bytes ranks o count change o' d (both_guarded form g t 5 d ranks o)

  -- Under other ranks, by either engine: as many records.
  pub both_engines_count : (mode default : ℕ) (h : Engine) (other p : List ℕ) (number : ℕ) (differs : ℤ) (p' : List ℕ)
      → RewritesWith form g t mode default ranks o (records_out count change) o' → RewritesWith form h t mode default other p (records_out number differs) p'
      → count ≡ number
  both_engines_count mode default h other p number differs p' =
      by_count form (rules_of form g t mode default ranks o) (rules_of form h t mode default other p) t mode default ranks other o p (both_guarded form g t mode default ranks o)
      (both_guarded form h t mode default other p) count number change differs o' p'
