-- Demand 3 of the second engine and of both together: mode 4 writes the same bytes for two tables exactly when they answer every address alike, mode 5 once
-- unrouted addresses have the default, mode 1 when they hold the same addresses; and what is written, rewritten again in its mode by either engine, is given
-- back. The tables' elements are bytes. The argument is calls `Engines`, the same for every engine.
use mathlib.Core.Path.{◌≡◌, refl}
use mathlib.Core.List.{List}
use mathlib.Core.Logic.{◌↔◌}
use Prim.Native.Nat.{ℕ, ◌*◌, ◌^◌, ◌≤◌, ◌<◌}
use lib.IntN.{ℤ, pos}
use lib.ListN.{length, take}
use Rattle.theory.specs.Routes.{held, answer, filled, Alike}
use Rattle.refusals.specs.Rules.{Rule}
use Rattle.refusals.specs.Order.{None}
use Rattle.records.specs.Sized.{width_in, routes_in, Bytes}
use Rattle.records.specs.declared.Form.{Form}
use Rattle.records.specs.Forms.{size_of}
use Rattle.calls.specs.Conditions.{Guarded}
use Rattle.calls.specs.Rewriting.{rewrite_rules, RewritesBy, Outcome, records_out}
use Rattle.calls.proofs.Engines.{again_by, again_answerable, drop_by, fill_by, set_by}
use Rattle.calls.proofs.Refusals.{rewrite_guarded}
use Rattle.plain.specs.Conditions.{IsMode, PlainCondition}
use Rattle.plain.specs.Rewriting.{plain_rules}
use Rattle.plain.proofs.Calls.{plain_answerable, plain_guarded}

-- The rules by which an engine rewrites a table: with the work room of so many words the first engine's, else the second's.
pub data Engine : Type 0 where
  nodes : ℕ → Engine
  plain : Engine

abbrev pub rules_of : Form → Engine → List ℕ → ℕ → ℕ → List ℕ → List ℕ → List Rule
rules_of form (nodes words) t mode default ranks o = rewrite_rules form t mode default ranks (length o) words
rules_of form plain t mode default ranks o = plain_rules form t mode default ranks (length o)

-- A table t is rewritten by the engine to r and o'.
abbrev pub RewritesWith : Form → Engine → List ℕ → ℕ → ℕ → List ℕ → List ℕ → Outcome → List ℕ → Type 0
RewritesWith form e t mode default ranks o r o' = RewritesBy (size_of form) (rules_of form e t mode default ranks o) t mode default ranks o r o'

-- Both engines' rules are guarded.
pub both_guarded : (form : Form) (e : Engine) (t : List ℕ) (mode default : ℕ) (ranks o : List ℕ)
    → Guarded form (rules_of form e t mode default ranks o) t mode default ranks (length o)
both_guarded form (nodes words) t mode default ranks o = rewrite_guarded form t mode default ranks (length o) words
both_guarded form plain t mode default ranks o = plain_guarded form t mode default ranks (length o)

-- ---- Two tables t and s, each rewritten by either engine under the same ranks, without refusal.
module _ (form : Form) (ranks : List ℕ) (g : Engine) (t : List ℕ) (bytes : Bytes t) (o : List ℕ) (count : ℕ) (change : ℤ) (o' : List ℕ)
    (h : Engine) (s : List ℕ) (small : Bytes s) (p : List ℕ) (number : ℕ) (other : ℤ) (p' : List ℕ) where
  -- Mode 4: the same bytes exactly when they send all addresses the same way, no route included.
  pub both_engines_drop : (d e : ℕ) → RewritesWith form g t 4 d ranks o (records_out count change) o' → RewritesWith form h s 4 e ranks p (records_out number other) p'
      → take (size_of form * count) o' ≡ take (size_of form * number) p'
      ↔ Alike (width_in (size_of form)) (answer (width_in (size_of form)) (routes_in (size_of form) t)) (answer (width_in (size_of form)) (routes_in (size_of form) s))
  both_engines_drop d e a b =
      drop_by form ranks (rules_of form g t 4 d ranks o) t bytes o count change o' (rules_of form h s 4 e ranks p) s small p number other p' d e
      (both_guarded form g t 4 d ranks o) a (both_guarded form h s 4 e ranks p) b

  -- Mode 5, at one default: exactly when they do once unrouted addresses have the default.
  pub both_engines_fill : (d : ℕ) → RewritesWith form g t 5 d ranks o (records_out count change) o' → RewritesWith form h s 5 d ranks p (records_out number other) p'
      → take (size_of form * count) o' ≡ take (size_of form * number) p'
      ↔ Alike (width_in (size_of form)) (filled d (answer (width_in (size_of form)) (routes_in (size_of form) t))) (filled d (answer (width_in (size_of form)) (routes_in (size_of form) s)))
  both_engines_fill d a b =
      fill_by form ranks (rules_of form g t 5 d ranks o) t bytes o count change o' (rules_of form h s 5 d ranks p) s small p number other p' d
      (both_guarded form g t 5 d ranks o) a (both_guarded form h s 5 d ranks p) b

  -- Mode 1: exactly when they hold the same addresses.
  pub both_engines_set : (d e : ℕ) → RewritesWith form g t 1 d ranks o (records_out count change) o' → RewritesWith form h s 1 e ranks p (records_out number other) p'
      → take (size_of form * count) o' ≡ take (size_of form * number) p'
      ↔ ((x : ℕ) → x < 2 ^ width_in (size_of form) → held (width_in (size_of form)) (routes_in (size_of form) t) x ≡ held (width_in (size_of form)) (routes_in (size_of form) s) x)
  both_engines_set d e a b =
      set_by form ranks (rules_of form g t 1 d ranks o) t bytes o count change o' (rules_of form h s 1 e ranks p) s small p number other p' d e
      (both_guarded form g t 1 d ranks o) a (both_guarded form h s 1 e ranks p) b

-- ---- A table t, rewritten without refusal by either engine.
module _ (form : Form) (g : Engine) (t : List ℕ) (bytes : Bytes t) (mode default : ℕ) (ranks o : List ℕ) (count : ℕ) (change : ℤ) (o' : List ℕ)
    (ok : RewritesWith form g t mode default ranks o (records_out count change) o') where
  -- What is written, rewritten again by either engine without refusal, is given back with change 0.
  pub both_engines_again : (h : Engine) (p : List ℕ) (r : Outcome) (p' : List ℕ) → RewritesWith form h (take (size_of form * count) o') mode default ranks p r p'
      → (number : ℕ) (other : ℤ) → r ≡ records_out number other → (r ≡ records_out count (pos 0)) × (take (size_of form * count) p' ≡ take (size_of form * count) o')
  both_engines_again h p r p' b =
      again_by form (rules_of form g t mode default ranks o) t mode default ranks o (both_guarded form g t mode default ranks o) count change o' ok bytes
      (rules_of form h (take (size_of form * count) o') mode default ranks p) p (both_guarded form h (take (size_of form * count) o') mode default ranks p) r p' b

  -- And the second engine, where it has the mode, does not refuse it where it has at most 1,024 records and the output is long enough for them.
  pub plain_again_answered : IsMode mode → count ≤ 1024 → (p : List ℕ) → size_of form * count ≤ length p
      → None (PlainCondition form (take (size_of form * count) o') mode default ranks (length p))
  plain_again_answered had few p fits =
      (plain_answerable form (take (size_of form * count) o') mode default ranks (length p)).1 (
        had,
        again_answerable form (rules_of form g t mode default ranks o) t mode default ranks o (both_guarded form g t mode default ranks o) (records_out count change) o' ok count change refl bytes few
            (length p) fits,
      )
