-- Demand 3: mode 4 writes the same bytes for two tables exactly when they answer every address alike, mode 5 once unrouted addresses have the default,
-- mode 1 when they hold the same addresses; and what is written, rewritten again in its mode, is given back. The tables' elements are bytes.
-- Engines has the argument, for any engine; here it is said of the one over nodes.
use mathlib.Core.Path.{◌≡◌, refl}
use mathlib.Core.Bool.{Bool}
use mathlib.Core.List.{List}
use mathlib.Core.Logic.{◌↔◌}
use Prim.Native.Nat.{ℕ, ◌*◌, ◌^◌, ◌≤◌, ◌<◌}
use lib.IntN.{ℤ, pos}
use lib.ListN.{length, take}
use Rattle.theory.specs.Routes.{held, answer, filled, Alike}
use Rattle.refusals.specs.Rules.{Rule}
use Rattle.refusals.specs.Order.{None}
use Rattle.records.specs.Sized.{width_in, routes_in, Bytes}
use Rattle.records.specs.declared.Form.{Form}
use Rattle.records.specs.Forms.{size_of}
use Rattle.table.specs.SizedConditions.{AcceptedIn}
use Rattle.nodecount.specs.Nodes.{nodes}
use Rattle.calls.specs.Conditions.{RewriteCondition, Guarded}
use Rattle.calls.specs.Rewriting.{takes_set, rewrite_rules, Rewrites, Outcome, records_out}
use Rattle.calls.proofs.Engines.{by_output_bytes, by_output_accepted, again_by, again_answerable, drop_by, fill_by, set_by}
use Rattle.calls.proofs.Refusals.{rewrite_guarded, answerable_exactly}

-- ---- Two tables t and s, rewritten under the same ranks without refusal, in outputs and rooms of their own.
module _ (form : Form) (ranks : List ℕ) (t : List ℕ) (bytes : Bytes t) (o : List ℕ) (words count : ℕ) (change : ℤ) (o' w' : List ℕ)
    (s : List ℕ) (small : Bytes s) (p : List ℕ) (space number : ℕ) (other : ℤ) (p' v' : List ℕ) where
  -- The rules by which each is rewritten.
  abbrev one : ℕ → ℕ → List Rule
  one mode d = rewrite_rules form t mode d ranks (length o) words

  abbrev two : ℕ → ℕ → List Rule
  two mode e = rewrite_rules form s mode e ranks (length p) space

  -- Mode 4: exactly when they send all addresses the same way, no route included.
  pub same_bytes_drop : (d e : ℕ) → Rewrites form t 4 d ranks o words (records_out count change) o' w' → Rewrites form s 4 e ranks p space (records_out number other) p' v'
      → take (size_of form * count) o' ≡ take (size_of form * number) p'
      ↔ Alike (width_in (size_of form)) (answer (width_in (size_of form)) (routes_in (size_of form) t)) (answer (width_in (size_of form)) (routes_in (size_of form) s))
  same_bytes_drop d e a b =
      drop_by form ranks (one 4 d) t bytes o count change o' (two 4 e) s small p number other p' d e
      (rewrite_guarded form t 4 d ranks (length o) words) a.inner (rewrite_guarded form s 4 e ranks (length p) space) b.inner

  -- Mode 5, at one default: exactly when they do once unrouted addresses have the default.
  pub same_bytes_fill : (d : ℕ) → Rewrites form t 5 d ranks o words (records_out count change) o' w' → Rewrites form s 5 d ranks p space (records_out number other) p' v'
      → take (size_of form * count) o' ≡ take (size_of form * number) p'
      ↔ Alike (width_in (size_of form)) (filled d (answer (width_in (size_of form)) (routes_in (size_of form) t))) (filled d (answer (width_in (size_of form)) (routes_in (size_of form) s)))
  same_bytes_fill d a b =
      fill_by form ranks (one 5 d) t bytes o count change o' (two 5 d) s small p number other p' d
      (rewrite_guarded form t 5 d ranks (length o) words) a.inner (rewrite_guarded form s 5 d ranks (length p) space) b.inner

  -- Mode 1: exactly when they hold the same addresses.
  pub same_bytes_set : (d e : ℕ) → Rewrites form t 1 d ranks o words (records_out count change) o' w' → Rewrites form s 1 e ranks p space (records_out number other) p' v'
      → take (size_of form * count) o' ≡ take (size_of form * number) p'
      ↔ ((x : ℕ) → x < 2 ^ width_in (size_of form) → held (width_in (size_of form)) (routes_in (size_of form) t) x ≡ held (width_in (size_of form)) (routes_in (size_of form) s) x)
  same_bytes_set d e a b =
      set_by form ranks (one 1 d) t bytes o count change o' (two 1 e) s small p number other p' d e
      (rewrite_guarded form t 1 d ranks (length o) words) a.inner (rewrite_guarded form s 1 e ranks (length p) space) b.inner

-- ---- A table t, rewritten without refusal.
module _ (form : Form) (t : List ℕ) (bytes : Bytes t) (mode default : ℕ) (ranks o : List ℕ) (words count : ℕ) (change : ℤ) (o' w' : List ℕ)
    (ok : Rewrites form t mode default ranks o words (records_out count change) o' w') where
  abbrev rules : List Rule
  rules = rewrite_rules form t mode default ranks (length o) words

  guarded : Guarded form rules t mode default ranks (length o)
  guarded = rewrite_guarded form t mode default ranks (length o) words

  -- The written records are bytes.
  pub output-bytes : Bytes (take (size_of form * count) o')
  output-bytes = by_output_bytes form rules t mode default ranks o guarded (records_out count change) o' ok.inner count change refl bytes

  -- They are an accepted table again, under either choice on host bits, where they are at most 1,024.
  pub output-accepted : count ≤ 1024 → (strict : Bool) → AcceptedIn (size_of form) strict (takes_set mode) (take (size_of form * count) o')
  output-accepted = by_output_accepted form rules t mode default ranks o guarded (records_out count change) o' ok.inner count change refl bytes

  -- Rewritten again without refusal, they are given back with change 0: as many records, and the same bytes from the output's start.
  pub rewrite_again : (p : List ℕ) (space : ℕ) (r : Outcome) (p' v' : List ℕ) → Rewrites form (take (size_of form * count) o') mode default ranks p space r p' v'
      → (number : ℕ) (other : ℤ) → r ≡ records_out number other → (r ≡ records_out count (pos 0)) × (take (size_of form * count) p' ≡ take (size_of form * count) o')
  rewrite_again p space r p' v' b =
      again_by form rules t mode default ranks o guarded count change o' ok.inner bytes
      (rewrite_rules form (take (size_of form * count) o') mode default ranks (length p) space) p (rewrite_guarded form (take (size_of form * count) o') mode default ranks (length p) space) r p' b.inner

  -- And they are not refused where they are at most 1,024, the room is enough for their nodes and the output for them.
  pub again_answered : count ≤ 1024 → (p : List ℕ) (space : ℕ) → size_of form * count ≤ length p
      → 160 * nodes (width_in (size_of form)) (routes_in (size_of form) (take (size_of form * count) o')) ≤ space
      → None (RewriteCondition form (take (size_of form * count) o') mode default ranks (length p) space)
  again_answered few p space fits room =
      (answerable_exactly form (take (size_of form * count) o') mode default ranks (length p) space).1
      (again_answerable form rules t mode default ranks o guarded (records_out count change) o' ok.inner count change refl bytes few (length p) fits, room)
