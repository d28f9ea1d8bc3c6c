-- `hitless::Change::is_hitless` meets its contract. Assumes nothing.
use Prim.Native.Nat.{ℕ}
use mathlib.Core.Path.{◌≡◌, sym, ◌∙◌}
use mathlib.Core.Bool.{true, false, true≢false}
use mathlib.Core.List.{List}
use lib.Dec.{eqb}
use lib.ListN.{length}
use borrow.Author.Tests.{eqb-true, eq-eqb}
use Rattle.std.specs.Prelude.{Option, Some, None, MatchOption}
use Rattle.std.specs.Option.{option_eq}
use Rattle.records.specs.Wire.{records}
use Rattle.plans.specs.declared.answers.Step.{Step}
use Rattle.plans.specs.Judging.{Accepts}
use Rattle.plans.specs.Deciding.{MayFollow, table_after, Done}
use Rattle.plans.proofs.Deciding.{hitless, count_needed}
use Rattle.plans.proofs.hitless.Change.is_hitless.Goals as goal

-- What the count before the end says.
abbrev Counted : List ℕ → List ℕ → List Step → Option ℕ → Type 0
Counted t u ss r = MatchOption r (Accepts t u ss → ⊥) (λ k. Done t u ss (length ss) × (k ≡ length (table_after t ss (length ss))))

as_many : (t u : List ℕ) (ss : List Step) (r : Option ℕ) → Counted t u ss r → option_eq eqb r (Some (records u)) ≡ true
    → Done t u ss (length ss) × (length (table_after t ss (length ss)) ≡ records u)
as_many t u ss None h e = absurd (true≢false (sym e))
as_many t u ss (Some k) h e = (h.0, sym h.1 ∙ eqb-true k (records u) e)

not_as_many : (t u : List ℕ) (ss : List Step) (may : MayFollow t u ss) (r : Option ℕ) → Counted t u ss r → option_eq eqb r (Some (records u)) ≡ false → Accepts t u ss → ⊥
not_as_many t u ss may None h e = h
not_as_many t u ss may (Some k) h e = count_needed may (λ q. true≢false (sym (eq-eqb k (records u) (h.1 ∙ q)) ∙ e))

pub returns-then-eq-clause-yes : goal.returns-then-eq-clause-yes
returns-then-eq-clause-yes c =
    let a = c.args in
    let z = as_many a.self.now.installed.now a.self.now.new.now a.self.now.steps.now c.count_after.result c.count_after.ensures (sym c.eq.ensures ∙ c.if-eq.true) in
    λ y. hitless c.requires z.0 z.1 (c.are_records_kept.ensures.yes y)

pub returns-else-eq-clause-no : goal.returns-else-eq-clause-no
returns-else-eq-clause-no c =
    let a = c.args in
    λ y. not_as_many a.self.now.installed.now a.self.now.new.now a.self.now.steps.now c.requires c.count_after.result c.count_after.ensures (sym c.eq.ensures ∙ c.if-eq.false)
