-- `hops::assign` meets its contract. Assumes nothing.
use mathlib.Core.Path.{sym, ◌∙◌}
use native.Mathlib.Omega.{arith}
use Rattle.hops.proofs.SetLaws.{zero-shows-hole, kept, chosen}
use Rattle.hops.proofs.assign.Goals as goal

pub returns-then-set-eq0 : goal.returns-then-set-eq0
returns-then-set-eq0 c = record { result_value = λ S p. rw (zero-shows-hole _ S p c.if-set-eq0.true); upper_bound = omega arith }

pub returns-then-has : goal.returns-then-has
returns-then-has c = record { result_value = λ S p. kept _ _ _ S p c.if-set-eq0.false (λ s q. sym c.if-has.true ∙ c.has.ensures s q); upper_bound = λ le. le }

pub returns-else-has : goal.returns-else-has
returns-else-has c =
    let r = c.lowest in record {
      result_value = λ S p.
          chosen _ _ _ r.result r.ensures.1 S p c.if-set-eq0.false
          (λ s q. sym c.if-has.false ∙ c.has.ensures s q) r.ensures.0;
      upper_bound = λ le. omega (arith, r.ensures.1);
    }
