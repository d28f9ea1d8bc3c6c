-- `hitless::shortest_put` meets its contract. Assumes nothing.
use Prim.Native.Nat.{ℕ}
use mathlib.Core.Path.{◌≡◌, sym, ap, ◌∙◌}
use mathlib.Core.Bool.{Bool, true, true≢false, not}
use native.Mathlib.Omega.{arith}
use borrow.Author.Tests.{ne_eqb, eq-eqb}
use lib.ListN.{length}
use Rattle.std.specs.Prelude.{Option, Some, None, MatchOption, IsTrue}
use Rattle.plans.proofs.Deciding.{found-here, found-other}
use Rattle.plans.proofs.hitless.shortest_put.Goals as goal
use Rattle.plans.proofs.hitless.shortest_put.Goals.{then-s-ne0+then-len-s+then-is_none_or+then-holds, else-s-ne0, else-s-ne0-via-then-s-ne0+then-len-s+then-is_none_or+else-holds, else-s-ne0-via-then-s-ne0+then-len-s+else-is_none_or, else-s-ne0-via-then-s-ne0+else-len-s, else-s-ne0-via-else-s-ne0}

at_none : (P : ℕ → Type 0) {b : Bool} (r : Option ℕ) → MatchOption r (IsTrue b) P → r ≡ None → b ≡ true
at_none P None h e = h
at_none P (Some x) h e = absurd (cc)

pub loop-s-preserved : goal.loop-s-preserved
loop-s-preserved c =
    let l = c.loop-s in
    let a = c.args in
    let k = l.s-index in
    elim c.if-s-ne0.branch [
      | then-s-ne0+then-len-s+then-is_none_or+then-holds w ↦
          rw w.found-is (found-here a.steps.now a.y a.len k w.if-len-s.true (c.requires k c.loop-s-test.true) (ap not (ne_eqb _ 0 w.if-s-ne0.true)) (sym w.holds.ensures ∙ w.if-holds.true))
      | else-s-ne0 w ↦ rw w.found-is (found-other a.steps.now a.y a.len k l.found (λ q p g h.
          elim w.else-s-ne0.branch [
            | else-s-ne0-via-then-s-ne0+then-len-s+then-is_none_or+else-holds w' ↦ true≢false (sym h ∙ sym w'.holds.ensures ∙ w'.if-holds.false)
            | else-s-ne0-via-then-s-ne0+then-len-s+else-is_none_or w' ↦ true≢false (sym (at_none _ l.found w'.is_none_or.ensures q) ∙ w'.if-is_none_or.false)
            | else-s-ne0-via-then-s-ne0+else-len-s w' ↦ omega arith
            | else-s-ne0-via-else-s-ne0 w' ↦ true≢false (sym p ∙ ap not (eq-eqb _ 0 w'.if-s-ne0.false))
          ]) l.invariant)
    ]

pub returns : goal.returns
returns c = let e : c.loop-s.s-index ≡ length c.args.steps.now = omega arith in rw e at c.loop-s.invariant
