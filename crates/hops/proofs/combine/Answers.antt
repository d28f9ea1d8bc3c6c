-- `hops::combine` meets its contract. Assumes nothing.
use Prim.Native.Nat.{ℕ}
use mathlib.Core.Path.{sym, subst}
use borrow.Author.Tests.{eq-eqb, ne_eqb}
use Rattle.hops.specs.Sets.{ShowsSet}
use Rattle.hops.proofs.SetLaws.{combine_words, shows-combine, same_halves}
use Rattle.hops.proofs.combine.Goals as goal

pub returns-then-left-right : goal.returns-then-left-right
returns-then-left-right c S R p q = same_halves c.args.left S R p (subst (λ (x : ℕ). ShowsSet x R) (sym c.if-left-right.true) q)

pub returns-then-left-eq0 : goal.returns-then-left-eq0
unfolding combine_words
returns-then-left-eq0 c S R p q = simp (eq-eqb _ _ c.if-left-eq0.true) at (shows-combine _ _ S R p q)

pub returns-then-right-eq0 : goal.returns-then-right-eq0
unfolding combine_words
returns-then-right-eq0 c S R p q = simp (ne_eqb _ _ c.if-left-eq0.false, eq-eqb _ _ c.if-right-eq0.true) at (shows-combine _ _ S R p q)

pub returns-then-both-eq0 : goal.returns-then-both-eq0
unfolding combine_words
returns-then-both-eq0 c S R p q =
    simp (ne_eqb _ _ c.if-left-eq0.false, ne_eqb _ _ c.if-right-eq0.false, eq-eqb _ _ c.if-both-eq0.true) at (shows-combine _ _ S R p q)

pub returns-else-both-eq0 : goal.returns-else-both-eq0
unfolding combine_words
returns-else-both-eq0 c S R p q =
    simp (ne_eqb _ _ c.if-left-eq0.false, ne_eqb _ _ c.if-right-eq0.false, ne_eqb _ _ c.if-both-eq0.false) at (shows-combine _ _ S R p q)
