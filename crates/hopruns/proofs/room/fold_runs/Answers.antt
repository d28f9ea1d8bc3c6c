-- `hopruns::room::fold_runs` meets its contract. The loop's invariant: for any runs that the fold is asked for, the places from b on are done.
-- Assumes nothing.
use Prim.Native.Nat.{suc, ◌-◌, ◌≤◌, ◌<◌}
use mathlib.Core.Path.{◌≡◌, refl, ◌∙◌}
use mathlib.Core.Bool.{cond}
use lib.Dec.{ltb}
use borrow.Author.Tests.{lt-ltb, le-ltb}
use native.Mathlib.Omega.{arith}
use lib.ListN.{length-set}
use Rattle.hopruns.proofs.Folding.{fold_start, turn, below_left, below_right, too_many, fold_may, fold_step, fold_within, fold_end}
use Rattle.hopruns.proofs.room.fold_runs.Goals as goal
use Rattle.hopruns.proofs.room.fold_runs.Goals.{then-b-holding+in_ok-rest, else-b-holding}

pub loop-b-init : goal.loop-b-init
loop-b-init c =
    let p = c.requires in
    (omega arith, p.1.starts, p.1.ends, λ runs m. fold_start runs _ _ _ _ _ _ m)

pub combined_size-size-requires : goal.combined_size-size-requires
combined_size-size-requires c =
    let l = c.loop-b in
    let m = c.requires.1 in
    let z : l.b ≡ suc (l.b - 1) = omega arith in
    let s = turn (l.invariant.3 _ m) z in record { run = (below_left m s).0; run_2 = (below_right m s).0 }

pub returns-in_err-rest : goal.returns-in_err-rest
returns-in_err-rest c =
    let l = c.loop-b in
    let z : l.b ≡ suc (l.b - 1) = omega arith in
    let b = l.b - 1 in
    let size = c.combined_size-size.result in
    let over : l.rest < cond (ltb b c.args.holding) size 0 = rw (lt-ltb b c.args.holding c.if-b-holding.true) (omega (arith, c.in_err-rest.ensures)) in
    rw c.from_residual.ensures (λ runs m. too_many m (turn (l.invariant.3 runs m) z) size c.combined_size-size.ensures over)

pub push-requires : goal.push-requires
push-requires c =
    let l = c.loop-b in
    let m = c.requires.1 in
    let z : l.b ≡ suc (l.b - 1) = omega arith in
    let fits : (c.if-b-holding.rest ≡ l.rest - cond (ltb (l.b - 1) c.args.holding) c.combined_size-size.result 0) × (cond (ltb (l.b - 1) c.args.holding) c.combined_size-size.result 0 ≤ l.rest) = elim c.if-b-holding.branch [
      | then-b-holding+in_ok-rest w ↦ rw (lt-ltb (l.b - 1) c.args.holding w.if-b-holding.true) (w.rest-is ∙ omega (arith, w.in_ok-rest.ensures), omega (arith, w.in_ok-rest.ensures))
      | else-b-holding w ↦ rw (le-ltb (l.b - 1) c.args.holding w.if-b-holding.false) (w.rest-is ∙ omega arith, omega arith)
    ] in
    fold_may m (turn (l.invariant.3 _ m) z) _ c.combined_size-size.ensures fits.1

pub loop-b-preserved : goal.loop-b-preserved
loop-b-preserved c =
    let l = c.loop-b in
    let z : l.b ≡ suc (l.b - 1) = omega arith in
    let fits : (c.if-b-holding.rest ≡ l.rest - cond (ltb (l.b - 1) c.args.holding) c.combined_size-size.result 0) × (cond (ltb (l.b - 1) c.args.holding) c.combined_size-size.result 0 ≤ l.rest) = elim c.if-b-holding.branch [
      | then-b-holding+in_ok-rest w ↦ rw (lt-ltb (l.b - 1) c.args.holding w.if-b-holding.true) (w.rest-is ∙ omega (arith, w.in_ok-rest.ensures), omega (arith, w.in_ok-rest.ensures))
      | else-b-holding w ↦ rw (le-ltb (l.b - 1) c.args.holding w.if-b-holding.false) (w.rest-is ∙ omega arith, omega arith)
    ] in (
      omega (arith, l.invariant.0),
      simp length-set l.invariant.1,
      simp length-set l.invariant.2,
      λ runs m. rw fits.0 (fold_step m (turn (l.invariant.3 runs m) z) _ _ _ _ c.combined_size-size.ensures refl fits.1 c.push.ensures),
    )

pub overflow_sub-at : goal.overflow_sub-at
overflow_sub-at c =
    let l = c.loop-b in
    let m = c.requires.1 in
    let z : l.b ≡ 0 = omega arith in
    let s = turn (l.invariant.3 _ m) z in
    omega (arith, s.room)

pub offset_bounds-work-at : goal.offset_bounds-work-at
offset_bounds-work-at c =
    let l = c.loop-b in
    let m = c.requires.1 in
    let z : l.b ≡ 0 = omega arith in
    let s = turn (l.invariant.3 _ m) z in
    omega (arith, fold_within m s)

pub bounds-work-at : goal.bounds-work-at
bounds-work-at c =
    let l = c.loop-b in
    let m = c.requires.1 in
    let z : l.b ≡ 0 = omega arith in
    let s = turn (l.invariant.3 _ m) z in
    omega (arith, s.room, fold_within m s)

pub returns : goal.returns
returns c =
    let l = c.loop-b in
    let z : l.b ≡ 0 = omega arith in
    λ runs m. fold_end m (turn (l.invariant.3 runs m) z)
