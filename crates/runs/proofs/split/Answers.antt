-- `runs::split` meets its contract. The loop's invariant: the records before `from` stand below the key, those from `to` on do not; between the
-- two stand those that are not yet known, half of which each turn settles. Assumes nothing.
use Prim.Native.Nat.{◌+◌, ◌-◌, ◌/◌}
use native.Mathlib.Omega.{arith}
use Rattle.words.proofs.KeyLaws.{key_rises, key_under, key_over}
use Rattle.records.specs.Sized.{width_in}
use Rattle.runs.proofs.Records.{run_rises}
use Rattle.runs.proofs.split.Goals as goal

pub loop-from-init : goal.loop-from-init
loop-from-init c = (omega arith, omega arith, omega arith, λ k l h. absurd (omega arith), λ k l h. absurd (omega arith))

pub key_at-requires : goal.key_at-requires
key_at-requires c = (c.requires.size.0, omega arith)

pub loop-from-preserved-then-key_at-mid : goal.loop-from-preserved-then-key_at-mid
loop-from-preserved-then-key_at-mid c =
    let lp = c.loop-from in
    let at = c.key_at.ensures in
    let order = c.requires.ascending in
    let k = lp.from + (lp.to - lp.from) / 2 in (
      omega arith,
      omega arith,
      omega arith,
      λ i l h. let up = key_rises (width_in c.args.size) _ _ (run_rises c.args.size c.args.table.now c.args.lo c.args.hi i k order l (omega arith) (omega arith)) in omega arith,
      lp.invariant.4,
    )

pub loop-from-preserved : goal.loop-from-preserved
loop-from-preserved c =
    let lp = c.loop-from in
    let at = c.key_at.ensures in
    let order = c.requires.ascending in
    let k = lp.from + (lp.to - lp.from) / 2 in (
      omega arith,
      omega arith,
      omega arith,
      lp.invariant.3,
      λ i l h. let up = key_rises (width_in c.args.size) _ _ (run_rises c.args.size c.args.table.now c.args.lo c.args.hi k i order (omega arith) l h) in omega arith,
    )

pub returns : goal.returns
returns c a e =
    let lp = c.loop-from in
    let w = width_in c.args.size in
    record {
      low = omega arith;
      high = omega arith;
      below = λ k l h. key_under w _ a (rw e at (lp.invariant.3 k l h));
      above = λ k l h. key_over w a _ (rw e at (lp.invariant.4 k (omega arith) h));
    }
