-- `text::put_records` meets its contract: after i turns the lines of the first i records are put. Assumes nothing.
use mathlib.Core.Path.{◌≡◌, sym, ap, ◌∙◌, subst}
use Prim.Native.Nat.{ℕ, ◌+◌, ◌*◌, ◌≤◌, ◌<◌}
use native.Mathlib.Nat.{mul-add, mul-one, mul-div-le}
use native.Mathlib.Omega.{arith}
use lib.ListN.{length}
use Rattle.records.specs.Sized.{records_in}
use Rattle.records.proofs.SizedReading.{size-some, record_fits}
use Rattle.text.proofs.Puts.{put_as, put-length, put_then}
use Rattle.text.proofs.Lines.{lines_none, lines_more, lines_all}
use Rattle.text.proofs.put_records.Goals as goal

next : (size i : ℕ) → size * (i + 1) ≡ size * i + size
next size i = mul-add size i 1 ∙ ap (λ (k : ℕ). size * i + k) (mul-one size)

pub nonzero_div-i-end : goal.nonzero_div-i-end
nonzero_div-i-end c = omega (arith, (size-some c.args.size c.requires.size).0)

pub loop-i-init : goal.loop-i-init
loop-i-init c = (omega arith, lines_none _ _ _ _ _ _ (omega arith))

pub put_record-end-requires : goal.put_record-end-requires
put_record-end-requires c =
    let inv = c.loop-i.invariant in
    let inside : c.loop-i.i < records_in c.args.size c.args.table.now = omega arith in record { size = (c.requires.size, inside); size_in_bounds = omega (arith, inv.0, put-length inv.1, record_fits c.args.size c.requires.size c.args.table.now c.loop-i.i inside, c.requires.table_in_bounds) }

pub loop-i-preserved : goal.loop-i-preserved
loop-i-preserved c =
    let i = c.loop-i.i in
    let inv = c.loop-i.invariant in
    let line = c.put_record-end.ensures in
    (omega (arith, inv.0, line.upper_bound, next c.args.size i), put_as (lines_more c.args.size c.args.style.hex c.args.style.hops c.args.table.now i) (put_then inv.1 line.put))

pub returns : goal.returns
returns c =
    let inv = c.loop-i.invariant in
    let all : c.loop-i.i ≡ records_in c.args.size c.args.table.now = omega (arith, c.loop-i.auto.i-end, c.loop-i-test.false) in
    let whole = subst (λ (k : ℕ). c.args.size * k ≤ length c.args.table.now) (sym all) (mul-div-le (length c.args.table.now) c.args.size) in record { put = put_as (lines_all c.args.size c.args.style.hex c.args.style.hops c.args.table.now c.loop-i.i all) inv.1; upper_bound = omega (arith, inv.0, whole) }
