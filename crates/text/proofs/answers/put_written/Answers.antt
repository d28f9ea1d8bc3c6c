-- `answers::put_written` meets its contract: the records are those of the output's part that is lent on. Assumes nothing.
use Prim.Native.Nat.{◌*◌}
use native.Mathlib.Omega.{arith}
use lib.ListN.{length-take}
use Rattle.text.proofs.answers.put_written.Goals as goal

pub slice_bounds-put_records-end : goal.slice_bounds-put_records-end
slice_bounds-put_records-end c =
    let room = c.requires.size.1 in
    simp length-take (omega arith)

pub put_records-requires : goal.put_records-requires
put_records-requires c =
    let pre = c.requires in record { size = pre.size.0; table_in_bounds = simp length-take (omega (arith, pre.size.1, pre.count_in_bounds)) }

pub returns : goal.returns
returns c =
    let put = c.put_records.ensures in
    let end = length-take (c.args.size * c.args.count) c.args.output.now in record { put = put.put; upper_bound = omega (arith, put.upper_bound, c.requires.size.1, end) }
