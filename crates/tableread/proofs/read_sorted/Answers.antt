-- `tableread::read_sorted` meets its contract. Assumes nothing.
use native.Mathlib.Omega.{arith}
use Rattle.tableread.proofs.AnyOrder.{room_of}
use Rattle.tableread.proofs.read_sorted.Goals as goal

pub sort_rows-requires : goal.sort_rows-requires
sort_rows-requires c = let room = room_of c.args.hops c.args.text.now c.read_table.ensures _ c.in_ok-n.was in (omega arith, omega arith)
