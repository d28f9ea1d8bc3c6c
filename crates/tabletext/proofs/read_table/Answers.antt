-- `tabletext::read_table` meets its contract. Assumes nothing.
use Rattle.tabletext.proofs.Writing.{room-narrow, room-short, room_enough}
use Rattle.tabletext.proofs.read_table.Goals as goal
use Rattle.tabletext.proofs.read_table.Goals.{then-out-lt8192-via-then-out-lt8192, then-out-lt8192-via-else-out-lt8192+then-lines-lt1024}

pub returns-then-out-lt8192 : goal.returns-then-out-lt8192
returns-then-out-lt8192 c =
    elim c.then-out-lt8192.branch [
      | then-out-lt8192-via-then-out-lt8192 w ↦ room-narrow _ _ _ _ w.if-out-lt8192.true
      | then-out-lt8192-via-else-out-lt8192+then-lines-lt1024 w ↦ room-short _ _ _ _ w.if-out-lt8192.false w.if-lines-lt1024.true
    ]

pub returns : goal.returns
returns c = room_enough _ _ _ _ c.if-out-lt8192.false c.if-lines-lt1024.false c.unmarked.ensures c.read_lines.ensures
