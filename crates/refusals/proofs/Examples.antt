-- Worked places in the order of the checks. Assumes nothing.
use mathlib.Core.Path.{refl}
use mathlib.Core.Logic.{inl, inr}
use native.Mathlib.Omega.{arith}
use Rattle.refusals.specs.Order.{rank, Earlier}

-- 8 of record 0 comes before 5 of record 1: 5 to 8 go record by record.
pub by_record : Earlier 8 0 5 1
unfolding rank
by_record = inr (refl, inl (omega arith))

-- Of one record the lowest number comes first.
pub by_number : Earlier 5 3 8 3
unfolding rank
by_number = inr (refl, inr (refl, omega arith))

-- The default is checked before the table, and the table before the rooms.
pub default_table_rooms : Earlier 2 0 3 0 × Earlier 8 1023 10 0 × Earlier 10 0 11 0
unfolding rank
default_table_rooms = (inl (omega arith), inl (omega arith), inl (omega arith))

-- A query's length is checked after the set, and before the room.
pub query_between : Earlier 8 0 9 0 × Earlier 9 0 10 0
unfolding rank
query_between = (inl (omega arith), inl (omega arith))
