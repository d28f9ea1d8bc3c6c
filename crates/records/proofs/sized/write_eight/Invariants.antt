-- The bytes up to the loop's stand in their places.
use Rattle.std.proofs.Common.{◌≡◌, ◌+◌, ◌++◌, take, drop}
use Rattle.records.proofs.sized.write_eight.Given as goal

abbrev pub invariant-loop-j : goal.invariant-loop-j
invariant-loop-j l = l.out ≡ take l.k l.fn.out ++ (take l.j l.fn.bytes ++ drop (l.k + l.j) l.fn.out)
