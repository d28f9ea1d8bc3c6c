-- `words::ladder::fold_children` meets its contract: the entries of the four bytes, one behind another, are the pairs of the slots.
-- Assumes nothing.
use Prim.Native.Nat.{◌/◌, ◌%◌, ◌^◌}
use native.Mathlib.Omega.{arith}
use Rattle.words.proofs.CardLaws.{one_byte, next-byte, slots_folded}
use Rattle.words.proofs.ladder.fold_children.Goals as goal

pub returns : goal.returns
returns c =
    let x = c.args.cc in
    let entry = c.fold_card-card.ensures.entry in
    let p1 = one_byte (omega arith) (entry (x / 2 ^ 24) (omega arith)) in
    let p2 = next-byte {x = x / 2 ^ 16} (omega arith) p1 (entry (x / 2 ^ 16 % 256) (omega arith)) in
    let p3 = next-byte {x = x / 2 ^ 8} (omega arith) p2 (entry (x / 2 ^ 8 % 256) (omega arith)) in
    let p4 = next-byte {x = x} (omega arith) p3 (entry (x % 256) (omega arith)) in
    slots_folded (omega arith) p4
