-- `gather::heap_index` meets its contract. Assumes nothing.
use Prim.Native.Nat.{ℕ, ◌-◌, ◌*◌, ◌/◌, ◌%◌, ◌^◌}
use mathlib.Core.Path.{◌∙◌, ap}
use native.Mathlib.Omega.{arith}
use lib.Pow.{pow_pos}
use Rattle.gather.proofs.Halves.{marked, slot_of, slot_small, index_up, index-small}
use Rattle.gather.proofs.GatherPlaces.{in_heap}
use Rattle.gather.proofs.heap_index.Goals as goal

pub returns : goal.returns
returns c =
    let a = c.args in
    let l = c.args.level in
    let y = a.addr * 2 ^ a.depth % 2 ^ 64 in
    let m = marked y l c.requires.1 in
    let small = index-small (y / 2 ^ 59) l (slot_small (a.addr * 2 ^ a.depth)) c.requires.1 in record {
      by_index = λ x at i.
          let e = ap (λ (s : ℕ). s / 2 ^ (5 - l)) (slot_of a.depth c.requires.0 a.addr x at i) ∙ index_up (a.addr * 2 - x) a.depth l in
          omega (arith, m, e, pow_pos l);
      upper_bound = omega (arith, m, in_heap l (y / 2 ^ 59 / 2 ^ (5 - l)) c.requires.1 small, pow_pos l);
    }
