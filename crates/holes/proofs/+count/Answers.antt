-- `holes::count`, which calls itself on the halves of a position, meets its contract, by falling bits below the position. Assumes nothing.
use Prim.Native.Nat.{◌+◌}
use mathlib.Core.Path.{sym, ap, ap₂, subst, ◌∙◌}
use native.Mathlib.Omega.{arith}
use lib.ListN.{length}
use borrow.Author.Rules.{rules}
use Rattle.holes.specs.Kinds.{Halves, KindOf}
use Rattle.holes.proofs.Most.{holes-few}
use Rattle.holes.proofs.Positions.{half_short, halves_count}
use Rattle.holes.proofs.+count.Goals as goal

pub kind_of-requires : goal.kind_of-requires
kind_of-requires t c = c.requires.position

pub overflow_add-len : goal.overflow_add-len
overflow_add-len t c =
    let halves : let a = c.args in let k = c.in-Parted in Halves a.size a.table.now a.lo a.hi a.len a.key k.right k.mid = let a = c.args in subst (KindOf a.size a.table.now a.lo a.hi a.len a.key) c.in-Parted.is c.kind_of.ensures in
    let short = half_short halves in search rules

pub count-left-requires : goal.count-left-requires
count-left-requires t c =
    let halves : let a = c.args in let k = c.in-Parted in Halves a.size a.table.now a.lo a.hi a.len a.key k.right k.mid = let a = c.args in subst (KindOf a.size a.table.now a.lo a.hi a.len a.key) c.in-Parted.is c.kind_of.ensures in
    let h = halves in
    (omega (arith, c.decreases, h.longer), (h.left_half, omega (arith, h.right_half.at.low, c.requires.hi_bound)))

pub overflow_add-len-in-Parted : goal.overflow_add-len-in-Parted
overflow_add-len-in-Parted t c =
    let halves : let a = c.args in let k = c.in-Parted in Halves a.size a.table.now a.lo a.hi a.len a.key k.right k.mid = let a = c.args in subst (KindOf a.size a.table.now a.lo a.hi a.len a.key) c.in-Parted.is c.kind_of.ensures in
    let short = half_short halves in search rules

pub count-requires : goal.count-requires
count-requires t c =
    let halves : let a = c.args in let k = c.in-Parted in Halves a.size a.table.now a.lo a.hi a.len a.key k.right k.mid = let a = c.args in subst (KindOf a.size a.table.now a.lo a.hi a.len a.key) c.in-Parted.is c.kind_of.ensures in
    let h = halves in
    (omega (arith, c.decreases, h.longer), (h.right_half, c.requires.hi_bound))

pub overflow_add-result : goal.overflow_add-result
overflow_add-result t c =
    let halves : let a = c.args in let k = c.in-Parted in Halves a.size a.table.now a.lo a.hi a.len a.key k.right k.mid = let a = c.args in subst (KindOf a.size a.table.now a.lo a.hi a.len a.key) c.in-Parted.is c.kind_of.ensures in
    let sum = halves_count halves in
    let few = holes-few c.requires.position c.requires.hi_bound in
    omega (arith, c.count-left.ensures, c.count.ensures)

pub returns-in-Hole : goal.returns-in-Hole
returns-in-Hole t c =
    let a = c.args in
    sym (ap length (subst (KindOf a.size a.table.now a.lo a.hi a.len a.key) c.in-Hole.is c.kind_of.ensures))

pub returns-in-Routed : goal.returns-in-Routed
returns-in-Routed t c =
    let a = c.args in
    sym (ap length (subst (KindOf a.size a.table.now a.lo a.hi a.len a.key) c.in-Routed.is c.kind_of.ensures))

pub returns-in-Parted : goal.returns-in-Parted
returns-in-Parted t c =
    let halves : let a = c.args in let k = c.in-Parted in Halves a.size a.table.now a.lo a.hi a.len a.key k.right k.mid = let a = c.args in subst (KindOf a.size a.table.now a.lo a.hi a.len a.key) c.in-Parted.is c.kind_of.ensures in
    ap₂ ◌+◌ c.count-left.ensures c.count.ensures ∙ sym (halves_count halves)
