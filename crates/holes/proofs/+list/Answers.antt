-- `holes::list`, which calls itself on the halves of a position, meets its contract, by falling bits below the position. What the left half has written
-- stands before the part of the output that is lent to the right half. Assumes nothing.
use Prim.Native.Nat.{◌+◌, ◌*◌, ◌≤◌}
use mathlib.Core.Path.{◌≡◌, sym, ap, ap₂, subst, ◌∙◌}
use native.Mathlib.Omega.{arith}
use mathlib.Core.List.{[], ◌∷◌}
use lib.ListN.{length, length-take, length-drop}
use borrow.Author.Rules.{rules}
use Rattle.records.specs.Sized.{route}
use Rattle.holes.specs.Holes.{address_in, holes_at}
use Rattle.holes.specs.Kinds.{Halves, KindOf}
use Rattle.holes.proofs.Output.{hole-laid, hole-room, none_laid, halves_size, left-size, left-room, both_few, halves_laid}
use Rattle.holes.proofs.Positions.{half_short, halves_count}
use Rattle.holes.proofs.+list.Goals as goal

pub kind_of-requires : goal.kind_of-requires
kind_of-requires t c = c.requires.position

pub write_sized-requires : goal.write_sized-requires
write_sized-requires t c =
    let hole : let a = c.args in holes_at a.size a.table.now a.lo a.hi a.len a.key ≡ route (address_in a.size a.key) a.len 0 ∷ [] = let a = c.args in subst (KindOf a.size a.table.now a.lo a.hi a.len a.key) c.in-Hole.is c.kind_of.ensures in
    (c.requires.position.sized, hole-room c.args.size _ _ hole c.requires.key_in_bounds)

pub overflow_add-len : goal.overflow_add-len
overflow_add-len t c =
    let halves : let a = c.args in let k = c.in-Parted in Halves a.size a.table.now a.lo a.hi a.len a.key k.right k.mid = let a = c.args in subst (KindOf a.size a.table.now a.lo a.hi a.len a.key) c.in-Parted.is c.kind_of.ensures in
    let short = half_short halves in search rules

pub list-left-requires : goal.list-left-requires
list-left-requires t c =
    let halves : let a = c.args in let k = c.in-Parted in Halves a.size a.table.now a.lo a.hi a.len a.key k.right k.mid = let a = c.args in subst (KindOf a.size a.table.now a.lo a.hi a.len a.key) c.in-Parted.is c.kind_of.ensures in
    let h = halves in
    (omega (arith, c.decreases, h.longer), (h.left_half, omega (arith, c.requires.key_in_bounds, halves_size h)))

pub overflow_mul-at : goal.overflow_mul-at
overflow_mul-at t c =
    let halves : let a = c.args in let k = c.in-Parted in Halves a.size a.table.now a.lo a.hi a.len a.key k.right k.mid = let a = c.args in subst (KindOf a.size a.table.now a.lo a.hi a.len a.key) c.in-Parted.is c.kind_of.ensures in
    let fits = left-size halves c.args.out.now c.requires.key_in_bounds c.list-left.ensures.value in
    search rules

pub overflow_add-len-in-Parted : goal.overflow_add-len-in-Parted
overflow_add-len-in-Parted t c =
    let halves : let a = c.args in let k = c.in-Parted in Halves a.size a.table.now a.lo a.hi a.len a.key k.right k.mid = let a = c.args in subst (KindOf a.size a.table.now a.lo a.hi a.len a.key) c.in-Parted.is c.kind_of.ensures in
    let short = half_short halves in search rules

pub slice_bounds-list-count : goal.slice_bounds-list-count
slice_bounds-list-count t c =
    let halves : let a = c.args in let k = c.in-Parted in Halves a.size a.table.now a.lo a.hi a.len a.key k.right k.mid = let a = c.args in subst (KindOf a.size a.table.now a.lo a.hi a.len a.key) c.in-Parted.is c.kind_of.ensures in
    let room : let a = c.args in let k = c.in-Parted in a.size * c.list-left.result + a.size * length (holes_at a.size a.table.now k.mid a.hi (a.len + 1) k.right) ≤ length c.list-left.new.out = left-room halves c.args.out.now c.requires.key_in_bounds c.list-left.ensures.value c.list-left.ensures.out_after in
    let fits = room in search rules

pub slice_bounds-list-start : goal.slice_bounds-list-start
slice_bounds-list-start t c =
    let halves : let a = c.args in let k = c.in-Parted in Halves a.size a.table.now a.lo a.hi a.len a.key k.right k.mid = let a = c.args in subst (KindOf a.size a.table.now a.lo a.hi a.len a.key) c.in-Parted.is c.kind_of.ensures in
    let room : let a = c.args in let k = c.in-Parted in a.size * c.list-left.result + a.size * length (holes_at a.size a.table.now k.mid a.hi (a.len + 1) k.right) ≤ length c.list-left.new.out = left-room halves c.args.out.now c.requires.key_in_bounds c.list-left.ensures.value c.list-left.ensures.out_after in
    let fits = room in search rules

pub slice_bounds-list-end : goal.slice_bounds-list-end
slice_bounds-list-end t c =
    let halves : let a = c.args in let k = c.in-Parted in Halves a.size a.table.now a.lo a.hi a.len a.key k.right k.mid = let a = c.args in subst (KindOf a.size a.table.now a.lo a.hi a.len a.key) c.in-Parted.is c.kind_of.ensures in
    let room : let a = c.args in let k = c.in-Parted in a.size * c.list-left.result + a.size * length (holes_at a.size a.table.now k.mid a.hi (a.len + 1) k.right) ≤ length c.list-left.new.out = left-room halves c.args.out.now c.requires.key_in_bounds c.list-left.ensures.value c.list-left.ensures.out_after in
    let fits = room in search rules

pub list-requires : goal.list-requires
list-requires t c =
    let halves : let a = c.args in let k = c.in-Parted in Halves a.size a.table.now a.lo a.hi a.len a.key k.right k.mid = let a = c.args in subst (KindOf a.size a.table.now a.lo a.hi a.len a.key) c.in-Parted.is c.kind_of.ensures in
    let room : let a = c.args in let k = c.in-Parted in a.size * c.list-left.result + a.size * length (holes_at a.size a.table.now k.mid a.hi (a.len + 1) k.right) ≤ length c.list-left.new.out = left-room halves c.args.out.now c.requires.key_in_bounds c.list-left.ensures.value c.list-left.ensures.out_after in
    let h = halves in
    let fits = room in
    (omega (arith, c.decreases, h.longer), (h.right_half, simp (length-take, length-drop) (omega arith)))

pub overflow_add-result : goal.overflow_add-result
overflow_add-result t c =
    let halves : let a = c.args in let k = c.in-Parted in Halves a.size a.table.now a.lo a.hi a.len a.key k.right k.mid = let a = c.args in subst (KindOf a.size a.table.now a.lo a.hi a.len a.key) c.in-Parted.is c.kind_of.ensures in
    let few =
    both_few halves c.args.out.now c.requires.key_in_bounds c.list-left.ensures.value c.list-left.ensures.out_after in
    let more = c.list.ensures.value in
    search rules

pub returns-in-Hole : goal.returns-in-Hole
returns-in-Hole t c =
    let hole : let a = c.args in holes_at a.size a.table.now a.lo a.hi a.len a.key ≡ route (address_in a.size a.key) a.len 0 ∷ [] = let a = c.args in subst (KindOf a.size a.table.now a.lo a.hi a.len a.key) c.in-Hole.is c.kind_of.ensures in
    let a = c.args in
    let one = hole in record { value = sym (ap length one); out_after = hole-laid a.size (route (address_in a.size a.key) a.len 0) a.out.now _ one c.write_sized.ensures }

pub returns-in-Routed : goal.returns-in-Routed
returns-in-Routed t c =
    let a = c.args in
    let none = subst (KindOf a.size a.table.now a.lo a.hi a.len a.key) c.in-Routed.is c.kind_of.ensures in record { value = sym (ap length none); out_after = none_laid a.size a.out.now none }

pub returns-in-Parted : goal.returns-in-Parted
returns-in-Parted t c =
    let halves : let a = c.args in let k = c.in-Parted in Halves a.size a.table.now a.lo a.hi a.len a.key k.right k.mid = let a = c.args in subst (KindOf a.size a.table.now a.lo a.hi a.len a.key) c.in-Parted.is c.kind_of.ensures in
    let h = halves in
    let right = c.list.ensures in record { value = ap₂ ◌+◌ c.list-left.ensures.value right.value ∙ sym (halves_count h); out_after = halves_laid h c.args.out.now c.requires.key_in_bounds c.list-left.ensures.value c.list-left.ensures.out_after right.out_after }
