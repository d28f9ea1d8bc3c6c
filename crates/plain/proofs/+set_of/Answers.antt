-- `set_of`, which calls itself on the halves of a position, meets its contract, by falling bits below the position. Assumes nothing.
use Prim.Native.Nat.{suc, ◌+◌, ◌-◌, ◌<◌}
use mathlib.Core.Path.{◌≡◌, subst}
use native.Mathlib.Omega.{arith}
use borrow.Author.Rules.{rules}
use Rattle.words.specs.Keys.{key_of}
use Rattle.records.specs.Sized.{width_in}
use Rattle.records.proofs.SizedReading.{width_most}
use Rattle.plain.specs.Positions.{address_in, set_at, Halved, PartOf}
use Rattle.plain.proofs.Positions.{left-position, right-position}
use Rattle.plain.proofs.Walk.{set_uniform, set_halves}
use Rattle.plain.proofs.+set_of.Goals as goal

pub part_of-requires : goal.part_of-requires
part_of-requires t c = c.requires

pub overflow_add-len : goal.overflow_add-len
overflow_add-len t c =
    let halves : let a = c.args in let k = c.in-Halves in (a.len < width_in a.size) × (k.right ≡ key_of (width_in a.size) (address_in a.size k.right)) × Halved a.size a.table.now a.lo a.hi a.cover (width_in a.size - (a.len + 1)) (address_in a.size a.key) k.hop k.first k.mid (address_in a.size k.right) = let a = c.args in subst (PartOf a.size a.table.now a.lo a.hi a.len a.key a.cover) c.in-Halves.is c.part_of.ensures in
    let small = width_most c.args.size c.requires.position.is_size in
    let lt = halves.0 in
    search rules

pub set_of-left-requires : goal.set_of-left-requires
set_of-left-requires t c =
    let halves : let a = c.args in let k = c.in-Halves in (a.len < width_in a.size) × (k.right ≡ key_of (width_in a.size) (address_in a.size k.right)) × Halved a.size a.table.now a.lo a.hi a.cover (width_in a.size - (a.len + 1)) (address_in a.size a.key) k.hop k.first k.mid (address_in a.size k.right) = let a = c.args in subst (PartOf a.size a.table.now a.lo a.hi a.len a.key a.cover) c.in-Halves.is c.part_of.ensures in
    let h = halves in
    (omega (arith, c.decreases, h.0), (left-position _ c.requires.position h.0 h.2, c.requires.hopped))

pub overflow_add-len-in-Halves : goal.overflow_add-len-in-Halves
overflow_add-len-in-Halves t c =
    let halves : let a = c.args in let k = c.in-Halves in (a.len < width_in a.size) × (k.right ≡ key_of (width_in a.size) (address_in a.size k.right)) × Halved a.size a.table.now a.lo a.hi a.cover (width_in a.size - (a.len + 1)) (address_in a.size a.key) k.hop k.first k.mid (address_in a.size k.right) = let a = c.args in subst (PartOf a.size a.table.now a.lo a.hi a.len a.key a.cover) c.in-Halves.is c.part_of.ensures in
    let small = width_most c.args.size c.requires.position.is_size in
    let lt = halves.0 in
    search rules

pub set_of-requires : goal.set_of-requires
set_of-requires t c =
    let halves : let a = c.args in let k = c.in-Halves in (a.len < width_in a.size) × (k.right ≡ key_of (width_in a.size) (address_in a.size k.right)) × Halved a.size a.table.now a.lo a.hi a.cover (width_in a.size - (a.len + 1)) (address_in a.size a.key) k.hop k.first k.mid (address_in a.size k.right) = let a = c.args in subst (PartOf a.size a.table.now a.lo a.hi a.len a.key a.cover) c.in-Halves.is c.part_of.ensures in
    let h = halves in
    (omega (arith, c.decreases, h.0), (right-position _ c.requires.position h.0 h.2 h.1, c.requires.hopped))

pub returns-in-Uniform : goal.returns-in-Uniform
returns-in-Uniform t c =
    let a = c.args in
    let one = subst (PartOf a.size a.table.now a.lo a.hi a.len a.key a.cover) c.in-Uniform.is
    c.part_of.ensures in
    rw (set_uniform one) c.alone.ensures

pub returns-in-Halves : goal.returns-in-Halves
returns-in-Halves t c =
    let halves : let a = c.args in let k = c.in-Halves in (a.len < width_in a.size) × (k.right ≡ key_of (width_in a.size) (address_in a.size k.right)) × Halved a.size a.table.now a.lo a.hi a.cover (width_in a.size - (a.len + 1)) (address_in a.size a.key) k.hop k.first k.mid (address_in a.size k.right) = let a = c.args in subst (PartOf a.size a.table.now a.lo a.hi a.len a.key a.cover) c.in-Halves.is c.part_of.ensures in
    let h = halves in
    let a = c.args in
    let k = c.in-Halves in
    let bits : width_in a.size - a.len ≡ suc (width_in a.size - (a.len + 1)) = omega (arith, h.0) in
    rw (set_halves h.2 bits)
    (c.combine.ensures
    (set_at a.size a.table.now k.first k.mid k.hop (width_in a.size - (a.len + 1)) (address_in a.size a.key))
    (set_at a.size a.table.now k.mid a.hi k.hop (width_in a.size - (a.len + 1)) (address_in a.size k.right))
    c.set_of-left.ensures c.set_of.ensures)
