-- `write`, which calls itself on the halves of a position, meets its contract, by falling bits below the position. What the position and its left half have
-- written stands before the part of the output that is lent to the right half. Assumes nothing.
use Prim.Native.Nat.{suc, ◌+◌, ◌-◌, ◌^◌, ◌<◌}
use mathlib.Core.Path.{◌≡◌, refl, subst}
use mathlib.Core.List.{◌++◌}
use native.Mathlib.Omega.{arith}
use lib.ListN.{length}
use borrow.Author.Rules.{rules}
use Rattle.theory.specs.Results.{Cand}
use Rattle.plain.specs.Output.{Put}
use Rattle.words.specs.Keys.{key_of}
use Rattle.records.specs.Sized.{width_in}
use Rattle.records.proofs.SizedReading.{width_most}
use Rattle.plain.specs.Positions.{address_in, set_at, entry_at, entries_at, Halved, PartOf}
use Rattle.plain.proofs.Positions.{left-position, right-position}
use Rattle.plain.proofs.Whole.{records-few}
use Rattle.plain.proofs.Output.{put_then}
use Rattle.plain.proofs.Walk.{entries_uniform, entries_halves, entries_few, entries_count}
use Rattle.plain.proofs.+write.Goals as goal

pub set_of-set-requires : goal.set_of-set-requires
set_of-set-requires t c = c.requires

pub overflow_add-len : goal.overflow_add-len
overflow_add-len t c =
    let halves : let a = c.args in let k = c.in-Halves in (a.len < width_in a.size) × (k.right ≡ key_of (width_in a.size) (address_in a.size k.right)) × Halved a.size a.table.now a.lo a.hi a.cover (width_in a.size - (a.len + 1)) (address_in a.size a.key) k.hop k.first k.mid (address_in a.size k.right) = let a = c.args in subst (PartOf a.size a.table.now a.lo a.hi a.len a.key a.cover) c.in-Halves.is c.part_of.ensures in
    let small = width_most c.args.size c.requires.position.is_size in
    let lt = halves.0 in
    search rules

pub write-left-requires : goal.write-left-requires
write-left-requires t c =
    let halves : let a = c.args in let k = c.in-Halves in (a.len < width_in a.size) × (k.right ≡ key_of (width_in a.size) (address_in a.size k.right)) × Halved a.size a.table.now a.lo a.hi a.cover (width_in a.size - (a.len + 1)) (address_in a.size a.key) k.hop k.first k.mid (address_in a.size k.right) = let a = c.args in subst (PartOf a.size a.table.now a.lo a.hi a.len a.key a.cover) c.in-Halves.is c.part_of.ensures in
    let h = halves in
    (omega (arith, c.decreases, h.0), (left-position _ c.requires.position h.0 h.2, c.requires.hopped))

pub overflow_add-done : goal.overflow_add-done
overflow_add-done t c =
    let candidates : Cand = let a = c.args in set_at a.size a.table.now a.lo a.hi a.cover (width_in a.size - a.len) (address_in a.size a.key) in
    let halves : let a = c.args in let k = c.in-Halves in (a.len < width_in a.size) × (k.right ≡ key_of (width_in a.size) (address_in a.size k.right)) × Halved a.size a.table.now a.lo a.hi a.cover (width_in a.size - (a.len + 1)) (address_in a.size a.key) k.hop k.first k.mid (address_in a.size k.right) = let a = c.args in subst (PartOf a.size a.table.now a.lo a.hi a.len a.key a.cover) c.in-Halves.is c.part_of.ensures in
    let own : let a = c.args in Put a.size (entry_at a.ranks.now a.size candidates (width_in a.size - a.len) (address_in a.size a.key) a.above) c.write_entry-own.result a.out.now c.write_entry-own.new.out = c.write_entry-own.ensures candidates c.set_of-set.ensures in
    let few : let a = c.args in let k = c.in-Halves in c.write_entry-own.result + c.write-left.result + length (entries_at a.ranks.now a.size a.table.now k.mid a.hi k.hop (width_in a.size - (a.len + 1)) (address_in a.size k.right) c.assign-taken.result) < 2 ^ 62 = let a = c.args in let h = halves in let bits : width_in a.size - a.len ≡ suc (width_in a.size - (a.len + 1)) = omega (arith, h.0) in omega (arith, entries_few a.ranks.now a.cover a.above c.requires.position.is_run, c.requires.position.is_run.high, records-few a.size c.requires.position.is_size a.table.now, entries_count h.2 bits a.ranks.now a.above c.assign-taken.result (c.assign-taken.ensures.result_value candidates c.set_of-set.ensures), own.counted, c.write-left.ensures.counted) in
    let sum = few in omega arith

pub past_sized-at-requires-in-Halves : goal.past_sized-at-requires-in-Halves
past_sized-at-requires-in-Halves t c = c.requires.position.is_size

pub overflow_add-len-in-Halves : goal.overflow_add-len-in-Halves
overflow_add-len-in-Halves t c =
    let halves : let a = c.args in let k = c.in-Halves in (a.len < width_in a.size) × (k.right ≡ key_of (width_in a.size) (address_in a.size k.right)) × Halved a.size a.table.now a.lo a.hi a.cover (width_in a.size - (a.len + 1)) (address_in a.size a.key) k.hop k.first k.mid (address_in a.size k.right) = let a = c.args in subst (PartOf a.size a.table.now a.lo a.hi a.len a.key a.cover) c.in-Halves.is c.part_of.ensures in
    let small = width_most c.args.size c.requires.position.is_size in
    let lt = halves.0 in
    search rules

pub write-requires : goal.write-requires
write-requires t c =
    let halves : let a = c.args in let k = c.in-Halves in (a.len < width_in a.size) × (k.right ≡ key_of (width_in a.size) (address_in a.size k.right)) × Halved a.size a.table.now a.lo a.hi a.cover (width_in a.size - (a.len + 1)) (address_in a.size a.key) k.hop k.first k.mid (address_in a.size k.right) = let a = c.args in subst (PartOf a.size a.table.now a.lo a.hi a.len a.key a.cover) c.in-Halves.is c.part_of.ensures in
    let h = halves in
    (omega (arith, c.decreases, h.0), (right-position _ c.requires.position h.0 h.2 h.1, c.requires.hopped))

pub overflow_add-result : goal.overflow_add-result
overflow_add-result t c =
    let candidates : Cand = let a = c.args in set_at a.size a.table.now a.lo a.hi a.cover (width_in a.size - a.len) (address_in a.size a.key) in
    let halves : let a = c.args in let k = c.in-Halves in (a.len < width_in a.size) × (k.right ≡ key_of (width_in a.size) (address_in a.size k.right)) × Halved a.size a.table.now a.lo a.hi a.cover (width_in a.size - (a.len + 1)) (address_in a.size a.key) k.hop k.first k.mid (address_in a.size k.right) = let a = c.args in subst (PartOf a.size a.table.now a.lo a.hi a.len a.key a.cover) c.in-Halves.is c.part_of.ensures in
    let own : let a = c.args in Put a.size (entry_at a.ranks.now a.size candidates (width_in a.size - a.len) (address_in a.size a.key) a.above) c.write_entry-own.result a.out.now c.write_entry-own.new.out = c.write_entry-own.ensures candidates c.set_of-set.ensures in
    let few : let a = c.args in let k = c.in-Halves in c.write_entry-own.result + c.write-left.result + length (entries_at a.ranks.now a.size a.table.now k.mid a.hi k.hop (width_in a.size - (a.len + 1)) (address_in a.size k.right) c.assign-taken.result) < 2 ^ 62 = let a = c.args in let h = halves in let bits : width_in a.size - a.len ≡ suc (width_in a.size - (a.len + 1)) = omega (arith, h.0) in omega (arith, entries_few a.ranks.now a.cover a.above c.requires.position.is_run, c.requires.position.is_run.high, records-few a.size c.requires.position.is_size a.table.now, entries_count h.2 bits a.ranks.now a.above c.assign-taken.result (c.assign-taken.ensures.result_value candidates c.set_of-set.ensures), own.counted, c.write-left.ensures.counted) in
    let sum = few in
    let more = c.write.ensures.counted in
    omega arith

pub returns-in-Uniform : goal.returns-in-Uniform
returns-in-Uniform t c =
    let a = c.args in
    let S = set_at a.size a.table.now a.lo a.hi a.cover (width_in a.size - a.len) (address_in a.size a.key) in
    let one = subst (PartOf a.size a.table.now a.lo a.hi a.len a.key a.cover) c.in-Uniform.is c.part_of.ensures in
    rw (entries_uniform one a.ranks.now a.above) (c.write_entry-own.ensures S c.set_of-set.ensures)

pub returns-in-Halves : goal.returns-in-Halves
returns-in-Halves t c =
    let candidates : Cand = let a = c.args in set_at a.size a.table.now a.lo a.hi a.cover (width_in a.size - a.len) (address_in a.size a.key) in
    let halves : let a = c.args in let k = c.in-Halves in (a.len < width_in a.size) × (k.right ≡ key_of (width_in a.size) (address_in a.size k.right)) × Halved a.size a.table.now a.lo a.hi a.cover (width_in a.size - (a.len + 1)) (address_in a.size a.key) k.hop k.first k.mid (address_in a.size k.right) = let a = c.args in subst (PartOf a.size a.table.now a.lo a.hi a.len a.key a.cover) c.in-Halves.is c.part_of.ensures in
    let entries : let a = c.args in let k = c.in-Halves in entries_at a.ranks.now a.size a.table.now a.lo a.hi a.cover (width_in a.size - a.len) (address_in a.size a.key) a.above ≡ (entry_at a.ranks.now a.size candidates (width_in a.size - a.len) (address_in a.size a.key) a.above ++ entries_at a.ranks.now a.size a.table.now k.first k.mid k.hop (width_in a.size - (a.len + 1)) (address_in a.size a.key) c.assign-taken.result) ++ entries_at a.ranks.now a.size a.table.now k.mid a.hi k.hop (width_in a.size - (a.len + 1)) (address_in a.size k.right) c.assign-taken.result = let a = c.args in let h = halves in let bits : width_in a.size - a.len ≡ suc (width_in a.size - (a.len + 1)) = omega (arith, h.0) in entries_halves h.2 bits a.ranks.now a.above c.assign-taken.result (c.assign-taken.ensures.result_value candidates c.set_of-set.ensures) in
    let own : let a = c.args in Put a.size (entry_at a.ranks.now a.size candidates (width_in a.size - a.len) (address_in a.size a.key) a.above) c.write_entry-own.result a.out.now c.write_entry-own.new.out = c.write_entry-own.ensures candidates c.set_of-set.ensures in
    let is = c.requires.position.is_size in
    put_then is entries
    (put_then is refl own c.past_sized-at.ensures.value c.write-left.ensures)
    c.past_sized-at-in-Halves.ensures.value
    c.write.ensures
