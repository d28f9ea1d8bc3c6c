-- `write_entry` writes the entry that a position with the set gets. Assumes nothing.
use Prim.Native.Nat.{◌-◌}
use mathlib.Core.Path.{sym, ap, ◌∙◌}
use mathlib.Core.List.{[], ◌∷◌}
use Rattle.theory.proofs.Preserve.{back}
use Rattle.records.specs.Sized.{width_in, route}
use Rattle.plain.specs.Positions.{address_in}
use Rattle.plain.proofs.Output.{put_none, put_one}
use Rattle.plain.proofs.Walk.{entry-hole, entry-taken, entry-chosen}
use Rattle.plain.proofs.write_entry.Goals as goal

pub returns-then-set-eq-HOLE : goal.returns-then-set-eq-HOLE
returns-then-set-eq-HOLE c = λ S p. put_none _ (entry-hole _ _ _ _ c.args.above _ S p c.if-set-eq-HOLE.true)

pub returns-then-has : goal.returns-then-has
returns-then-has c = λ S p. put_none _ (entry-taken _ _ _ _ c.args.above _ S p c.if-set-eq-HOLE.false (λ s q. sym c.if-has.true ∙ c.has.ensures s q))

pub put_sized-requires : goal.put_sized-requires
put_sized-requires c = c.requires.0

pub returns : goal.returns
returns c = λ S p.
    let a = c.args in
    let least = c.lowest.ensures in
    put_one (route (address_in a.size a.key) a.len c.lowest.result) _ _
    (entry-chosen a.ranks.now a.size (width_in a.size - a.len) (address_in a.size a.key) a.above _ S _ p c.if-set-eq-HOLE.false
    (λ s q. sym c.if-has.false ∙ c.has.ensures s q) least.0
    ∙ ap (λ l. route (address_in a.size a.key) l c.lowest.result ∷ []) (back (width_in a.size) a.len c.requires.1))
    c.put_sized.ensures
