-- `records::size_of` gives the bytes of a record. Assumes nothing.
use mathlib.Core.Path.{refl}
use mathlib.Core.Logic.{inl, inr}
use Rattle.records.proofs.size_of.Goals as goal

pub returns-then-form : goal.returns-then-form
returns-then-form c = record { value = rw c.if-form.true; size = inr refl }

pub returns-else-form : goal.returns-else-form
returns-else-form c = record { value = rw c.if-form.false; size = inl refl }
