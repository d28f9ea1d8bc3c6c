-- `hops::has` meets its contract. Assumes nothing.
use borrow.Author.Tests.{lt-ltb}
use Rattle.hops.proofs.SetLaws.{shows-has}
use Rattle.hops.proofs.has.Goals as goal

pub returns-then-h-lt-NO_HOP : goal.returns-then-h-lt-NO_HOP
returns-then-h-lt-NO_HOP c s p = simp (lt-ltb _ _ c.if-h-lt-NO_HOP.true) (shows-has _ s p _ c.if-h-lt-NO_HOP.true)
