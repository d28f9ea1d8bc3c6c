-- `hops::one` meets its contract. Assumes nothing.
use borrow.Author.Tests.{lt-ltb}
use Rattle.hops.proofs.SetLaws.{shows_one}
use Rattle.hops.proofs.one.Goals as goal

pub returns : goal.returns
returns c = simp (lt-ltb _ _ c.requires) (shows_one c.args.h c.requires, tt)
