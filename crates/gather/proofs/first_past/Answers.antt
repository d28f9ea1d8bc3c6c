-- `gather::first_past` meets its contract: none of the records before the first that stands past the address does. Assumes nothing.
use borrow.Author.Rules.{rules}
use Rattle.gather.proofs.first_past.Goals as goal

pub returns-then-size-eq8-clause-by_index : goal.returns-then-size-eq8-clause-by_index
returns-then-size-eq8-clause-by_index c k low h = let p = c.first_where.ensures.before k low h in search rules

pub returns-else-size-eq8-clause-by_index : goal.returns-else-size-eq8-clause-by_index
returns-else-size-eq8-clause-by_index c k low h = let p = c.first_where-else-size-eq8.ensures.before k low h in search rules
