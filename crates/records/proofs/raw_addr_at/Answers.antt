-- `records::raw_addr_at` joins the four octets of record i. Assumes nothing.
use mathlib.Core.Path.{sym, ◌∙◌}
use Rattle.records.specs.Sized.{raw_in}
use Rattle.records.proofs.Numbers.{number_four}
use Rattle.records.proofs.raw_addr_at.Goals as goal

pub returns : goal.returns
unfolding raw_in
returns c = c.join4.ensures ∙ sym (number_four _ _)
