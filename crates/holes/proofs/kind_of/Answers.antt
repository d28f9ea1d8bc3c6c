-- `holes::kind_of` meets its contract: each test leads to the kind that it stands for. Assumes nothing.
use Rattle.holes.proofs.Positions.{empty-hole, own-routed, half_fits, in_halves}
use Rattle.holes.proofs.kind_of.Goals as goal

pub returns-then-lo-hi : goal.returns-then-lo-hi
returns-then-lo-hi c = empty-hole c.requires c.if-lo-hi.true

pub past_own-requires : goal.past_own-requires
past_own-requires c = let p = c.requires in (p.sized, p.at.high)

pub returns-then-past_own-lo : goal.returns-then-past_own-lo
returns-then-past_own-lo c = own-routed c.requires c.past_own.ensures c.if-past_own-lo.true

pub right_half-right-requires : goal.right_half-right-requires
right_half-right-requires c =
    half_fits c.requires c.if-lo-hi.false c.past_own.ensures c.if-past_own-lo.false

pub split-mid-requires : goal.split-mid-requires
split-mid-requires c =
    let p = c.requires in record { size = (p.sized, p.at.low, p.at.high); ascending = p.at.lies.table.order }

pub returns : goal.returns
returns c =
    in_halves c.requires c.if-lo-hi.false
    c.past_own.ensures c.if-past_own-lo.false c.right_half-right.ensures c.split-mid.ensures
