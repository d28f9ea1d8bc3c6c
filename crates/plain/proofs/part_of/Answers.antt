-- `part_of` meets its contract: the one test leads to one answer or to two halves. Assumes nothing.
use native.Mathlib.Omega.{arith}
use Rattle.records.specs.Sized.{width_in}
use Rattle.records.proofs.SizedReading.{width_most}
use Rattle.plain.specs.Positions.{address_in}
use Rattle.plain.proofs.Positions.{first-high, first_ascending, has_halves, one_answered, in_halved, end_fits}
use Rattle.plain.proofs.part_of.Goals as goal

pub past_own-first-requires : goal.past_own-first-requires
past_own-first-requires c = let at = c.requires.position in (at.is_size, at.is_run.high)

pub own_or-hop-requires : goal.own_or-hop-requires
own_or-hop-requires c =
    let at = c.requires.position in
    (at.is_size, omega (arith, first-high at c.past_own-first.ensures, at.is_run.high))

pub returns-then-first-hi : goal.returns-then-first-hi
returns-then-first-hi c =
    let pre = c.requires in
    one_answered pre.position c.past_own-first.ensures pre.hopped c.own_or-hop.ensures c.if-first-hi.true

pub right_half-right-requires : goal.right_half-right-requires
right_half-right-requires c =
    let at = c.requires.position in
    let a = c.args in
    (omega (arith, width_most a.size at.is_size, has_halves at c.past_own-first.ensures c.if-first-hi.false), end_fits at)

pub split-mid-requires : goal.split-mid-requires
split-mid-requires c =
    let at = c.requires.position in
    let past = c.past_own-first.ensures in record { size = (at.is_size, first-high at past, at.is_run.high); ascending = first_ascending at past }

pub returns : goal.returns
returns c =
    let a = c.args in
    let at = c.requires.position in
    let past = c.past_own-first.ensures in
    let other = c.if-first-hi.false in
    in_halved at past c.requires.hopped c.own_or-hop.ensures other
    (c.right_half-right.ensures (width_in a.size) (address_in a.size a.key) (width_most a.size at.is_size) (has_halves at past other) at.exact)
    c.split-mid.ensures
