-- `nodes::emit::emit_level` meets its contract. Assumes nothing.
use mathlib.Core.Path.{sym, ◌∙◌}
use native.Mathlib.Omega.{arith}
use Rattle.nodes.proofs.OutputLaws.{wrote_none, wrote_tail}
use Rattle.nodes.proofs.OutputLevels.{index_lt, head_apart, head_absent, head-entry}
use Rattle.nodes.proofs.emit.emit_level.Goals as goal

pub returns-then-c-below-ne0 : goal.returns-then-c-below-ne0
returns-then-c-below-ne0 c = record { upper_bound = omega arith; by_index = λ a half. rw (head_apart c.args.entries c.args.hops.now c.args.depth a c.args.c c.args.l c.requires.c_bound.1.0 c.if-c-below-ne0.true) (wrote_none c.requires.c_bound.1.1.1 _ _) }

pub has_bit-requires : goal.has_bit-requires
has_bit-requires c =
    let h = index_lt c.args.l c.args.c c.requires.c_bound.1.0 c.requires.c_bound.0 in
    omega arith

pub returns-then-not-has_bit : goal.returns-then-not-has_bit
returns-then-not-has_bit c =
    let clear = sym c.has_bit.ensures ∙ c.if-not-has_bit.true in record { upper_bound = omega arith; by_index = λ a half. rw (head_absent c.args.entries c.args.hops.now c.args.depth a c.args.c c.args.l c.requires.c_bound.1.0 c.if-c-below-ne0.false clear) (wrote_none c.requires.c_bound.1.1.1 _ _) }

pub bounds-hops-b : goal.bounds-hops-b
bounds-hops-b c =
    index_lt c.args.l c.args.c c.requires.c_bound.1.0 c.requires.c_bound.0

pub returns : goal.returns
returns c =
    let past = c.past_sized-at in
    let has = c.has_bit in
    let there = sym has.ensures ∙ c.if-not-has_bit.false in record { upper_bound = omega arith; by_index = λ a half. rw (head-entry c.args.entries c.args.hops.now c.args.depth a c.args.c c.args.l c.requires.c_bound.1.0 c.if-c-below-ne0.false there) (wrote_tail c.requires.c_bound.1.1.1 _ _ _ past.ensures.value past.ensures.upper_bound (c.put.ensures a half)) }
