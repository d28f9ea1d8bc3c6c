-- `take` replies by the rules in their order. Assumes nothing.
use native.Mathlib.Omega.{arith}
use Rattle.std.proofs.lemmas.Result.{err_from_is_err_and}
use Rattle.liveroom.proofs.Holding.{held-live, held_dead}
use Rattle.live.proofs.Replies.{prefix-short, takes_dead, takes_faulty, takes-past}
use Rattle.live.proofs.take.Goals as goal

pub returns-then-nodes_held-eq0 : goal.returns-then-nodes_held-eq0
returns-then-nodes_held-eq0 c =
    let a = c.args in
    rw c.at.ensures (takes_dead a.room.now a.form a.address a.len (held_dead a.room.now _ c.nodes_held.ensures c.if-nodes_held-eq0.true))

pub returns-in_err-judge_prefix : goal.returns-in_err-judge_prefix
returns-in_err-judge_prefix c =
    let a = c.args in
    let went = held-live a.room.now _ c.nodes_held.ensures c.if-nodes_held-eq0.false in
    let p = err_from_is_err_and c.from_residual.result c.from_residual.ensures.1 in
    rw (p.1, p.2) (takes_faulty a.room.now a.form a.address a.len went.0 _ c.in_err-judge_prefix.ensures)

pub overflow_cast-len : goal.overflow_cast-len
overflow_cast-len c =
    let a = c.args in
    let le = prefix-short a.form a.address a.len c.in_ok-judge_prefix.ensures in
    omega arith

pub take_kept-requires : goal.take_kept-requires
take_kept-requires c = (held-live c.args.room.now _ c.nodes_held.ensures c.if-nodes_held-eq0.false).0

pub returns : goal.returns
returns c =
    let a = c.args in
    let went = held-live a.room.now _ c.nodes_held.ensures c.if-nodes_held-eq0.false in
    takes-past a.room.now a.form a.address a.len went.0 c.in_ok-judge_prefix.ensures _ _ (rw c.masked.ensures at c.take_kept.ensures)
