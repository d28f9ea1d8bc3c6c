-- `put` replies by the rules in their order. Assumes nothing.
use mathlib.Core.Bool.{true}
use mathlib.Core.Path.{◌≡◌}
use native.Mathlib.Omega.{arith}
use Rattle.std.proofs.lemmas.Result.{err_from_is_err_and}
use Rattle.records.specs.Sized.{route}
use Rattle.liveroom.specs.Rooms.{sound}
use Rattle.liveroom.proofs.Holding.{held-live, held_dead}
use Rattle.live.proofs.Replies.{prefix-short, masked-sound, puts_dead, puts_faulty, puts-hop, puts-past}
use Rattle.live.proofs.put.Goals as goal

pub returns-then-held-eq0 : goal.returns-then-held-eq0
returns-then-held-eq0 c =
    let a = c.args in
    rw c.at.ensures (puts_dead a.room.now a.form a.address a.len a.hop (held_dead a.room.now _ c.nodes_held-held.ensures c.if-held-eq0.true))

pub returns-in_err-judge_prefix : goal.returns-in_err-judge_prefix
returns-in_err-judge_prefix c =
    let a = c.args in
    let went = held-live a.room.now _ c.nodes_held-held.ensures c.if-held-eq0.false in
    let p = err_from_is_err_and c.from_residual.result c.from_residual.ensures.1 in
    rw (p.1, p.2) (puts_faulty a.room.now a.form a.address a.len a.hop went.0 _ c.in_err-judge_prefix.ensures)

pub returns-then-hop-gt63 : goal.returns-then-hop-gt63
returns-then-hop-gt63 c =
    let a = c.args in
    let went = held-live a.room.now _ c.nodes_held-held.ensures c.if-held-eq0.false in
    rw c.at-then-hop-gt63.ensures (puts-hop a.room.now a.form a.address a.len a.hop went.0 c.in_ok-judge_prefix.ensures c.if-hop-gt63.true)

pub overflow_cast-len : goal.overflow_cast-len
overflow_cast-len c =
    let a = c.args in
    let le = prefix-short a.form a.address a.len c.in_ok-judge_prefix.ensures in
    omega arith

pub put_kept-requires : goal.put_kept-requires
put_kept-requires c =
    let a = c.args in
    let went = held-live a.room.now _ c.nodes_held-held.ensures c.if-held-eq0.false in
    let le = prefix-short a.form a.address a.len c.in_ok-judge_prefix.ensures in
    let s : sound (route c.masked.result a.len a.hop) ≡ true = rw c.masked.ensures (masked-sound a.address a.len a.hop le c.if-hop-gt63.false) in
    (went.0, (went.1, s))

pub returns : goal.returns
returns c =
    let a = c.args in
    let went = held-live a.room.now _ c.nodes_held-held.ensures c.if-held-eq0.false in
    puts-past a.room.now a.form a.address a.len a.hop went.0 c.in_ok-judge_prefix.ensures c.if-hop-gt63.false _ _ (rw c.masked.ensures at c.put_kept.ensures)
