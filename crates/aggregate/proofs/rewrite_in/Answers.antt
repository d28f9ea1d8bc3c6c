-- `rewrite_in` refuses by the first rule that is broken, up to the room's, and leaves the rest to `rewrite_checked`. Assumes nothing.
use Prim.Native.Nat.{◌*◌, ◌≤◌}
use mathlib.Core.Path.{sym, ◌∙◌}
use native.Mathlib.Omega.{arith}
use lib.ListN.{length}
use Rattle.calls.proofs.Modes.{number-known, number-used}
use Rattle.std.proofs.lemmas.Result.{err_from_is_err_and}
use Rattle.nodecount.specs.Nodes.{nodes}
use Rattle.records.specs.Sized.{width_in, routes_in}
use Rattle.records.specs.Forms.{size_of}
use Rattle.records.proofs.SizedReading.{form_size}
use Rattle.nodes.proofs.RoomNodes.{nodes-below}
use Rattle.calls.specs.Rewriting.{takes_set}
use Rattle.calls.proofs.Ending.{default_hop, checked_count, checked_lawful, refused_by, finished_by, finished_in, same_last}
use Rattle.aggregate.proofs.CallLaws.{at_form, ready, not_a_hop, not_a_ranking, not_a_table, short_room, only_output, named_by}
use Rattle.aggregate.proofs.rewrite_in.Goals as goal

pub returns-in_err-mode : goal.returns-in_err-mode
returns-in_err-mode c =
    let p = err_from_is_err_and c.from_residual.result c.from_residual.ensures.1 in
    rw (p.1, p.2) (refused_by _ _ _ _ _ _ _ (named_by _ _ _ _ _ _ _ _ c.in_err-mode.ensures))

pub returns-in_err-fill : goal.returns-in_err-fill
returns-in_err-fill c =
    let p = err_from_is_err_and c.from_residual-in_err-fill.result c.from_residual-in_err-fill.ensures.1 in
    let m = c.in_ok-mode.ensures in
    let e = rw m at c.in_err-fill.ensures in
    rw (p.1, p.2, e.0) (refused_by _ _ _ _ _ _ _ (not_a_hop _ _ _ _ _ _ _ (rw m at (number-known c.in_ok-mode.mode)) (rw m at (number-used c.in_ok-mode.mode)).2 e.1))

pub returns-in_err-check_ranks : goal.returns-in_err-check_ranks
returns-in_err-check_ranks c =
    let p = err_from_is_err_and c.from_residual-in_err-check_ranks.result c.from_residual-in_err-check_ranks.ensures.1 in
    let m = c.in_ok-mode.ensures in
    let is = rw m at (number-known c.in_ok-mode.mode) in
    let used = rw m at (number-used c.in_ok-mode.mode) in
    let hop = rw m at c.in_ok-fill.ensures in
    let e = rw m at c.in_err-check_ranks.ensures in
    rw (p.1, p.2, e.0) (refused_by _ _ _ _ _ _ _ (not_a_ranking _ _ _ _ _ _ _ is used.2 hop.0 e.1))

pub returns-in_err-records : goal.returns-in_err-records
returns-in_err-records c =
    let args = c.args in
    let p = err_from_is_err_and c.from_residual-in_err-records.result c.from_residual-in_err-records.ensures.1 in
    let m = c.in_ok-mode.ensures in
    let is = rw m at (number-known c.in_ok-mode.mode) in
    let used = rw m at (number-used c.in_ok-mode.mode) in
    let hop = rw m at c.in_ok-fill.ensures in
    let ranked = rw m at c.in_ok-check_ranks.ensures in
    let refused = at_form args.form (takes_set args.mode) args.table.now c.size_of-size.ensures.value (sym (rw (c.takes_set.ensures, m) at c.in_err-records.ensures)) in
    rw (p.1, p.2) (refused_by _ _ _ _ _ _ _ (not_a_table args.form _ _ _ _ _ _ is used.2 hop.0 ranked refused))

pub count_nodes-requires : goal.count_nodes-requires
count_nodes-requires c =
    let args = c.args in
    let size = c.size_of-size.ensures in
    let m = c.in_ok-mode.ensures in
    let valid = at_form args.form (takes_set args.mode) args.table.now size.value (sym (rw (c.takes_set.ensures, m) at c.in_ok-records.ensures)) in
    let lawful = checked_lawful args.form _ _ _ valid (λ k. omega (arith, c.type_inv.table k)) in
    (size.size, rw size.value lawful.table)

pub returns-then-work-count_nodes : goal.returns-then-work-count_nodes
returns-then-work-count_nodes c =
    let args = c.args in
    let size = c.size_of-size.ensures.value in
    let m = c.in_ok-mode.ensures in
    let is = rw m at (number-known c.in_ok-mode.mode) in
    let used = rw m at (number-used c.in_ok-mode.mode) in
    let hop = rw m at c.in_ok-fill.ensures in
    let ranked = rw m at c.in_ok-check_ranks.ensures in
    let valid = at_form args.form (takes_set args.mode) args.table.now size (sym (rw (c.takes_set.ensures, m) at c.in_ok-records.ensures)) in
    let count = rw size at c.count_nodes.ensures in
    let short = c.if-work-count_nodes.true in
    rw c.at.ensures (refused_by _ _ _ _ _ _ _ (short_room args.form _ _ _ _ _ _ is used.2 hop.0 ranked valid (omega (arith, count, short))))

pub rewrite_checked-requires : goal.rewrite_checked-requires
rewrite_checked-requires c =
    let args = c.args in
    let size = c.size_of-size.ensures in
    let m = c.in_ok-mode.ensures in
    let valid = at_form args.form (takes_set args.mode) args.table.now size.value (sym (rw (c.takes_set.ensures, m) at c.in_ok-records.ensures)) in
    let lawful = checked_lawful args.form (takes_set args.mode) args.table.now _ valid (λ k. omega (arith, c.type_inv.table k)) in
    let filled = c.in_ok-fill.ensures in
    let count = rw size.value at c.count_nodes.ensures in
    let long = c.if-work-count_nodes.false in
    let form = form_size args.form in record {
      size = (size.size, rw size.value lawful.table);
      ready = rw (size.value, m) (ready (size_of args.form) form args.mode args.table.now lawful);
      fills = record {
        hop = λ five. let small = default_hop _ args.default filled.0 five in omega (arith, filled.1 five);
        none = filled.2;
      };
      before_value = rw size.value (checked_count args.form _ _ _ valid);
      table_in_bounds = rw (size.value, nodes-below (size_of args.form) args.table.now form lawful.table.valid) (omega (arith, count, long));
    }

pub returns : goal.returns
returns c =
    let args = c.args in
    let size = c.size_of-size.ensures.value in
    let m = c.in_ok-mode.ensures in
    let is = rw m at (number-known c.in_ok-mode.mode) in
    let used = rw m at (number-used c.in_ok-mode.mode) in
    let hop = rw m at c.in_ok-fill.ensures in
    let ranked = rw m at c.in_ok-check_ranks.ensures in
    let valid = at_form args.form (takes_set args.mode) args.table.now size (sym (rw (c.takes_set.ensures, m) at c.in_ok-records.ensures)) in
    let count = rw size at c.count_nodes.ensures in
    let long = c.if-work-count_nodes.false in
    let room : 160 * nodes (width_in (size_of args.form)) (routes_in (size_of args.form) args.table.now) ≤ length args.work.now = omega (arith, count, long) in
    finished_by _ _ _ _ _ _ _
    (only_output args.form _ _ _ _ _ _ is used.2 hop.0 ranked valid room ∙ same_last _ _ _ _ _ _ _ used (λ five. hop.1 five))
    (finished_in size (rw m at c.rewrite_checked.ensures))
