-- `rewrite` refuses by the first rule that is broken, up to the table's, and leaves the rest to `rewrite_checked`. Assumes nothing.
use mathlib.Core.Path.{sym, ap, ◌∙◌}
use Prim.Native.Nat.{ℕ}
use native.Mathlib.Omega.{arith}
use Rattle.std.proofs.lemmas.Result.{err_from_is_err_and}
use Rattle.records.specs.Forms.{size_of}
use Rattle.table.specs.Checking.{check_reply_in}
use Rattle.table.proofs.SizedTables.{hops-below}
use Rattle.calls.specs.Rewriting.{takes_set}
use Rattle.calls.proofs.Ending.{refused_by, finished_by, finished_in, same_last, default_hop, checked_count, checked_lawful}
use Rattle.plain.proofs.Replies.{not_a_hop, not_a_ranking, not_a_table, only_output, named_by, had_known}
use Rattle.plain.proofs.Whole.{mode_had, mode_known, all_hopped, all_bare}
use Rattle.plain.proofs.rewrite.Goals as goal

pub returns-in_err-mode : goal.returns-in_err-mode
returns-in_err-mode c =
    let p = err_from_is_err_and c.from_residual.result c.from_residual.ensures.1 in
    rw (p.1, p.2) (refused_by _ _ _ _ _ _ _ (named_by _ _ _ _ _ _ _ c.in_err-mode.ensures))

pub returns-in_err-fill : goal.returns-in_err-fill
returns-in_err-fill c =
    let p = err_from_is_err_and c.from_residual-in_err-fill.result c.from_residual-in_err-fill.ensures.1 in
    let m = c.in_ok-mode.ensures in
    let had = had_known c.args.mode m.1 in
    let e = rw m.0 at c.in_err-fill.ensures in
    rw (p.1, p.2, e.0) (refused_by _ _ _ _ _ _ _ (not_a_hop _ _ _ _ _ _ had.0 had.1 e.1))

pub returns-in_err-check_ranks : goal.returns-in_err-check_ranks
returns-in_err-check_ranks c =
    let p = err_from_is_err_and c.from_residual-in_err-check_ranks.result c.from_residual-in_err-check_ranks.ensures.1 in
    let m = c.in_ok-mode.ensures in
    let had = had_known c.args.mode m.1 in
    let hop = rw m.0 at c.in_ok-fill.ensures in
    let e = rw m.0 at c.in_err-check_ranks.ensures in
    rw (p.1, p.2, e.0) (refused_by _ _ _ _ _ _ _ (not_a_ranking _ _ _ _ _ _ had.0 had.1 hop.0 e.1))

pub returns-in_err-records : goal.returns-in_err-records
returns-in_err-records c =
    let a = c.args in
    let p = err_from_is_err_and c.from_residual-in_err-records.result c.from_residual-in_err-records.ensures.1 in
    let m = c.in_ok-mode.ensures in
    let had = had_known a.mode m.1 in
    let hop = rw m.0 at c.in_ok-fill.ensures in
    let ranked = rw m.0 at c.in_ok-check_ranks.ensures in
    let refused = sym (rw (c.takes_set.ensures, m.0) at c.in_err-records.ensures) in
    let at_form = sym (ap (λ (n : ℕ). check_reply_in n a.form.strict (takes_set a.mode) a.table.now) c.size_of-size.ensures.value) ∙ refused in
    rw (p.1, p.2) (refused_by _ _ _ _ _ _ _ (not_a_table a.form _ _ _ _ _ had.0 had.1 hop.0 ranked at_form))

pub rewrite_checked-requires : goal.rewrite_checked-requires
rewrite_checked-requires c =
    let a = c.args in
    let m = c.in_ok-mode.ensures in
    let size = c.size_of-size.ensures in
    let valid = sym (rw (c.takes_set.ensures, m.0) at c.in_ok-records.ensures) in
    let at_form = sym (ap (λ (n : ℕ). check_reply_in n a.form.strict (takes_set a.mode) a.table.now) size.value) ∙ valid in
    let lawful = checked_lawful a.form (takes_set a.mode) a.table.now _ at_form (λ k. omega (arith, c.type_inv.table k)) in
    let filled = c.in_ok-fill.ensures in record {
      size = (size.size, rw m.0 m.1);
      table = rw (size.value, m.0) (lawful.table, (all_hopped (size_of a.form) a.table.now (hops-below (takes_set a.mode) lawful.hops), all_bare (size_of a.form) a.table.now lawful.hops));
      fills = record {
        hop = λ five. let small = default_hop _ a.default filled.0 five in omega (arith, filled.1 five);
        none = filled.2;
      };
      before_value = rw size.value (checked_count a.form (takes_set a.mode) a.table.now _ at_form);
    }

pub returns : goal.returns
returns c =
    let a = c.args in
    let m = c.in_ok-mode.ensures in
    let had = had_known a.mode m.1 in
    let hop = rw m.0 at c.in_ok-fill.ensures in
    let ranked = rw m.0 at c.in_ok-check_ranks.ensures in
    let size = c.size_of-size.ensures.value in
    let valid = sym (rw (c.takes_set.ensures, m.0) at c.in_ok-records.ensures) in
    let at_form = sym (ap (λ (n : ℕ). check_reply_in n a.form.strict (takes_set a.mode) a.table.now) size) ∙ valid in
    finished_by _ _ _ _ _ _ _
    (only_output a.form _ _ _ _ _ had.0 had.1 hop.0 ranked at_form
    ∙ same_last _ _ _ _ _ _ _ (mode_known (mode_had a.mode m.1)) (λ five. hop.1 five))
    (finished_in size (rw m.0 at c.rewrite_checked.ensures))
