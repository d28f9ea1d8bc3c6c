-- `work_words` replies with 160 words for each node of an accepted table, and with the check's refusal of any other. Assumes nothing.
use Prim.Native.Nat.{◌*◌}
use mathlib.Core.Path.{sym, ap, ◌∙◌}
use native.Mathlib.Omega.{arith}
use Rattle.table.specs.Checking.{checked_says}
use Rattle.refusals.specs.Rules.{gives}
use Rattle.refusals.proofs.Judged.{gives_any}
use Rattle.records.specs.Sized.{width_in}
use Rattle.records.proofs.SizedReading.{width_most}
use Rattle.nodecount.proofs.NodeCount.{nodes-most}
use Rattle.table.proofs.SizedTables.{in_accepted_table}
use Rattle.workroom.proofs.Refused.{judged}
use Rattle.workroom.proofs.work_words.Goals as goal

pub count_nodes-requires : goal.count_nodes-requires
count_nodes-requires c =
    let size = c.size_of-size in
    let a = c.args in (
      size.ensures.size,
      (in_accepted_table size.result size.ensures.size a.form.strict a.is_set a.table.now (λ k. omega (arith, c.type_inv.table k)) _ _
          (sym c.check_sized.ensures ∙ ap checked_says c.in-Ok.is)).0.table,
    )

pub overflow_mul-result : goal.overflow_mul-result
overflow_mul-result c =
    let size = c.size_of-size in
    let a = c.args in
    let lawful =
    (in_accepted_table size.result size.ensures.size a.form.strict a.is_set a.table.now (λ k. omega (arith, c.type_inv.table k)) _ _
    (sym c.check_sized.ensures ∙ ap checked_says c.in-Ok.is)).0 in
    let most = nodes-most (width_in size.result) lawful.table lawful.few in
    record { fits = omega (arith, c.count_nodes.ensures, width_most size.result size.ensures.size) }

pub returns-in-Ok : goal.returns-in-Ok
returns-in-Ok c =
    let size = c.size_of-size in
    let a = c.args in
    ap (λ n. gives (160 * n)) c.count_nodes.ensures
    ∙ sym (gives_any _ _ _ _ (sym c.check_sized.ensures ∙ ap checked_says c.in-Ok.is))
    ∙ judged a.form a.is_set a.table.now size.result size.ensures.value
