-- `covers_in` refuses by the first rule that is broken, and else answers by the walk from the root, at wide addresses. Assumes nothing.
use Prim.Native.Nat.{ℕ, ◌-◌, ◌*◌, ◌%◌, ◌^◌, ◌≤◌}
use mathlib.Core.Path.{◌≡◌, sym, ap, ◌∙◌}
use mathlib.Core.Bool.{Bool, true}
use mathlib.Core.List.{List}
use native.Mathlib.Omega.{arith}
use borrow.Author.Rules.{rules}
use Rattle.std.proofs.lemmas.Result.{err_from_is_err_and}
use Rattle.theory.specs.Results.{start_of, throughout}
use Rattle.theory.specs.Routes.{held}
use Rattle.table.specs.Checking.{check_reply_in}
use Rattle.nodecount.specs.Nodes.{nodes}
use Rattle.refusals.specs.Rules.{gives}
use Rattle.records.specs.Sized.{width_in, routes_in, Bytes}
use Rattle.records.specs.declared.Form.{Form}
use Rattle.records.specs.Forms.{size_of}
use Rattle.records.proofs.SizedReading.{size-some, form_size}
use Rattle.nodes.specs.Node.{wide, spare, run}
use Rattle.calls.specs.Covering.{cover_reply}
use Rattle.calls.proofs.Ending.{checked_count, checked_lawful, checked_few}
use Rattle.aggregate.proofs.CallLaws.{at_form, checked_node, query_table, query_long, query_room, query_answered, query_aligned, query_within, covered-wide}
use Rattle.aggregate.proofs.covers_in.Goals as goal

-- The walk's answer is the reply.
replied : (form : Form) (t : List ℕ) (address len words k query : ℕ) {size : ℕ} {b : Bool} → size ≡ size_of form
    → check_reply_in (size_of form) form.strict true t ≡ gives k → Bytes t → len ≤ width_in size
    → 160 * nodes (width_in size) (routes_in size t) ≤ words → query ≡ start_of (width_in size - len) (address % 2 ^ width_in size) * 2 ^ spare size
    → b ≡ throughout (held wide (run size t 0 k)) (wide - len) query → gives b ≡ cover_reply form t address len words
replied form t address len words k query e valid bytes short room start walked =
    ap gives
    (walked ∙ rw (start, e, checked_count form true t k valid)
    (covered-wide (size_of form) (form_size form) t address len (rw e at short) (checked_lawful form true t k valid bytes).table.valid))
    ∙ sym (query_answered form t address len words valid (rw e at short) (rw e at room))

pub overflow_mul-size : goal.overflow_mul-size
overflow_mul-size c = record { fits = omega (arith, size-some _ c.size_of-size.ensures.size) }

pub returns-then-size-n : goal.returns-then-size-n
returns-then-size-n c =
    let args = c.args in
    let size = c.size_of-size.ensures in
    let valid = at_form args.form true args.table.now size.value (sym c.in_ok-records.ensures) in
    rw c.at.ensures (sym (query_long args.form _ _ _ _ valid (rw size.value at c.if-size-n.true)))

pub count_nodes-requires : goal.count_nodes-requires
count_nodes-requires c =
    let args = c.args in
    let size = c.size_of-size.ensures in
    let valid = at_form args.form true args.table.now size.value (sym c.in_ok-records.ensures) in
    (size.size, rw size.value (checked_lawful args.form true _ _ valid (λ k. omega (arith, c.type_inv.table k))).table)

pub returns-then-room-count_nodes : goal.returns-then-room-count_nodes
returns-then-room-count_nodes c =
    let args = c.args in
    let size = c.size_of-size.ensures in
    let valid = at_form args.form true args.table.now size.value (sym c.in_ok-records.ensures) in
    let short = c.if-room-count_nodes.true in
    let long = rw size.value at c.if-size-n.false in
    rw c.at-then-room-count_nodes.ensures (sym (query_room args.form _ _ _ _ valid (omega (arith, long)) (omega (arith, short, rw size.value at c.count_nodes.ensures))))

pub overflow_cast-records : goal.overflow_cast-records
overflow_cast-records c =
    let args = c.args in
    let size = c.size_of-size.ensures in
    let valid = at_form args.form true args.table.now size.value (sym c.in_ok-records.ensures) in
    let few = checked_few args.form true _ _ valid (λ k. omega (arith, c.type_inv.table k)) in
    search rules

pub covers_in_aggregate-requires : goal.covers_in_aggregate-requires
covers_in_aggregate-requires c =
    let args = c.args in
    let size = c.size_of-size.ensures in
    let valid = at_form args.form true args.table.now size.value (sym c.in_ok-records.ensures) in
    let query = c.half_query-query.ensures in
    let short = c.if-size-n.false in record { node = rw (size.value, checked_count args.form true _ _ valid) (checked_node args.form true _ _ valid (λ k. omega (arith, c.type_inv.table k))); depth_le_len = (omega arith, omega (arith, short)); aligned = rw query (query_aligned _ size.size args.table.now args.address args.len (omega (arith, short))); fact = (omega arith, rw query (query_within _ size.size args.table.now args.address args.len)) }

pub returns-in_err-records : goal.returns-in_err-records
returns-in_err-records c =
    let args = c.args in
    let p = err_from_is_err_and c.from_residual.result c.from_residual.ensures.1 in
    let refused = at_form args.form true args.table.now c.size_of-size.ensures.value (sym c.in_err-records.ensures) in
    rw (p.1, p.2) (sym (query_table args.form _ _ _ _ refused))

pub returns : goal.returns
returns c =
    let args = c.args in
    let size = c.size_of-size.ensures in
    let valid = at_form args.form true args.table.now size.value (sym c.in_ok-records.ensures) in
    replied args.form _ _ _ _ _ _ size.value valid (λ k. omega (arith, c.type_inv.table k)) (omega (arith, c.if-size-n.false))
    (omega (arith, c.count_nodes.ensures)) c.half_query-query.ensures c.covers_in_aggregate.ensures
