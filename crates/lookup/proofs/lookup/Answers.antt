-- `lookup` replies with the longest match in an accepted table, and with the check's refusal of any other. Assumes nothing.
use mathlib.Core.Bool.{false}
use mathlib.Core.Path.{◌≡◌, sym, ap, ◌∙◌}
use mathlib.Core.List.{List}
use Prim.Native.Nat.{ℕ, ◌%◌, ◌^◌}
use Rattle.table.specs.SizedRules.{table_rules_in}
use Rattle.refusals.specs.Rules.{gives, judge}
use Rattle.std.proofs.lemmas.Result.{err_from_is_err_and}
use Rattle.refusals.proofs.Judged.{gives_any}
use Rattle.refusals.proofs.Replies.{passed_on}
use Rattle.records.specs.Sized.{width_in}
use Rattle.records.specs.Forms.{size_of}
use Rattle.records.specs.declared.Form.{Form}
use Rattle.lookup.specs.Calls.{match_in, lookup_reply}
use Rattle.lookup.proofs.lookup.Goals as goal

-- Judged at the size that `size_of` gives, the table is judged at the form's.
judged : (form : Form) (t : List ℕ) (x size : ℕ) → size ≡ size_of form → judge (table_rules_in size form.strict false t) (match_in size t x) ≡ lookup_reply form t x
judged form t x size e = ap (λ (n : ℕ). judge (table_rules_in n form.strict false t) (match_in n t x)) e

pub returns-in_err-check_sized : goal.returns-in_err-check_sized
returns-in_err-check_sized c =
    let a = c.args in
    let p = err_from_is_err_and c.from_residual.result c.from_residual.ensures.1 in
    rw (p.1, p.2)
    (passed_on _ _ _ _ c.in_err-check_sized.ensures ∙ judged a.form a.table.now a.address c.size_of-size.result c.size_of-size.ensures.value)

pub returns : goal.returns
returns c =
    let a = c.args in
    let size = c.size_of-size.result in
    ap gives (c.longest_in.ensures (a.address % 2 ^ width_in size) c.key_of.ensures)
    ∙ sym (gives_any _ _ _ _ (sym c.in_ok-check_sized.ensures))
    ∙ judged a.form a.table.now a.address size c.size_of-size.ensures.value
