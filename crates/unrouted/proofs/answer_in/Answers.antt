-- `answer_in` meets its contract: a right answer's text is the right reply's. Assumes nothing.
use mathlib.Core.Bool.{false}
use mathlib.Core.Path.{◌≡◌, sym, ap, ap₂, subst, ◌∙◌}
use mathlib.Core.List.{List}
use Prim.Native.Nat.{ℕ, ◌+◌, ◌*◌, ◌≤◌}
use native.Mathlib.Omega.{arith}
use lib.ListN.{length}
use Rattle.records.specs.declared.Form.{Form}
use Rattle.records.specs.Forms.{size_of}
use Rattle.std.specs.Prelude.{Result}
use Rattle.refusals.specs.declared.Refusal.{Refusal}
use Rattle.holes.specs.Listing.{listed_count, Lists}
use Rattle.holes.proofs.Calls.{unrouted-length}
use Rattle.text.specs.declared.Refused.{Refused}
use Rattle.text.specs.Answers.{as_said, records_said, listed_text}
use Rattle.text.proofs.Puts.{put_as}
use Rattle.text.proofs.Replies.{said_as, count_said, listed-text, listed-fits}
use Rattle.unrouted.specs.Printed.{printed_in}
use Rattle.unrouted.proofs.answer_in.Goals as goal

-- What the list asks of the buffers: its records stand in the output, and their text fits.
fits : (form : Form) (t o o' : List ℕ) (r : Result ℕ Refusal) {said : Result ℕ Refused} {size room : ℕ} → said ≡ as_said r → size ≡ size_of form → Lists form t o r o'
    → 3 * length o + 36 ≤ room → (size * records_said said ≤ length o') × (0 + 3 * (size * records_said said) + 36 ≤ room)
fits form t o o' r {said = said} s e ok le =
    let n : records_said said ≡ listed_count r = ap records_said s ∙ count_said r in
    let f = subst (λ (m : ℕ). m * records_said said ≤ length o') (sym e) (subst (λ (m : ℕ). size_of form * m ≤ length o') (sym n) (listed-fits form t o o' r ok)) in
    (f, omega (arith, f, unrouted-length form t o r o' ok))

-- Its text is that of the right reply.
as_text : (form : Form) (t o o' : List ℕ) (r : Result ℕ Refusal) {said : Result ℕ Refused} {size : ℕ} → said ≡ as_said r → size ≡ size_of form → Lists form t o r o'
    → listed_text size false false said o' ≡ printed_in form (length o) t
unfolding printed_in
as_text form t o o' r s e ok =
    ap₂ (λ (n : ℕ) (x : Result ℕ Refused). listed_text n false false x o') e s ∙ listed-text form t o o' false false r ok

pub put_listed-requires : goal.put_listed-requires
put_listed-requires c =
    let sized = c.size_of-size.ensures in
    let done = c.unrouted in
    let said = said_as _ _ c.map_err-answered.ensures.cases in
    let f = fits c.args.form c.args.table.now c.args.output.now _ _ said sized.value done.ensures c.requires in record { size = (sized.size, f.0); answer_in_bounds = f.1 }

pub returns : goal.returns
returns c =
    let sized = c.size_of-size.ensures.value in
    let done = c.unrouted in
    let said = said_as _ _ c.map_err-answered.ensures.cases in
    put_as (as_text c.args.form c.args.table.now c.args.output.now _ _ said sized done.ensures) c.put_listed.ensures
