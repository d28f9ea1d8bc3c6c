-- `judge_prefix` judges a prefix by rules 5 and 6. Assumes nothing.
use mathlib.Core.Bool.{true, false}
use mathlib.Core.Path.{◌≡◌, sym, ◌∙◌}
use borrow.Author.Tests.{le-leb, lt-leb}
use Rattle.words.specs.Prefix.{host_clear}
use Rattle.refusals.specs.Rules.{judge}
use Rattle.live.proofs.judge_prefix.Goals as goal
use Rattle.live.proofs.judge_prefix.Goals.{else-form-via-then-form+else-not-host_bits_clear, else-form-via-else-form}

pub returns-then-len-gt32 : goal.returns-then-len-gt32
unfolding judge
returns-then-len-gt32 c = rw (c.at.ensures, lt-leb c.args.len 32 c.if-len-gt32.true)

pub returns-then-not-host_bits_clear : goal.returns-then-not-host_bits_clear
unfolding judge
returns-then-not-host_bits_clear c =
    let a = c.args in
    let h : host_clear 32 a.address a.len ≡ false = sym c.host_bits_clear.ensures ∙ c.if-not-host_bits_clear.true in
    rw (c.at-then-not-host_bits_clear.ensures, le-leb a.len 32 c.if-len-gt32.false, c.if-form.true, h)

pub returns : goal.returns
unfolding judge
returns c =
    let a = c.args in
    let short = le-leb a.len 32 c.if-len-gt32.false in
    elim c.else-form.branch [
      | else-form-via-then-form+else-not-host_bits_clear w ↦
          let h : host_clear 32 a.address a.len ≡ true = sym w.host_bits_clear.ensures ∙ w.if-not-host_bits_clear.false in rw (short, w.if-form.true, h)
      | else-form-via-else-form w ↦ rw (short, w.if-form.false)
    ]
