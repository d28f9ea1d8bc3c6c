-- `text::put_signed` meets its contract. Assumes nothing.
use mathlib.Core.Path.{ap, ◌∙◌}
use mathlib.Core.Bool.{true, false}
use native.Mathlib.Omega.{arith}
use lib.IntN.{nat_abs}
use mir.Syntax.{w64}
use mir.ValLaws.{to_z-of_z}
use Rattle.text.proofs.Numbers.{number_short}
use Rattle.text.proofs.Signs.{tested, negative, natural}
use Rattle.text.proofs.Puts.{put_as, put_then}
use Rattle.text.proofs.put_signed.Goals as goal

pub put_decimal-requires : goal.put_decimal-requires
put_decimal-requires c = omega (arith, c.requires, c.put_byte-begin.ensures.ends, number_short c.unsigned_abs.result c.unsigned_abs.type_inv)

pub put_decimal-requires-else-n-lt0 : goal.put_decimal-requires-else-n-lt0
put_decimal-requires-else-n-lt0 c = omega (arith, c.requires, number_short c.unsigned_abs-else-n-lt0.result c.unsigned_abs-else-n-lt0.type_inv)

pub returns-then-n-lt0 : goal.returns-then-n-lt0
returns-then-n-lt0 c =
    let sign = c.put_byte-begin.ensures in
    let number = c.put_decimal.ensures in
    let far = c.unsigned_abs in record {
      put = put_as
          (negative c.args.n far.result (tested c.args.n c.ranges.n true c.if-n-lt0.true) (far.ensures.value ∙ ap nat_abs (to_z-of_z w64 c.args.n c.ranges.n)))
          (put_then sign number);
      upper_bound = omega (arith, sign.ends, number.ends, number_short far.result far.type_inv);
    }

pub returns-else-n-lt0 : goal.returns-else-n-lt0
returns-else-n-lt0 c =
    let number = c.put_decimal-else-n-lt0.ensures in
    let far = c.unsigned_abs-else-n-lt0 in record {
      put = put_as
          (natural c.args.n far.result (tested c.args.n c.ranges.n false c.if-n-lt0.false) (far.ensures.value ∙ ap nat_abs (to_z-of_z w64 c.args.n c.ranges.n)))
          number;
      upper_bound = omega (arith, number.ends, number_short far.result far.type_inv);
    }
