-- `text::put_record` meets its contract: the prefix, then the length and the rest of the line. Assumes nothing.
use mathlib.Core.Path.{ap, ◌∙◌}
use mathlib.Core.List.{[], ◌∷◌, ◌++◌, append_assoc}
use Prim.Native.Nat.{ℕ, ◌-◌, ◌/◌, ◌^◌}
use native.Mathlib.Nat.{mul-div_cancel}
use native.Mathlib.Omega.{arith}
use lib.Pow.{pow_pos}
use Rattle.records.specs.Sized.{width_in, route_in}
use Rattle.records.proofs.SizedReading.{size-some}
use Rattle.text.specs.Text.{address_in, line_in}
use Rattle.text.proofs.Puts.{put_as, put-length, put_then}
use Rattle.text.proofs.put_record.Goals as goal

pub put_ending-requires : goal.put_ending-requires
put_ending-requires c =
    let prefix = c.put_address-end.ensures in
    omega (arith, c.requires.size_in_bounds, prefix.upper_bound, (size-some c.args.size c.requires.size.0).0, put-length prefix.put)

pub returns : goal.returns
unfolding line_in
returns c =
    let prefix = c.put_address-end.ensures in
    let end = c.put_ending.ensures in
    let bits = 64 - width_in c.args.size in
    let address = ap (λ (k : ℕ). k / 2 ^ bits) c.key_at.ensures ∙ mul-div_cancel (route_in c.args.size c.args.table.now c.args.i).addr (pow_pos bits) in
    let shown = put_as (ap (λ (a : ℕ). address_in c.args.size c.args.style.hex a ++ (47 ∷ [])) address) prefix.put in
    rw (← c.length_at.ensures, ← c.hop_of.ensures)
    (record { put = put_as (simp append_assoc) (put_then shown end.put); upper_bound = omega (arith, prefix.upper_bound, end.upper_bound, (size-some c.args.size c.requires.size.0).0) })
