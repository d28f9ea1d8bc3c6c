-- `hopruns::combining::combined_size` meets its contract. Assumes nothing.
use Prim.Native.Nat.{◌<◌}
use mathlib.Core.Path.{◌≡◌, sym, ap, ◌∙◌}
use native.Mathlib.Omega.{arith}
use lib.ListN.{length}
use lib.Seq.{slice}
use Rattle.theory.specs.Results.{common}
use Rattle.hopruns.proofs.Merge.{combined_either, either_length}
use Rattle.hopruns.proofs.combining.combined_size.Goals as goal

pub returns-in-0 : goal.returns-in-0
returns-in-0 c =
    let a = c.args in
    let p = c.requires in
    let o = a.work.now in
    let lt : a.a < a.a_end = omega (arith, p.run.order) in
    let lt' : a.b < a.b_end = omega (arith, p.run_2.order) in
    let z : length (common (slice a.a a.a_end o) (slice a.b a.b_end o)) ≡ 0 = omega (arith, c.shared.ensures, c.in-0.is) in
    sym (ap length (combined_either o a.a a.a_end a.b a.b_end p.run p.run_2 lt lt' z) ∙ either_length o a.a a.a_end a.b a.b_end p.run p.run_2 lt lt' z)
