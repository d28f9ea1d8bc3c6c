-- A text that agrees with what was put. Assumes nothing.
use Prim.Native.Nat.{ℕ, ◌+◌}
use mathlib.Core.Path.{◌≡◌, sym, ap, ◌∙◌}
use mathlib.Core.List.{List}
use native.Mathlib.Omega.{arith}
use lib.ListN.{length, take, drop}
use lib.Seq.{take_all, take-take, take_at}
use Rattle.records.specs.Sized.{laid}
use Rattle.text.specs.Text.{Put}

-- A text that agrees, to its end and to the end of what was put, with what was put.
pub put_whole : {ws text : List ℕ} {n end : ℕ} {o o' : List ℕ} → Put ws 0 end o o' → take n (take end o') ≡ take n text → n ≡ end → n ≡ length text → text ≡ ws
unfolding laid
put_whole {ws} {text} {n} {end} {o} {o'} p e q r =
    let f = p.ends in
    sym (take_all n text (omega arith)) ∙ sym e ∙ take-take n end o' (omega arith) ∙ ap (λ (l : List ℕ). take n l) p.lays
    ∙ take_at ws (drop (0 + length ws) o) n (omega arith)
