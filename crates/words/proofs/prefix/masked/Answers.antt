-- `words::prefix::masked` shifts the bits past the length out and zeros in. Assumes nothing.
use Prim.Native.Nat.{ℕ, ◌-◌, ◌%◌, ◌^◌, ◌<◌}
use mathlib.Core.Path.{◌≡◌, sym}
use native.Mathlib.Nat.{mod-eq_of_lt}
use native.Mathlib.Omega.{arith}
use Rattle.theory.specs.Results.{start_of}
use Rattle.words.proofs.PrefixLaws.{start_small, start-whole}
use Rattle.words.proofs.prefix.masked.Goals as goal

-- The shifts lose nothing of the start.
exact : (n a : ℕ) → a < 2 ^ 32 → start_of n a % 18446744073709551616 ≡ start_of n a
exact n a h = let s = start_small 32 n a h in mod-eq_of_lt (omega arith)

pub returns-then-len-ge32 : goal.returns-then-len-ge32
returns-then-len-ge32 c = sym (start-whole 32 c.args.len c.args.addr c.if-len-ge32.true)

pub overflow_cast-result-4 : goal.overflow_cast-result-4
overflow_cast-result-4 c =
    let a = c.args in
    let h : a.addr < 2 ^ 32 = omega arith in
    let e = exact (32 - a.len) a.addr h in
    let s = start_small 32 (32 - a.len) a.addr h in
    record { fits = omega arith }

pub returns : goal.returns
returns c = let h : c.args.addr < 2 ^ 32 = omega arith in exact (32 - c.args.len) c.args.addr h
