-- `runs::right_half` meets its contract: half of the position's size fits a word, and so does the key of its right half. Assumes nothing.
use Prim.Native.Nat.{ℕ, suc, ◌+◌, ◌-◌, ◌*◌, ◌%◌, ◌^◌, ◌<◌}
use mathlib.Core.Path.{◌≡◌, sym, ap, ◌∙◌}
use native.Mathlib.Nat.{pow-suc, one-mul}
use native.Mathlib.Omega.{arith}
use lib.Pow.{pow_pos, shl_exact}
use Rattle.words.proofs.KeyLaws.{key_half}
use Rattle.runs.proofs.right_half.Goals as goal

-- The size of a half, shifted into its place.
half : (n : ℕ) → n < 64 → 1 * 2 ^ (63 - n) % 2 ^ 64 ≡ 2 ^ (63 - n)
half n lt = shl_exact 1 (63 - n) 64 (omega arith) (omega arith) ∙ one-mul (2 ^ (63 - n))

-- It is half of the position's.
halves : (n : ℕ) → n < 64 → 2 ^ (64 - n) ≡ 2 ^ (63 - n) * 2
halves n lt = let e : 64 - n ≡ suc (63 - n) = omega arith in ap (λ (k : ℕ). 2 ^ k) e ∙ pow-suc 2 (63 - n)

pub overflow_add-result : goal.overflow_add-result
overflow_add-result c = omega (arith, half c.args.len (omega arith), halves c.args.len (omega arith), pow_pos (63 - c.args.len))

pub returns : goal.returns
returns c w a le lt e = ap (λ (k : ℕ). c.args.key + k) (half c.args.len (omega arith)) ∙ ap (λ (k : ℕ). k + 2 ^ (63 - c.args.len)) e ∙ sym (key_half w c.args.len a le lt)
