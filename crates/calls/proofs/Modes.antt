-- What holds of the number of a mode, and of a number that names none. Assumes nothing.
use mathlib.Core.Path.{◌≡◌, refl}
use mathlib.Core.Bool.{true}
use native.Mathlib.Omega.{arith}
use Rattle.calls.specs.declared.engine.Mode.{Mode}
use Rattle.calls.specs.declared.engine.Mode.TheVariants as mode
use Rattle.calls.specs.Modes.{mode_number, mode_known}
use Rattle.calls.specs.Rewriting.{InUse}

-- It is known, and in use.
pub number-known : (m : Mode) → mode_known (mode_number m) ≡ true
number-known mode.Set = refl
number-known mode.ConsistentMap = refl
number-known mode.MapDrop = refl
number-known mode.MapFill = refl

pub number-used : (m : Mode) → InUse (mode_number m)
number-used mode.Set = (omega arith, omega arith, λ z. omega arith)
number-used mode.ConsistentMap = (omega arith, omega arith, λ z. omega arith)
number-used mode.MapDrop = (omega arith, omega arith, λ z. omega arith)
number-used mode.MapFill = (omega arith, omega arith, λ z. omega arith)
