-- `records::hop_at` reads byte 5 of record i. Assumes nothing.
use mathlib.Core.Path.{refl}
use Rattle.records.specs.Sized.{raw_in, route_in}
use Rattle.records.proofs.hop_at.Goals as goal

pub returns : goal.returns
unfolding route_in raw_in
returns c = refl
