-- `tabletext::pieces::place` meets its contract. Assumes nothing.
use mathlib.Core.Path.{◌≡◌, ap, ◌∙◌}
use native.Mathlib.Omega.{arith}
use lib.ListN.{length}
use Rattle.std.specs.Option.{unwrap_or}
use Rattle.tabletext.specs.Pieces.{place}
use Rattle.tabletext.proofs.PieceLaws.{place-most, place_found}
use Rattle.tabletext.proofs.pieces.place.Goals as goal

pub returns : goal.returns
returns c =
    let a = c.args in
    let e : c.unwrap_or.result ≡ place a.b a.s.now = c.unwrap_or.ensures ∙ ap (λ o. unwrap_or o (length a.s.now)) c.find.ensures ∙ place_found a.b a.s.now in
    (e, omega (arith, place-most a.b a.s.now))
