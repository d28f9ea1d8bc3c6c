-- `rules::clear_between` tests byte by byte. Assumes nothing.
use mathlib.Core.Path.{◌≡◌, sym, ◌∙◌}
use Rattle.std.proofs.Common.{rules}
use lib.Dec.{eqb}
use Rattle.std.specs.List.{between, list_all}
use Rattle.std.proofs.lemmas.Iterator.{YieldsList-from_slice}
use Rattle.std.proofs.lemmas.Iterator.Search.{all_from_yields_List}
use borrow.Author.Tests.{tests}
use Rattle.table.proofs.Clear.{clear_all}
use Rattle.table.proofs.rules.clear_between.Goals as goal

pub returns : goal.returns
returns c =
    let e : c.all.result ≡ list_all (λ b. eqb b 0) (between c.args.k c.args.end c.args.table.now) =
    all_from_yields_List (λ b. eqb b 0) _ _ c.all.result c.all.ensures.ran (YieldsList-from_slice (between c.args.k c.args.end c.args.table.now) cc) (λ x b q k. search (rules, tests)) in
    e ∙ sym (clear_all c.args.table.now c.args.k c.args.end c.requires.0 c.requires.1)
