-- `hitless::Change::longer_at` meets its contract. Assumes nothing.
use Rattle.records.specs.Wire.{routes}
use Rattle.plans.specs.Deciding.{in_old, in_new}
use Rattle.plans.proofs.Deciding.{table_has, longer_put}
use Rattle.plans.proofs.hitless.Change.longer_at.Goals as goal

pub returns-in-Some : goal.returns-in-Some
returns-in-Some c =
    let z = c.in-Some.ensures in
    (z.0, z.1, in_old (table_has c.requires.may (routes c.args.self.now.installed.now) c.args.y c.in-Some.longer z.1 z.2))

pub returns-in-Some-longer_in : goal.returns-in-Some-longer_in
returns-in-Some-longer_in c =
    let z = c.in-Some-longer_in.ensures in
    (z.0, z.1, in_new (table_has c.requires.may (routes c.args.self.now.new.now) c.args.y c.in-Some-longer_in.longer z.1 z.2))

pub returns : goal.returns
returns c = longer_put c.requires.may c.args.y c.args.len c.in_default.ensures c.in_default-longer_in.ensures c.shortest_put.result c.shortest_put.ensures
