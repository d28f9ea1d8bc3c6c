-- `stepread::put_reply` meets its contract. Assumes nothing.
use Rattle.stepread.specs.Reading.Replied.{answered, no_step}
use Rattle.stepread.proofs.put_reply.Goals as goal

pub returns-in-Some-clause-replied : goal.returns-in-Some-clause-replied
returns-in-Some-clause-replied c = no_step _ c.put_no_step.ensures

pub returns-in-None-clause-replied : goal.returns-in-None-clause-replied
returns-in-None-clause-replied c = answered _ c.check_plan.result c.in-None.ensures c.check_plan.ensures c.put_judged.ensures
