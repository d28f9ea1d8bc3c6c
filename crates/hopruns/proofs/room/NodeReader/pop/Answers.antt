-- `hopruns::room::NodeReader::pop` meets its contract. Assumes nothing.
use native.Mathlib.Omega.{arith}
use mathlib.Core.Path.{◌∙◌}
use lib.Seq.{slice_empty}
use Rattle.hopruns.proofs.Reading.{read_hole, read_some}
use Rattle.hopruns.proofs.room.NodeReader.pop.Goals as goal

pub returns-then-self-eq0 : goal.returns-then-self-eq0
returns-then-self-eq0 c =
    let a = c.args in
    λ runs k h.
    let r = read_hole runs k a.self.mask a.self.top a.work.now h.masked h.begins c.if-self-eq0.true in
    record {
      order = omega arith;
      within = h.within;
      run = slice_empty a.self.top a.work.now ∙ r.run;
      past = record { masked = r.masked; within = h.within; begins = r.begins };
    }

pub bounds-work-self : goal.bounds-work-self
bounds-work-self c =
    let a = c.args in
    let h = c.requires.2 in
    let r = read_some _ _ a.self.mask a.self.top a.work.now h.masked h.begins c.if-self-eq0.false in
    omega (arith, r.word)

pub returns : goal.returns
returns c =
    let a = c.args in
    λ runs k h.
    let r = read_some runs k a.self.mask a.self.top a.work.now h.masked h.begins c.if-self-eq0.false in
    record {
      order = omega arith;
      within = r.within;
      run = r.run;
      past = record { masked = r.masked; within = r.within; begins = r.begins };
    }
