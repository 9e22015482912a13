use Rattle.dr_model.specs.PairEntries.{suspend_running}
use Rattle.dr_model.specs.WriteEntries.{part_running}
use Rattle.dr_cascade.proofs.BehindLemmas.{each-two, kept-two}
use Rattle.dr_cascade.proofs.following.WriteBehind.run.Goals as goal

pub returns-clause-ends : goal.returns-clause-ends
returns-clause-ends g c =
    let s = g.P.Plant.state c.args.plant.now in
    let m = g.P.Plant.state c.suspend_running.new.plant in
    let u = g.P.Plant.state c.part_running.new.plant in
    let x = c.args.self.now in
    each-two s m u c.args.config.now c.args.journal.now c.suspend_running.new.journal c.part_running.new.journal (suspend_running x.to.0) (part_running x.from.0) c.suspend_running.ensures.kept c.suspend_running.ensures.ends c.part_running.ensures.ends

pub returns-clause-kept : goal.returns-clause-kept
returns-clause-kept g c =
    let s = g.P.Plant.state c.args.plant.now in
    let m = g.P.Plant.state c.suspend_running.new.plant in
    let u = g.P.Plant.state c.part_running.new.plant in
    let b = c.part_running.ensures in
    kept-two s m u c.args.config.now c.args.journal.now c.suspend_running.new.journal c.part_running.new.journal c.suspend_running.ensures.kept (record { at = record { rest = b.rest; fit = b.fit }; unarmed = b.unarmed; faults = b.faults; room = b.room; spare = b.spare })
