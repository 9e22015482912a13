use Rattle.dr_model.specs.PairEntries.{suspend_running, suspend_unless}
use Rattle.dr_cascade.proofs.BehindLemmas.{each-two, kept-two}
use Rattle.dr_cascade.proofs.following.FeedBehind.run.Goals as goal

pub returns-clause-ends : goal.returns-clause-ends
returns-clause-ends g c =
    let s = g.P.Plant.state c.args.plant.now in
    let m = g.P.Plant.state c.suspend_running.new.plant in
    let u = g.P.Plant.state c.suspend_unless.new.plant in
    let x = c.args.self.now in
    each-two s m u c.args.config.now c.args.journal.now c.suspend_running.new.journal c.suspend_unless.new.journal (suspend_running x.to.0) (suspend_unless x.to.0 x.from.0) c.suspend_running.ensures.kept c.suspend_running.ensures.ends c.suspend_unless.ensures.ends

pub returns-clause-kept : goal.returns-clause-kept
returns-clause-kept g c =
    let s = g.P.Plant.state c.args.plant.now in
    let m = g.P.Plant.state c.suspend_running.new.plant in
    let u = g.P.Plant.state c.suspend_unless.new.plant in
    kept-two s m u c.args.config.now c.args.journal.now c.suspend_running.new.journal c.suspend_unless.new.journal c.suspend_running.ensures.kept c.suspend_unless.ensures.kept
