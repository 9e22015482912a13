use Rattle.dr_model.specs.PairEntries.{suspend_running}
use Rattle.dr_moves.specs.Here.{world_seen, armed_in}
use Rattle.dr_moves.proofs.FollowLemmas.{each-one}
use Rattle.dr_gcopy.proofs.following.SuspendedBehind.run.Goals as goal

pub returns-clause-ends : goal.returns-clause-ends
returns-clause-ends g c r =
    let s = g.P.Plant.state c.args.plant.now in
    let u = g.P.Plant.state c.suspend_running.new.plant in
    let t = c.args.config.now in
    each-one (armed_in s) (world_seen s t r c.args.journal.now.events) (world_seen u t r c.suspend_running.new.journal.events) (suspend_running c.args.self.now.0.0) (c.suspend_running.ensures.ends r)
