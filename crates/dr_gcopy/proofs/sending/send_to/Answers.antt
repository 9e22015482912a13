use Rattle.std.proofs.Common.{Some}
use Rattle.dr_model.specs.PairEntries.{suspend_after}
use Rattle.dr_moves.specs.Here.{world_seen, armed_in}
use Rattle.dr_moves.proofs.KeptLemmas.{before-then, wider-armed}
use Rattle.dr_moves.proofs.FollowLemmas.{follows-wider}
use Rattle.dr_gcopy.proofs.sending.send_to.Goals as goal

pub returns-in-Err-clause-fails : goal.returns-in-Err-clause-fails
returns-in-Err-clause-fails g c r =
    record {
      middle = (world_seen (g.P.Plant.state c.send_on.new.plant) c.args.config.now r c.send_on.new.journal.events);
      fails = c.in-Err.ensures.fails r;
      followed = follows-wider (armed_in (g.P.Plant.state c.send_on.new.plant)) (armed_in (g.P.Plant.state c.args.plant.now)) (wider-armed (g.P.Plant.state c.args.plant.now) (g.P.Plant.state c.send_on.new.plant) c.in-Err.ensures.unarmed) (world_seen (g.P.Plant.state c.send_on.new.plant) c.args.config.now r c.send_on.new.journal.events) (Some c.in-Err.why) (suspend_after c.args.a.0) (world_seen (g.P.Plant.state c.follow_stop.new.plant) c.args.config.now r c.follow_stop.new.journal.events) (c.follow_stop.ensures.follows r);
    }

pub returns-in-Err-clause-unarmed : goal.returns-in-Err-clause-unarmed
returns-in-Err-clause-unarmed g c q none =
    c.follow_stop.ensures.unarmed q (c.in-Err.ensures.unarmed q none)

pub returns-in-Err-clause-faults : goal.returns-in-Err-clause-faults
returns-in-Err-clause-faults g c =
    c.follow_stop.ensures.faults (g.P.Plant.state c.args.plant.now).faults c.in-Err.ensures.faults

pub returns-in-Err-clause-others : goal.returns-in-Err-clause-others
returns-in-Err-clause-others g c q na nb other =
    before-then (g.P.Plant.state c.args.plant.now) (g.P.Plant.state c.send_on.new.plant) (g.P.Plant.state c.follow_stop.new.plant) c.args.config.now q (c.in-Err.ensures.others q na nb other) (c.follow_stop.ensures.others q na)
