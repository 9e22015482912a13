use Rattle.std.proofs.Common.{ap, sym, ◌∙◌, subst, Option, Some, None}
use Rattle.dr_ids.specs.declared.names.Member.{Member}
use Rattle.dr_model.specs.ReadStops.{Ends}
use Rattle.dr_moves.specs.Checks.{is_stop}
use Rattle.dr_moves.specs.Here.{world_seen, armed_in}
use Rattle.dr_admin.specs.Removing.{entries_without}
use Rattle.dr_model.specs.Sessions.{session_in}
use Rattle.dr_admin.proofs.PlanLemmas.{expels-so}
use Rattle.dr_admin.proofs.PairLemmas.{unless-calm, unless-stops}
use Rattle.dr_admin.proofs.expelling.expel.Goals as goal

pub returns-in-Err-clause-refused : goal.returns-in-Err-clause-refused
returns-in-Err-clause-refused g c r = unless-calm c.in-Err.why c.in-Err.ensures.calm ∙ c.in-Err.ensures.refused r c.args.journal.now.events

pub returns-in-Ok-leave-clause-refused : goal.returns-in-Ok-leave-clause-refused
returns-in-Ok-leave-clause-refused g c r = c.in-Ok.ensures.refused r c.args.journal.now.events

pub returns-in-Ok-leave-clause-carried : goal.returns-in-Ok-leave-clause-carried
returns-in-Ok-leave-clause-carried g c r =
    let s = g.P.Plant.state c.args.plant.now in
    subst (λ (o : Option Member). Ends (armed_in s) (world_seen (g.P.Plant.state c.leave.new.plant) c.args.config.now r c.leave.new.journal.events) None (world_seen s c.args.config.now r c.args.journal.now.events) (entries_without c.args.s.0 o))
    (sym c.in-Ok.ensures.member) (c.in-Ok-leave.ensures.carried r)

pub returns-in-Err-leave-clause-refused : goal.returns-in-Err-leave-clause-refused
returns-in-Err-leave-clause-refused g c r = unless-stops c.in-Err-leave.why (ap is_stop c.in-Err-leave.ensures.refused) ∙ c.in-Ok.ensures.refused r c.args.journal.now.events

pub returns-in-Err-leave-clause-stopped : goal.returns-in-Err-leave-clause-stopped
returns-in-Err-leave-clause-stopped g c stop r =
    let s = g.P.Plant.state c.args.plant.now in
    subst (λ (o : Option Member). Ends (armed_in s) (world_seen (g.P.Plant.state c.leave.new.plant) c.args.config.now r c.leave.new.journal.events) (Some c.in-Err-leave.why) (world_seen s c.args.config.now r c.args.journal.now.events) (entries_without c.args.s.0 o))
    (sym c.in-Ok.ensures.member) (c.in-Err-leave.ensures.carried r)

pub returns-in-Err-clause-plan : goal.returns-in-Err-clause-plan
returns-in-Err-clause-plan g c r = expels-so (world_seen (g.P.Plant.state c.args.plant.now) c.args.config.now r c.args.journal.now.events).control c.args.s.0 (session_in c.args.ss.now.sessions c.args.s.0) c.args.a.0

pub returns-in-Ok-leave-clause-plan : goal.returns-in-Ok-leave-clause-plan
returns-in-Ok-leave-clause-plan g c r = expels-so (world_seen (g.P.Plant.state c.args.plant.now) c.args.config.now r c.args.journal.now.events).control c.args.s.0 (session_in c.args.ss.now.sessions c.args.s.0) c.args.a.0

pub returns-in-Err-leave-clause-plan : goal.returns-in-Err-leave-clause-plan
returns-in-Err-leave-clause-plan g c r = expels-so (world_seen (g.P.Plant.state c.args.plant.now) c.args.config.now r c.args.journal.now.events).control c.args.s.0 (session_in c.args.ss.now.sessions c.args.s.0) c.args.a.0
