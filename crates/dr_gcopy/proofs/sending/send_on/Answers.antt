use Rattle.std.proofs.Common.{◌∷◌, ◌++◌, sym, Some}
use Rattle.dr_model.specs.PairEntries.{send_refusal, suspend_where, refuse_if, flashed_refusal}
use Rattle.dr_volume.specs.View.{ids_of}
use Rattle.dr_moves.specs.Here.{world_seen, armed_in, refusal_of}
use Rattle.dr_facts.proofs.Ends.{ends-skips}
use Rattle.dr_moves.proofs.TurnLemmas.{ok-along, err-along}
use Rattle.dr_gcopy.specs.Sending.{pass_entries}
use Rattle.dr_gcopy.proofs.SendLemmas.{suspends-none, refuse-passes, refuse-ends}
use Rattle.dr_gcopy.proofs.PairChecks.{counted-stops}
use Rattle.dr_gcopy.proofs.sending.send_on.Goals as goal

pub returns-in-Some-clause-fails : goal.returns-in-Some-clause-fails
returns-in-Some-clause-fails g c r ds =
    c.refuse.ensures.fails r (refuse_if (flashed_refusal c.args.b.0) ∷ (pass_entries (ids_of c.args.config.now.volumes) c.args.a.0 c.args.b.0 c.args.t ++ ds))

pub returns-in-Some-flashed_refusal-clause-fails : goal.returns-in-Some-flashed_refusal-clause-fails
returns-in-Some-flashed_refusal-clause-fails g c r ds =
    ends-skips (armed_in (g.P.Plant.state c.args.plant.now)) (world_seen (g.P.Plant.state c.args.plant.now) c.args.config.now r c.args.journal.now.events) (Some c.in-Some-flashed_refusal.why) (world_seen (g.P.Plant.state c.args.plant.now) c.args.config.now r c.args.journal.now.events) (suspend_where (send_refusal c.args.a.0 c.args.b.0) c.args.a.0) _ (suspends-none (world_seen (g.P.Plant.state c.args.plant.now) c.args.config.now r c.args.journal.now.events) (send_refusal c.args.a.0 c.args.b.0) c.args.a.0 (sym (c.in_default.ensures.refusal r c.args.journal.now.events)))
    (refuse-passes (world_seen (g.P.Plant.state c.args.plant.now) c.args.config.now r c.args.journal.now.events) (send_refusal c.args.a.0 c.args.b.0) (sym (c.in_default.ensures.refusal r c.args.journal.now.events)) (armed_in (g.P.Plant.state c.args.plant.now)) (world_seen (g.P.Plant.state c.args.plant.now) c.args.config.now r c.args.journal.now.events) (Some c.in-Some-flashed_refusal.why) _
    (refuse-ends (armed_in (g.P.Plant.state c.args.plant.now)) (world_seen (g.P.Plant.state c.args.plant.now) c.args.config.now r c.args.journal.now.events) (flashed_refusal c.args.b.0) c.in-Some-flashed_refusal.why (sym (c.in-Some-flashed_refusal.ensures.refusal r c.args.journal.now.events)) _))

pub returns-clause-leads : goal.returns-clause-leads
returns-clause-leads g c =
    ok-along c.pass_on.result c.pass_on.ensures.leads (λ leads r armed u q ds more.
    ends-skips armed u q (world_seen (g.P.Plant.state c.args.plant.now) c.args.config.now r c.args.journal.now.events) (suspend_where (send_refusal c.args.a.0 c.args.b.0) c.args.a.0) _ (suspends-none (world_seen (g.P.Plant.state c.args.plant.now) c.args.config.now r c.args.journal.now.events) (send_refusal c.args.a.0 c.args.b.0) c.args.a.0 (sym (c.in_default.ensures.refusal r c.args.journal.now.events)))
    (refuse-passes (world_seen (g.P.Plant.state c.args.plant.now) c.args.config.now r c.args.journal.now.events) (send_refusal c.args.a.0 c.args.b.0) (sym (c.in_default.ensures.refusal r c.args.journal.now.events)) armed u q _
    (refuse-passes (world_seen (g.P.Plant.state c.args.plant.now) c.args.config.now r c.args.journal.now.events) (flashed_refusal c.args.b.0) (sym (c.in_default-flashed_refusal.ensures.refusal r c.args.journal.now.events)) armed u q _ (leads r armed u q ds more))))

pub returns-clause-fails : goal.returns-clause-fails
returns-clause-fails g c =
    err-along c.pass_on.result c.pass_on.ensures.fails c.pass_on.ensures.stops (λ fails stops r ds.
    ends-skips (armed_in (g.P.Plant.state c.args.plant.now)) (world_seen (g.P.Plant.state c.pass_on.new.plant) c.args.config.now r c.pass_on.new.journal.events) (refusal_of c.pass_on.result) (world_seen (g.P.Plant.state c.args.plant.now) c.args.config.now r c.args.journal.now.events) (suspend_where (send_refusal c.args.a.0 c.args.b.0) c.args.a.0) _ (suspends-none (world_seen (g.P.Plant.state c.args.plant.now) c.args.config.now r c.args.journal.now.events) (send_refusal c.args.a.0 c.args.b.0) c.args.a.0 (sym (c.in_default.ensures.refusal r c.args.journal.now.events)))
    (refuse-passes (world_seen (g.P.Plant.state c.args.plant.now) c.args.config.now r c.args.journal.now.events) (send_refusal c.args.a.0 c.args.b.0) (sym (c.in_default.ensures.refusal r c.args.journal.now.events)) (armed_in (g.P.Plant.state c.args.plant.now)) (world_seen (g.P.Plant.state c.pass_on.new.plant) c.args.config.now r c.pass_on.new.journal.events) (refusal_of c.pass_on.result) _
    (refuse-passes (world_seen (g.P.Plant.state c.args.plant.now) c.args.config.now r c.args.journal.now.events) (flashed_refusal c.args.b.0) (sym (c.in_default-flashed_refusal.ensures.refusal r c.args.journal.now.events)) (armed_in (g.P.Plant.state c.args.plant.now)) (world_seen (g.P.Plant.state c.pass_on.new.plant) c.args.config.now r c.pass_on.new.journal.events) (refusal_of c.pass_on.result) _ (fails r ds))))

pub returns-clause-faults : goal.returns-clause-faults
returns-clause-faults g c =
    counted-stops c.pass_on.result _ _ c.pass_on.ensures.stops c.pass_on.ensures.faults

pub returns-in-Some-clause-others : goal.returns-in-Some-clause-others
returns-in-Some-clause-others g c q na nb other =
    c.refuse.ensures.others q na
