use Rattle.std.proofs.Common.{sym, Some}
use Rattle.dr_model.specs.PairEntries.{flashed_refusal}
use Rattle.dr_volume.specs.View.{ids_of}
use Rattle.dr_moves.specs.Here.{world_seen, armed_in, refusal_of}
use Rattle.dr_moves.proofs.EntryLemmas.{counted-stop, only-stops, ends-by}
use Rattle.dr_moves.proofs.TurnLemmas.{ok-along, err-along}
use Rattle.dr_gcopy.specs.Sending.{stranger_refusal, receive_entries}
use Rattle.dr_gcopy.proofs.SendLemmas.{refuse-passes, refuse-ends}
use Rattle.dr_gcopy.proofs.receiving.receive_track.Goals as goal

pub returns-in-Some-clause-carried : goal.returns-in-Some-clause-carried
returns-in-Some-clause-carried g c r =
    (refuse-ends (armed_in (g.P.Plant.state c.args.plant.now)) (world_seen (g.P.Plant.state c.args.plant.now) c.args.config.now r c.args.journal.now.events) (stranger_refusal c.args.a.0 c.args.b.0) c.in-Some.why (sym (c.in-Some.ensures.refusal r c.args.journal.now.events))) _

pub returns-in-Some-clause-fails : goal.returns-in-Some-clause-fails
returns-in-Some-clause-fails g c r ds =
    (refuse-ends (armed_in (g.P.Plant.state c.args.plant.now)) (world_seen (g.P.Plant.state c.args.plant.now) c.args.config.now r c.args.journal.now.events) (stranger_refusal c.args.a.0 c.args.b.0) c.in-Some.why (sym (c.in-Some.ensures.refusal r c.args.journal.now.events))) _

pub returns-in-Some-flashed_refusal-clause-carried : goal.returns-in-Some-flashed_refusal-clause-carried
returns-in-Some-flashed_refusal-clause-carried g c r =
    (refuse-passes (world_seen (g.P.Plant.state c.args.plant.now) c.args.config.now r c.args.journal.now.events) (stranger_refusal c.args.a.0 c.args.b.0) (sym (c.in_default.ensures.refusal r c.args.journal.now.events))) (armed_in (g.P.Plant.state c.args.plant.now)) (world_seen (g.P.Plant.state c.args.plant.now) c.args.config.now r c.args.journal.now.events) (Some c.in-Some-flashed_refusal.why) _ ((refuse-ends (armed_in (g.P.Plant.state c.args.plant.now)) (world_seen (g.P.Plant.state c.args.plant.now) c.args.config.now r c.args.journal.now.events) (flashed_refusal c.args.b.0) c.in-Some-flashed_refusal.why (sym (c.in-Some-flashed_refusal.ensures.refusal r c.args.journal.now.events))) _)

pub returns-in-Some-flashed_refusal-clause-fails : goal.returns-in-Some-flashed_refusal-clause-fails
returns-in-Some-flashed_refusal-clause-fails g c r ds =
    (refuse-passes (world_seen (g.P.Plant.state c.args.plant.now) c.args.config.now r c.args.journal.now.events) (stranger_refusal c.args.a.0 c.args.b.0) (sym (c.in_default.ensures.refusal r c.args.journal.now.events))) (armed_in (g.P.Plant.state c.args.plant.now)) (world_seen (g.P.Plant.state c.args.plant.now) c.args.config.now r c.args.journal.now.events) (Some c.in-Some-flashed_refusal.why) _ ((refuse-ends (armed_in (g.P.Plant.state c.args.plant.now)) (world_seen (g.P.Plant.state c.args.plant.now) c.args.config.now r c.args.journal.now.events) (flashed_refusal c.args.b.0) c.in-Some-flashed_refusal.why (sym (c.in-Some-flashed_refusal.ensures.refusal r c.args.journal.now.events))) _)

pub returns-clause-leads : goal.returns-clause-leads
returns-clause-leads g c =
    (ok-along c.keep_and_store.result c.keep_and_store.ensures.leads (λ leads r armed u q ds more.
    (refuse-passes (world_seen (g.P.Plant.state c.args.plant.now) c.args.config.now r c.args.journal.now.events) (stranger_refusal c.args.a.0 c.args.b.0) (sym (c.in_default.ensures.refusal r c.args.journal.now.events))) armed u q _ ((refuse-passes (world_seen (g.P.Plant.state c.args.plant.now) c.args.config.now r c.args.journal.now.events) (flashed_refusal c.args.b.0) (sym (c.in_default-flashed_refusal.ensures.refusal r c.args.journal.now.events))) armed u q _ (leads r armed u q ds more))))

pub returns-clause-fails : goal.returns-clause-fails
returns-clause-fails g c =
    (err-along c.keep_and_store.result c.keep_and_store.ensures.fails c.keep_and_store.ensures.refused (λ fails refused r ds.
    (refuse-passes (world_seen (g.P.Plant.state c.args.plant.now) c.args.config.now r c.args.journal.now.events) (stranger_refusal c.args.a.0 c.args.b.0) (sym (c.in_default.ensures.refusal r c.args.journal.now.events))) (armed_in (g.P.Plant.state c.args.plant.now)) (world_seen (g.P.Plant.state c.keep_and_store.new.plant) c.args.config.now r c.keep_and_store.new.journal.events) (refusal_of c.keep_and_store.result) _ ((refuse-passes (world_seen (g.P.Plant.state c.args.plant.now) c.args.config.now r c.args.journal.now.events) (flashed_refusal c.args.b.0) (sym (c.in_default-flashed_refusal.ensures.refusal r c.args.journal.now.events))) (armed_in (g.P.Plant.state c.args.plant.now)) (world_seen (g.P.Plant.state c.keep_and_store.new.plant) c.args.config.now r c.keep_and_store.new.journal.events) (refusal_of c.keep_and_store.result) _ (fails r ds))))

pub returns-clause-carried : goal.returns-clause-carried
returns-clause-carried g c r =
    ends-by c.keep_and_store.result (armed_in (g.P.Plant.state c.args.plant.now)) (λ r. (world_seen (g.P.Plant.state c.args.plant.now) c.args.config.now r c.args.journal.now.events)) (λ r. (world_seen (g.P.Plant.state c.keep_and_store.new.plant) c.args.config.now r c.keep_and_store.new.journal.events)) (λ r. receive_entries (ids_of c.args.config.now.volumes) c.args.a.0 c.args.b.0 c.args.t c.args.last)
    (ok-along c.keep_and_store.result c.keep_and_store.ensures.leads (λ leads r armed u q ds more.
    (refuse-passes (world_seen (g.P.Plant.state c.args.plant.now) c.args.config.now r c.args.journal.now.events) (stranger_refusal c.args.a.0 c.args.b.0) (sym (c.in_default.ensures.refusal r c.args.journal.now.events))) armed u q _ ((refuse-passes (world_seen (g.P.Plant.state c.args.plant.now) c.args.config.now r c.args.journal.now.events) (flashed_refusal c.args.b.0) (sym (c.in_default-flashed_refusal.ensures.refusal r c.args.journal.now.events))) armed u q _ (leads r armed u q ds more))))
    (err-along c.keep_and_store.result c.keep_and_store.ensures.fails c.keep_and_store.ensures.refused (λ fails refused r ds.
    (refuse-passes (world_seen (g.P.Plant.state c.args.plant.now) c.args.config.now r c.args.journal.now.events) (stranger_refusal c.args.a.0 c.args.b.0) (sym (c.in_default.ensures.refusal r c.args.journal.now.events))) (armed_in (g.P.Plant.state c.args.plant.now)) (world_seen (g.P.Plant.state c.keep_and_store.new.plant) c.args.config.now r c.keep_and_store.new.journal.events) (refusal_of c.keep_and_store.result) _ ((refuse-passes (world_seen (g.P.Plant.state c.args.plant.now) c.args.config.now r c.args.journal.now.events) (flashed_refusal c.args.b.0) (sym (c.in_default-flashed_refusal.ensures.refusal r c.args.journal.now.events))) (armed_in (g.P.Plant.state c.args.plant.now)) (world_seen (g.P.Plant.state c.keep_and_store.new.plant) c.args.config.now r c.keep_and_store.new.journal.events) (refusal_of c.keep_and_store.result) _ (fails r ds)))) r

pub returns-clause-unchanged : goal.returns-clause-unchanged
returns-clause-unchanged g c calm =
    only-stops _ c.keep_and_store.result _ c.keep_and_store.ensures.refused calm

pub returns-clause-faults : goal.returns-clause-faults
returns-clause-faults g c =
    counted-stop c.keep_and_store.result _ _ _ c.keep_and_store.ensures.faults c.keep_and_store.ensures.refused
