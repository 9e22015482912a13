use Rattle.std.proofs.Common.{subst, Some, [], ◌∷◌}
use Rattle.dr_model.specs.declared.state.Part.{Part}
use Rattle.dr_model.specs.PairEntries.{follow_on, resume_on, resume_entries}
use Rattle.dr_model.specs.ReadStops.{Ends}
use Rattle.dr_moves.specs.Here.{world_seen, armed_in, refusal_of}
use Rattle.dr_gcopy.proofs.PairChecks.{unless-stopped}
use Rattle.dr_moves.proofs.EntryLemmas.{ends-by}
use Rattle.dr_gcopy.proofs.pausing.resume.Goals as goal

pub returns-in-Some-clause-carried : goal.returns-in-Some-clause-carried
returns-in-Some-clause-carried g c r =
    subst (λ (k : Part). Ends (armed_in (g.P.Plant.state c.args.plant.now)) (world_seen (g.P.Plant.state c.args.plant.now) c.args.config.now r c.args.journal.now.events) (Some c.in-Some.why) (world_seen (g.P.Plant.state c.args.plant.now) c.args.config.now r c.args.journal.now.events) (resume_entries (world_seen (g.P.Plant.state c.args.plant.now) c.args.config.now r c.args.journal.now.events).control c.args.a.0 c.args.b.0 k)) c.part_of.ensures.part
    (c.in-Some.ensures.checked r c.args.journal.now.events (armed_in (g.P.Plant.state c.args.plant.now)) _)

pub returns-clause-carried : goal.returns-clause-carried
returns-clause-carried g c r =
    subst (λ (k : Part). Ends (armed_in (g.P.Plant.state c.args.plant.now)) (world_seen (g.P.Plant.state c.carry_both.new.plant) c.args.config.now r c.carry_both.new.journal.events) (refusal_of c.carry_both.result) (world_seen (g.P.Plant.state c.args.plant.now) c.args.config.now r c.args.journal.now.events) (resume_entries (world_seen (g.P.Plant.state c.args.plant.now) c.args.config.now r c.args.journal.now.events).control c.args.a.0 c.args.b.0 k)) c.part_of.ensures.part
    (c.in_default.ensures.checked r c.args.journal.now.events (armed_in (g.P.Plant.state c.args.plant.now)) (world_seen (g.P.Plant.state c.carry_both.new.plant) c.args.config.now r c.carry_both.new.journal.events) (refusal_of c.carry_both.result) _
    (ends-by c.carry_both.result (armed_in (g.P.Plant.state c.args.plant.now)) (λ r. (world_seen (g.P.Plant.state c.args.plant.now) c.args.config.now r c.args.journal.now.events)) (λ r. (world_seen (g.P.Plant.state c.carry_both.new.plant) c.args.config.now r c.carry_both.new.journal.events)) (λ r. follow_on c.args.a.0 c.args.b.0 ∷ resume_on c.args.a.0 ∷ []) c.carry_both.ensures.leads c.carry_both.ensures.fails r))

pub returns-clause-unchanged : goal.returns-clause-unchanged
returns-clause-unchanged g c calm = unless-stopped _ c.carry_both.result c.carry_both.ensures.stops calm
