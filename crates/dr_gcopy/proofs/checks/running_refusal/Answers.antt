use Rattle.std.proofs.Common.{ap, sym, ◌∙◌, Some}
use Rattle.dr_model.specs.Entries.{is_running}
use Rattle.dr_model.specs.Refusals.{server_off}
use Rattle.dr_volume.specs.View.{on_seen, volume_seen}
use Rattle.dr_moves.specs.Here.{world_seen}
use Rattle.dr_facts.proofs.Ends.{ends-passed}
use Rattle.dr_moves.proofs.EntryLemmas.{refuses}
use Rattle.dr_gcopy.proofs.checks.running_refusal.Goals as goal
use Rattle.dr_volume.proofs.WorldLaws.{on-seen}

pub returns-then-not-is_on-clause-checked : goal.returns-then-not-is_on-clause-checked
returns-then-not-is_on-clause-checked g c r events armed ds =
    refuses armed (world_seen (g.P.Plant.state c.args.plant.now) c.args.config.now r events) (is_running c.args.v.0) (server_off (volume_seen (g.P.Plant.state c.args.plant.now) c.args.config.now c.args.v.0).server) _ _ (ap (on_seen (g.P.Plant.state c.args.plant.now)) (c.server_of-server.ensures.seen (g.P.Plant.state c.args.plant.now)) ∙ on-seen (g.P.Plant.state c.args.plant.now) c.server_of-server.result.0 c.server_of-server.ensures.known ∙ sym c.is_on.ensures ∙ c.if-not-is_on.true) (ap (λ n. Some (server_off n)) (sym (c.server_of-server.ensures.seen (g.P.Plant.state c.args.plant.now))))

pub returns-clause-checked : goal.returns-clause-checked
returns-clause-checked g c r events armed u r' ds more =
    ends-passed armed u r' (world_seen (g.P.Plant.state c.args.plant.now) c.args.config.now r events) (is_running c.args.v.0) (server_off (volume_seen (g.P.Plant.state c.args.plant.now) c.args.config.now c.args.v.0).server) _ (ap (on_seen (g.P.Plant.state c.args.plant.now)) (c.server_of-server.ensures.seen (g.P.Plant.state c.args.plant.now)) ∙ on-seen (g.P.Plant.state c.args.plant.now) c.server_of-server.result.0 c.server_of-server.ensures.known ∙ sym c.is_on.ensures ∙ c.if-not-is_on.false)
    (more)
