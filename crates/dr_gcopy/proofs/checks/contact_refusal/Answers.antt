use Rattle.std.proofs.Common.{sym, ◌∙◌, Some}
use Rattle.dr_config.specs.Table.{link_up}
use Rattle.dr_model.specs.PairEntries.{are_linked, link_down}
use Rattle.dr_volume.specs.View.{volume_seen}
use Rattle.dr_moves.specs.Here.{world_seen}
use Rattle.dr_facts.proofs.Ends.{ends-passed}
use Rattle.dr_moves.proofs.EntryLemmas.{refuses}
use Rattle.dr_gcopy.proofs.checks.contact_refusal.Goals as goal

pub returns-in-Some-clause-checked : goal.returns-in-Some-clause-checked
returns-in-Some-clause-checked g c r events armed ds =
    c.in-Some.ensures.checked r events armed _

pub returns-then-not-link_up-clause-checked : goal.returns-then-not-link_up-clause-checked
returns-then-not-link_up-clause-checked g c r events armed ds =
    c.in_default.ensures.checked r events armed (world_seen (g.P.Plant.state c.args.plant.now) c.args.config.now r events) (Some (link_down c.server_of-from.result.0 c.server_of-to.result.0)) _
    (refuses armed (world_seen (g.P.Plant.state c.args.plant.now) c.args.config.now r events) (are_linked c.args.a.0 c.args.b.0) (link_down (volume_seen (g.P.Plant.state c.args.plant.now) c.args.config.now c.args.a.0).server (volume_seen (g.P.Plant.state c.args.plant.now) c.args.config.now c.args.b.0).server) ((Some (link_down c.server_of-from.result.0 c.server_of-to.result.0))) _ ((λ i. link_up c.args.config.now (c.server_of-from.ensures.seen (g.P.Plant.state c.args.plant.now) i) (c.server_of-to.ensures.seen (g.P.Plant.state c.args.plant.now) i)) ∙ sym c.link_up.ensures ∙ c.if-not-link_up.true) (λ i. Some (link_down (sym (c.server_of-from.ensures.seen (g.P.Plant.state c.args.plant.now)) i) (sym (c.server_of-to.ensures.seen (g.P.Plant.state c.args.plant.now)) i))))

pub returns-clause-checked : goal.returns-clause-checked
returns-clause-checked g c r events armed u r' ds more =
    c.in_default.ensures.checked r events armed u r' _
    (ends-passed armed u r' (world_seen (g.P.Plant.state c.args.plant.now) c.args.config.now r events) (are_linked c.args.a.0 c.args.b.0) (link_down (volume_seen (g.P.Plant.state c.args.plant.now) c.args.config.now c.args.a.0).server (volume_seen (g.P.Plant.state c.args.plant.now) c.args.config.now c.args.b.0).server) _ ((λ i. link_up c.args.config.now (c.server_of-from.ensures.seen (g.P.Plant.state c.args.plant.now) i) (c.server_of-to.ensures.seen (g.P.Plant.state c.args.plant.now) i)) ∙ sym c.link_up.ensures ∙ c.if-not-link_up.false)
    (more))
