use Rattle.std.proofs.Common.{ap, sym, subst, ◌∙◌, ◌∷◌, Some}
use Rattle.dr_plant.specs.State.{PlantState}
use Rattle.dr_ids.specs.declared.refusal.Refusal.TheVariants.{NotIdentical}
use Rattle.dr_model.specs.Log.{Log}
use Rattle.dr_model.specs.PairEntries.{refuse_if, differs_at}
use Rattle.dr_model.specs.ReadStops.{Ends}
use Rattle.dr_moves.specs.Here.{world_seen, armed_in}
use Rattle.dr_facts.proofs.Ends.{ends-off}
use Rattle.dr_moves.proofs.TurnLemmas.{refused-by}
use Rattle.dr_gcopy.specs.Steps.{difference_seen}
use Rattle.dr_gcopy.proofs.making.compare.Goals as goal
use Rattle.dr_moves.proofs.EntryLemmas.{ends-clear, ends-why}
use Rattle.dr_logic.proofs.Results.{err-always}

pub returns-then-full-clause-leads : goal.returns-then-full-clause-leads
returns-then-full-clause-leads g c r armed u r' ds more =
    ends-clear armed u r' (world_seen (g.P.Plant.state c.args.plant.now) c.args.config.now r c.args.journal.now.events) (differs_at (difference_seen (g.P.Plant.state c.args.plant.now) c.args.config.now c.args.a.0 c.args.b.0 c.args.full)) ds (ap (λ b. differs_at (difference_seen (g.P.Plant.state c.args.plant.now) c.args.config.now c.args.a.0 c.args.b.0 b) (world_seen (g.P.Plant.state c.args.plant.now) c.args.config.now r c.args.journal.now.events).control) c.if-full.true) more

pub returns-in_err-track-clause-fails : goal.returns-in_err-track-clause-fails
returns-in_err-track-clause-fails g c =
    err-always c.from_residual.result (λ r ds.
    subst (λ q. Ends (armed_in (g.P.Plant.state c.args.plant.now)) (world_seen (g.P.Plant.state c.difference.new.plant) c.args.config.now r c.difference.new.journal.events) q (world_seen (g.P.Plant.state c.args.plant.now) c.args.config.now r c.args.journal.now.events) (refuse_if (differs_at (difference_seen (g.P.Plant.state c.args.plant.now) c.args.config.now c.args.a.0 c.args.b.0 c.args.full)) ∷ ds)) (sym (refused-by c.from_residual.result c.in_err-track.field-0.0 c.from_residual.ensures.0 c.from_residual.ensures.1))
    (ends-off (armed_in (g.P.Plant.state c.args.plant.now)) (world_seen (g.P.Plant.state c.difference.new.plant) c.args.config.now r c.difference.new.journal.events) (Some c.in_err-track.field-0.0) (world_seen (g.P.Plant.state c.args.plant.now) c.args.config.now r c.args.journal.now.events) (refuse_if (differs_at (difference_seen (g.P.Plant.state c.args.plant.now) c.args.config.now c.args.a.0 c.args.b.0 c.args.full)) ∷ ds) (c.in_err-track.ensures.gone r)))

pub returns-in-Some-clause-fails : goal.returns-in-Some-clause-fails
returns-in-Some-clause-fails g c r ds =
    let e = Some (NotIdentical c.in-Some.track) in
    subst (λ (x : PlantState). Ends (armed_in (g.P.Plant.state c.args.plant.now)) (world_seen x c.args.config.now r c.difference.new.journal.events) e (world_seen (g.P.Plant.state c.args.plant.now) c.args.config.now r c.args.journal.now.events) (refuse_if (differs_at (difference_seen (g.P.Plant.state c.args.plant.now) c.args.config.now c.args.a.0 c.args.b.0 c.args.full)) ∷ ds)) (sym c.in_ok-track.ensures.passed)
    (subst (λ (l : Log). Ends (armed_in (g.P.Plant.state c.args.plant.now)) (world_seen (g.P.Plant.state c.args.plant.now) c.args.config.now r l.events) e (world_seen (g.P.Plant.state c.args.plant.now) c.args.config.now r c.args.journal.now.events) (refuse_if (differs_at (difference_seen (g.P.Plant.state c.args.plant.now) c.args.config.now c.args.a.0 c.args.b.0 c.args.full)) ∷ ds)) (sym c.in_ok-track.ensures.silent)
    (ends-why (armed_in (g.P.Plant.state c.args.plant.now)) (world_seen (g.P.Plant.state c.args.plant.now) c.args.config.now r c.args.journal.now.events) (differs_at (difference_seen (g.P.Plant.state c.args.plant.now) c.args.config.now c.args.a.0 c.args.b.0 c.args.full)) (NotIdentical c.in-Some.track) ds (ap (λ b. differs_at (difference_seen (g.P.Plant.state c.args.plant.now) c.args.config.now c.args.a.0 c.args.b.0 b) (world_seen (g.P.Plant.state c.args.plant.now) c.args.config.now r c.args.journal.now.events).control) c.if-full.false ∙ ap (λ o. differs_at o (world_seen (g.P.Plant.state c.args.plant.now) c.args.config.now r c.args.journal.now.events).control) (sym c.in_ok-track.ensures.found ∙ c.in-Some.is))))

pub returns-in-None-clause-leads : goal.returns-in-None-clause-leads
returns-in-None-clause-leads g c r armed u r' ds more =
    ends-clear armed u r' (world_seen (g.P.Plant.state c.args.plant.now) c.args.config.now r c.args.journal.now.events) (differs_at (difference_seen (g.P.Plant.state c.args.plant.now) c.args.config.now c.args.a.0 c.args.b.0 c.args.full)) ds (ap (λ b. differs_at (difference_seen (g.P.Plant.state c.args.plant.now) c.args.config.now c.args.a.0 c.args.b.0 b) (world_seen (g.P.Plant.state c.args.plant.now) c.args.config.now r c.args.journal.now.events).control) c.if-full.false ∙ ap (λ o. differs_at o (world_seen (g.P.Plant.state c.args.plant.now) c.args.config.now r c.args.journal.now.events).control) (sym c.in_ok-track.ensures.found ∙ c.in-None.is)) more
