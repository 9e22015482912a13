use Rattle.std.proofs.Common.{ap, sym, ◌∙◌, option_map, Some}
use Rattle.dr_ids.specs.declared.refusal.Refusal.{Refusal}
use Rattle.dr_model.specs.Entries.{pair_state}
use Rattle.dr_steps.specs.Here.{here, rest_of}
use Rattle.dr_steps.proofs.PathLemmas.{held-none, held-some}
use Rattle.dr_steps.proofs.paths.held_refusal.Goals as goal
use Rattle.dr_volume.proofs.WorldLaws.{on-seen}

pub returns-in-Some-clause-refusal : goal.returns-in-Some-clause-refusal
returns-in-Some-clause-refusal g c h events =
    let s = g.P.Plant.state c.args.plant.now in
    let k = (here s c.args.config.now h events).control in
    held-some _ _ _ _ _ (on-seen s c.args.first.0 c.requires.known ∙ sym c.is_on.ensures ∙ c.if-not-is_on.false) c.if-force.false
    (ap (λ (r : Refusal). Some r) (c.pair_state.ensures.refusal (rest_of h events) events) ∙ ap (option_map (pair_state k)) (c.in-Some.ensures.first h events))

pub returns-in-None-clause-refusal : goal.returns-in-None-clause-refusal
returns-in-None-clause-refusal g c h events =
    let s = g.P.Plant.state c.args.plant.now in
    let k = (here s c.args.config.now h events).control in
    held-none _ _ _ _ (on-seen s c.args.first.0 c.requires.known ∙ sym c.is_on.ensures ∙ c.if-not-is_on.false) c.if-force.false (ap (option_map (pair_state k)) (c.in-None.ensures.first h events))
