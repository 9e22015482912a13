use Rattle.std.proofs.Common.{sym, ap, ◌∙◌}
use Rattle.std.specs.Prelude.{is_some}
use Rattle.dr_model.specs.declared.said.Said.TheVariants.{Refused}
use Rattle.dr_model.specs.Runs.{said}
use Rattle.dr_steps.specs.Here.{here}
use Rattle.dr_steps.proofs.PathLemmas.{owner-nowhere, owner-there, unpath-nowhere, unpath-foreign, unpath-held, unpath-done, ready-unpath}
use Rattle.dr_steps.proofs.paths.remove_path.Goals as goal

pub returns-in_default-clause-step : goal.returns-in_default-clause-step
returns-in_default-clause-step g c line =
    let s = g.P.Plant.state c.args.plant.now in let t = c.args.config.now in let h = c.args.tables.now in let ev = c.args.journal.now.events in
    owner-nowhere s t h ev line c.in_default.ensures.sound c.args.src.0 _ (sym c.in_default.ensures.value)
    ∙ ap (λ r. said (here s t h ev) line (Refused r)) (sym c.unknown_lss.ensures)

pub returns-in_default-lss_owner-clause-step : goal.returns-in_default-lss_owner-clause-step
returns-in_default-lss_owner-clause-step g c line =
    let s = g.P.Plant.state c.args.plant.now in let t = c.args.config.now in let h = c.args.tables.now in let ev = c.args.journal.now.events in
    owner-there s t h ev line c.in-Some.ensures.sound c.args.src.0 c.in-Some.first.0 _ (sym c.in-Some.ensures.value)
    ∙ owner-nowhere s t h ev line c.in-Some.ensures.sound c.args.tgt.0 _ (sym c.in_default-lss_owner.ensures.value)
    ∙ ap (λ r. said (here s t h ev) line (Refused r)) (sym c.unknown_lss-in_default-lss_owner.ensures)

pub returns-in_default-path-clause-step : goal.returns-in_default-path-clause-step
returns-in_default-path-clause-step g c line =
    let s = g.P.Plant.state c.args.plant.now in let t = c.args.config.now in let h = c.args.tables.now in let ev = c.args.journal.now.events in
    unpath-nowhere s t h ev line c.in-Some.ensures.sound c.args.devs.now c.args.src.0 c.args.tgt.0 c.in-Some.first.0 c.in-Some-lss_owner.second.0 (sym c.in-Some.ensures.value) (sym c.in-Some-lss_owner.ensures.value) c.in-Some.ensures.defined.below c.in-Some-lss_owner.ensures.defined.below c.args.force (ap is_some (sym c.in_default-path.ensures))

pub returns-then-not-are_named-clause-step : goal.returns-then-not-are_named-clause-step
returns-then-not-are_named-clause-step g c line =
    let s = g.P.Plant.state c.args.plant.now in let t = c.args.config.now in let h = c.args.tables.now in let ev = c.args.journal.now.events in
    unpath-foreign s t h ev line c.in-Some.ensures.sound c.args.devs.now c.args.src.0 c.args.tgt.0 c.in-Some.first.0 c.in-Some-lss_owner.second.0 (sym c.in-Some.ensures.value) (sym c.in-Some-lss_owner.ensures.value) c.in-Some.ensures.defined.below c.in-Some-lss_owner.ensures.defined.below c.args.force (ap is_some (sym c.in-Some-path.ensures)) (sym (c.are_named.ensures s h ev) ∙ c.if-not-are_named.true)
    ∙ ap (λ r. said (here s t h ev) line (Refused r)) (sym c.unknown_server.ensures)

pub returns-in-Some-held_refusal-clause-step : goal.returns-in-Some-held_refusal-clause-step
returns-in-Some-held_refusal-clause-step g c line =
    let s = g.P.Plant.state c.args.plant.now in let t = c.args.config.now in let h = c.args.tables.now in let ev = c.args.journal.now.events in
    unpath-held s t h ev line c.in-Some.ensures.sound c.args.devs.now c.args.src.0 c.args.tgt.0 c.in-Some.first.0 c.in-Some-lss_owner.second.0 (sym c.in-Some.ensures.value) (sym c.in-Some-lss_owner.ensures.value) c.in-Some.ensures.defined.below c.in-Some-lss_owner.ensures.defined.below c.args.force c.in-Some-held_refusal.why (ap is_some (sym c.in-Some-path.ensures)) (sym (c.are_named.ensures s h ev) ∙ c.if-not-are_named.false) (c.in-Some-held_refusal.ensures.refusal h ev)

pub returns-clause-step : goal.returns-clause-step
returns-clause-step g c line =
    let s = g.P.Plant.state c.args.plant.now in let t = c.args.config.now in let h = c.args.tables.now in let ev = c.args.journal.now.events in
    unpath-done s t h ev line c.in-Some.ensures.sound c.args.devs.now c.args.src.0 c.args.tgt.0 c.in-Some.first.0 c.in-Some-lss_owner.second.0 (sym c.in-Some.ensures.value) (sym c.in-Some-lss_owner.ensures.value) c.in-Some.ensures.defined.below c.in-Some-lss_owner.ensures.defined.below c.args.force c.remove_path.new.self (ap is_some (sym c.in-Some-path.ensures)) (sym (c.are_named.ensures s h ev) ∙ c.if-not-are_named.false) (c.in_default-held_refusal.ensures.refusal h ev) c.remove_path.ensures.removed

pub returns-clause-ready : goal.returns-clause-ready
returns-clause-ready g c =
    ready-unpath (g.P.Plant.state c.args.plant.now) c.args.config.now c.remove_path.new.self c.args.tables.now c.args.journal.now.events c.args.src.0 c.args.tgt.0 c.remove_path.ensures.removed c.requires.ready
