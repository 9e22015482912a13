use Rattle.std.proofs.Common.{sym, ap, ◌∙◌, Err}
use Rattle.dr_model.specs.declared.said.Said.TheVariants.{Refused}
use Rattle.dr_model.specs.Runs.{said}
use Rattle.dr_steps.specs.Here.{here}
use Rattle.dr_steps.proofs.DefineLemmas.{on-refusal}
use Rattle.dr_steps.proofs.PathLemmas.{owner-nowhere, owner-there, path-foreign, path-refused, path-made, ready-path}
use Rattle.dr_config.specs.Rules.{refusal_of}
use Rattle.dr_model.specs.declared.said.Addition.{Addition}
use Rattle.dr_steps.proofs.WantLemmas.{on-no-memory, path-wants}
use Rattle.dr_steps.proofs.paths.make_path.Goals as goal

pub returns-in_default-clause-step : goal.returns-in_default-clause-step
returns-in_default-clause-step g c line =
    let s = g.P.Plant.state c.args.plant.now in let t = c.args.config.now in let h = c.args.tables.now in let ev = c.args.journal.now.events in
    owner-nowhere s t h ev line c.in_default.ensures.sound c.args.src.0 _ (sym c.in_default.ensures.value)
    ∙ ap (λ r. said (here s t h ev) line (Refused r)) (sym c.unknown_lss.ensures)

pub returns-in_default-lss_owner-clause-step : goal.returns-in_default-lss_owner-clause-step
returns-in_default-lss_owner-clause-step g c line =
    let s = g.P.Plant.state c.args.plant.now in let t = c.args.config.now in let h = c.args.tables.now in let ev = c.args.journal.now.events in
    owner-there s t h ev line c.in-Some.ensures.sound c.args.src.0 c.in-Some.first.0 _ (sym c.in-Some.ensures.value)
    ∙ owner-nowhere s t h ev line c.in-Some.ensures.sound c.args.tgt.0 _ (sym c.in_default-lss_owner.ensures.value)
    ∙ ap (λ r. said (here s t h ev) line (Refused r)) (sym c.unknown_lss-in_default-lss_owner.ensures)

pub returns-then-not-are_named-clause-step : goal.returns-then-not-are_named-clause-step
returns-then-not-are_named-clause-step g c line =
    let s = g.P.Plant.state c.args.plant.now in let t = c.args.config.now in let h = c.args.tables.now in let ev = c.args.journal.now.events in
    path-foreign s t h ev line c.in-Some.ensures.sound c.args.devs.now c.args.src.0 c.args.tgt.0 c.in-Some.first.0 c.in-Some-lss_owner.second.0 (sym c.in-Some.ensures.value) (sym c.in-Some-lss_owner.ensures.value) c.in-Some.ensures.defined.below c.in-Some-lss_owner.ensures.defined.below c.args.group (sym (c.are_named.ensures s h ev) ∙ c.if-not-are_named.true)
    ∙ ap (λ r. said (here s t h ev) line (Refused r)) (sym c.unknown_server.ensures)

pub returns-in-Ok-clause-step : goal.returns-in-Ok-clause-step
returns-in-Ok-clause-step g c line =
    let s = g.P.Plant.state c.args.plant.now in let t = c.args.config.now in let h = c.args.tables.now in let ev = c.args.journal.now.events in
    path-made s t h ev line c.in-Some.ensures.sound c.args.devs.now c.args.src.0 c.args.tgt.0 c.in-Some.first.0 c.in-Some-lss_owner.second.0 (sym c.in-Some.ensures.value) (sym c.in-Some-lss_owner.ensures.value) c.in-Some.ensures.defined.below c.in-Some-lss_owner.ensures.defined.below c.args.group c.add_path.new.self (sym (c.are_named.ensures s h ev) ∙ c.if-not-are_named.false) c.in-Ok.ensures.refused c.in-Ok.ensures.added

pub returns-in-Ok-clause-ready : goal.returns-in-Ok-clause-ready
returns-in-Ok-clause-ready g c =
    ready-path (g.P.Plant.state c.args.plant.now) c.args.config.now c.add_path.new.self c.args.tables.now c.args.journal.now.events c.args.src.0 c.args.tgt.0 c.args.group c.in-Ok.ensures.added c.requires.ready

pub returns-in-Err-clause-step : goal.returns-in-Err-clause-step
returns-in-Err-clause-step g c =
    let s = g.P.Plant.state c.args.plant.now in let t = c.args.config.now in let h = c.args.tables.now in let ev = c.args.journal.now.events in
    on-refusal c.in-Err.fault _ _ c.in-Err.ensures.refused (λ r is line.
    path-refused s t h ev line c.in-Some.ensures.sound c.args.devs.now c.args.src.0 c.args.tgt.0 c.in-Some.first.0 c.in-Some-lss_owner.second.0 (sym c.in-Some.ensures.value) (sym c.in-Some-lss_owner.ensures.value) c.in-Some.ensures.defined.below c.in-Some-lss_owner.ensures.defined.below c.args.group r (sym (c.are_named.ensures s h ev) ∙ c.if-not-are_named.false) is
    ∙ ap (λ x. said (here s x h ev) line (Refused r)) (sym c.in-Err.ensures.same))

pub returns-in-Err-clause-wanted : goal.returns-in-Err-clause-wanted
returns-in-Err-clause-wanted g c =
    let s = g.P.Plant.state c.args.plant.now in let t = c.args.config.now in let h = c.args.tables.now in let ev = c.args.journal.now.events in
    on-no-memory Addition c.in-Err.fault _ (λ is.
    path-wants s t h ev c.args.devs.now c.args.src.0 c.args.tgt.0 c.in-Some.first.0 c.in-Some-lss_owner.second.0 c.args.group c.in-Some.ensures.sound (sym c.in-Some.ensures.value) (sym c.in-Some-lss_owner.ensures.value) c.in-Some.ensures.defined.below c.in-Some-lss_owner.ensures.defined.below
    (sym (c.are_named.ensures s h ev) ∙ c.if-not-are_named.false) (ap (λ f. refusal_of {T = Unit {0}} (Err f)) (sym is) ∙ c.in-Err.ensures.refused) (λ some. c.in-Err.ensures.room some (ap Err is)))
