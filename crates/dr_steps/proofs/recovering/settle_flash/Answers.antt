use Rattle.std.proofs.Common.{ap}
use Rattle.std.specs.Prelude.{is_some}
use Rattle.dr_config.proofs.Lookups.{place-of-entry, none-mapped}
use Rattle.dr_config.specs.declared.entries.VolumeEntry.{VolumeEntry}
use Rattle.dr_model.specs.declared.said.Addition.TheVariants.{Alone}
use Rattle.dr_model.specs.declared.said.Said.TheVariants.{Done, Refused}
use Rattle.dr_model.specs.RecoveryPlans.{revertible_target, settle_target}
use Rattle.dr_recover.specs.Outcomes.{lets_by}
use Rattle.dr_steps.specs.Here.{here, rest_of}
use Rattle.dr_steps.proofs.RelationLemmas.{relations-fit}
use Rattle.dr_steps.proofs.ExchangeLemmas.{members-ready, aside-fits, few-members}
use Rattle.dr_steps.proofs.LocatedLemmas.{mapped_some}
use Rattle.dr_steps.proofs.RecoveringLemmas.{plain-ready, plain-settled, settle-nowhere, settle-foreign, settle-off, settle-goes}
use Rattle.dr_steps.proofs.recovering.settle_flash.Goals as goal

pub returns-in_default-clause-step : goal.returns-in_default-clause-step
returns-in_default-clause-step g c line =
    let s = g.P.Plant.state c.args.plant.now in let t = c.args.config.now in let h = c.args.tables.now in let ev = c.args.journal.now.events in
    settle-nowhere s t h ev line c.args.dev.now (lets_by c.args.commit) c.args.source.0 (none-mapped (λ (e : VolumeEntry). e.server) _ c.in_default.ensures.value)

pub returns-in-Some-name_refusal-clause-step : goal.returns-in-Some-name_refusal-clause-step
returns-in-Some-name_refusal-clause-step g c line =
    let s = g.P.Plant.state c.args.plant.now in let t = c.args.config.now in let h = c.args.tables.now in let ev = c.args.journal.now.events in
    let e = mapped_some (λ (e : VolumeEntry). e.server) _ _ c.in-Some.ensures.value in
    settle-foreign s t h ev line c.args.dev.now (lets_by c.args.commit) c.args.source.0 e.0 c.in-Some.server.0 e.1 e.2 c.in-Some-name_refusal.why (c.in-Some-name_refusal.ensures.refusal s h ev)

pub returns-in-Some-off_refusal-clause-step : goal.returns-in-Some-off_refusal-clause-step
returns-in-Some-off_refusal-clause-step g c line =
    let s = g.P.Plant.state c.args.plant.now in let t = c.args.config.now in let h = c.args.tables.now in let ev = c.args.journal.now.events in
    let e = mapped_some (λ (e : VolumeEntry). e.server) _ _ c.in-Some.ensures.value in
    settle-off s t h ev line c.args.dev.now (lets_by c.args.commit) c.args.source.0 e.0 c.in-Some.server.0 e.1 e.2 c.in-Some-off_refusal.why (c.in_default-name_refusal.ensures.refusal s h ev) (c.in-Some-off_refusal.ensures.refusal t h ev)

pub act-requires-clause-defined : goal.act-requires-clause-defined
act-requires-clause-defined g c =
    let e = mapped_some (λ (e : VolumeEntry). e.server) _ _ c.in-Some.ensures.value in
    ap is_some (place-of-entry c.args.config.now c.args.source.0 e.0 e.1).1

pub act-requires-clause-fit : goal.act-requires-clause-fit
act-requires-clause-fit g c = relations-fit (g.P.Plant.state c.args.plant.now) c.args.config.now c.args.tables.now c.args.journal.now.events c.requires.sound

pub act-requires-clause-members : goal.act-requires-clause-members
act-requires-clause-members g c n = members-ready (g.P.Plant.state c.args.plant.now) c.args.config.now c.args.tables.now c.args.journal.now.events c.requires.sound n

pub act-requires-clause-aside : goal.act-requires-clause-aside
act-requires-clause-aside g c = aside-fits (g.P.Plant.state c.args.plant.now) c.args.config.now c.args.tables.now c.args.journal.now.events c.requires.sound 0

pub act-requires-clause-few : goal.act-requires-clause-few
act-requires-clause-few g c n = few-members (g.P.Plant.state c.args.plant.now) c.args.config.now c.args.tables.now c.args.journal.now.events c.requires.sound n c.requires.few

pub returns-in-Ok-clause-step : goal.returns-in-Ok-clause-step
returns-in-Ok-clause-step g c line =
    let s = g.P.Plant.state c.args.plant.now in let t = c.args.config.now in let h = c.args.tables.now in let ev = c.args.journal.now.events in
    let e = mapped_some (λ (e : VolumeEntry). e.server) _ _ c.in-Some.ensures.value in
    settle-goes s t h ev line c.args.dev.now (lets_by c.args.commit) c.args.source.0 e.0 c.in-Some.server.0 e.1 e.2 (c.in_default-name_refusal.ensures.refusal s h ev) (c.in_default-off_refusal.ensures.refusal t h ev)
    (g.P.Plant.state c.act.new.plant) c.act.new.journal.events (Done Alone) c.requires.ready (c.in-Ok.ensures.carried (rest_of h ev))

pub returns-in-Ok-clause-ready : goal.returns-in-Ok-clause-ready
returns-in-Ok-clause-ready g c =
    let s = g.P.Plant.state c.args.plant.now in let t = c.args.config.now in let h = c.args.tables.now in let ev = c.args.journal.now.events in
    plain-ready s (g.P.Plant.state c.act.new.plant) t h ev c.act.new.journal.events (settle_target (here s t h ev).control (lets_by c.args.commit) c.args.source.0 (revertible_target (here s t h ev).control c.args.source.0)) (Done Alone)
    (plain-settled (here s t h ev).control (lets_by c.args.commit) c.args.source.0 (revertible_target (here s t h ev).control c.args.source.0)) (c.in-Ok.ensures.carried (rest_of h ev)) c.in-Ok.ensures.rest c.in-Ok.ensures.unarmed c.requires.ready

pub returns-in-Err-clause-step : goal.returns-in-Err-clause-step
returns-in-Err-clause-step g c line =
    let s = g.P.Plant.state c.args.plant.now in let t = c.args.config.now in let h = c.args.tables.now in let ev = c.args.journal.now.events in
    let e = mapped_some (λ (e : VolumeEntry). e.server) _ _ c.in-Some.ensures.value in
    settle-goes s t h ev line c.args.dev.now (lets_by c.args.commit) c.args.source.0 e.0 c.in-Some.server.0 e.1 e.2 (c.in_default-name_refusal.ensures.refusal s h ev) (c.in_default-off_refusal.ensures.refusal t h ev)
    (g.P.Plant.state c.act.new.plant) c.act.new.journal.events (Refused c.in-Err.refusal) c.requires.ready (c.in-Err.ensures.carried (rest_of h ev))

pub returns-in-Err-clause-ready : goal.returns-in-Err-clause-ready
returns-in-Err-clause-ready g c =
    let s = g.P.Plant.state c.args.plant.now in let t = c.args.config.now in let h = c.args.tables.now in let ev = c.args.journal.now.events in
    plain-ready s (g.P.Plant.state c.act.new.plant) t h ev c.act.new.journal.events (settle_target (here s t h ev).control (lets_by c.args.commit) c.args.source.0 (revertible_target (here s t h ev).control c.args.source.0)) (Refused c.in-Err.refusal)
    (plain-settled (here s t h ev).control (lets_by c.args.commit) c.args.source.0 (revertible_target (here s t h ev).control c.args.source.0)) (c.in-Err.ensures.carried (rest_of h ev)) c.in-Err.ensures.rest c.in-Err.ensures.unarmed c.requires.ready
