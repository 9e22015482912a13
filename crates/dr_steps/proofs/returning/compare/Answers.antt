use Rattle.std.proofs.Common.{◌++◌, [], ◌∷◌, Some, None}
use Rattle.dr_model.specs.Control.{Control}
use Rattle.dr_model.specs.declared.said.Said.TheVariants.{Done}
use Rattle.dr_model.specs.declared.said.Addition.TheVariants.{Alone}
use Rattle.dr_model.specs.PairEntries.{refuse_if, differs_at, first_differing}
use Rattle.dr_model.specs.Plans.{compare_entries}
use Rattle.dr_volume.specs.View.{track_seen}
use Rattle.dr_failover.specs.Steps.{compare_checks}
use Rattle.dr_steps.specs.Here.{here, rest_of}
use Rattle.dr_steps.specs.Located.{defined_checks}
use Rattle.dr_steps.proofs.FlashLemmas.{step-nowhere, step-done, step-refused, step-ready}
use Rattle.dr_steps.proofs.returning.compare.Goals as goal

pub returns-in-Some-clause-step : goal.returns-in-Some-clause-step
returns-in-Some-clause-step g c =
    let s = g.P.Plant.state c.args.plant.now in let t = c.args.config.now in let h = c.args.tables.now in let ev = c.args.journal.now.events in
    let k : Control = (here s t h ev).control in
    step-nowhere t s s h ev ev (defined_checks c.args.v.0 c.args.u.0) (compare_checks k c.args.v.0 c.args.u.0 ++ refuse_if (differs_at (first_differing (track_seen s t) (k.volume c.args.v.0).tracks c.args.v.0 c.args.u.0)) ∷ []) (Done Alone) c.requires.ready.reads c.in-Some.why (c.in-Some.ensures.checked s h ev)

pub returns-in-Ok-clause-step : goal.returns-in-Ok-clause-step
returns-in-Ok-clause-step g c =
    let s = g.P.Plant.state c.args.plant.now in let t = c.args.config.now in let h = c.args.tables.now in let ev = c.args.journal.now.events in
    step-done t s (g.P.Plant.state c.compare_volumes.new.plant) h ev c.compare_volumes.new.journal.events [] (compare_entries (here s t h ev).control (track_seen s t) c.args.v.0 c.args.u.0) (Done Alone) c.requires.ready.reads
    (λ armed u r ds ends. ends) (c.in-Ok.ensures.carried (rest_of h ev))

pub returns-in-Ok-clause-ready : goal.returns-in-Ok-clause-ready
returns-in-Ok-clause-ready g c =
    let s = g.P.Plant.state c.args.plant.now in let t = c.args.config.now in let h = c.args.tables.now in let ev = c.args.journal.now.events in
    step-ready t s (g.P.Plant.state c.compare_volumes.new.plant) h ev c.compare_volumes.new.journal.events [] (compare_entries (here s t h ev).control (track_seen s t) c.args.v.0 c.args.u.0) (Done Alone) c.requires.ready.reads
    None (λ armed u r ds ends. ends) (c.in-Ok.ensures.carried (rest_of h ev)) c.in-Ok.ensures.rest c.in-Ok.ensures.unarmed c.requires.ready.told

pub returns-in-Err-clause-step : goal.returns-in-Err-clause-step
returns-in-Err-clause-step g c =
    let s = g.P.Plant.state c.args.plant.now in let t = c.args.config.now in let h = c.args.tables.now in let ev = c.args.journal.now.events in
    step-refused t s (g.P.Plant.state c.compare_volumes.new.plant) h ev c.compare_volumes.new.journal.events [] (compare_entries (here s t h ev).control (track_seen s t) c.args.v.0 c.args.u.0) (Done Alone) c.requires.ready.reads
    c.in-Err.refusal (λ armed u r ds ends. ends) (c.in-Err.ensures.carried (rest_of h ev))

pub returns-in-Err-clause-ready : goal.returns-in-Err-clause-ready
returns-in-Err-clause-ready g c =
    let s = g.P.Plant.state c.args.plant.now in let t = c.args.config.now in let h = c.args.tables.now in let ev = c.args.journal.now.events in
    step-ready t s (g.P.Plant.state c.compare_volumes.new.plant) h ev c.compare_volumes.new.journal.events [] (compare_entries (here s t h ev).control (track_seen s t) c.args.v.0 c.args.u.0) (Done Alone) c.requires.ready.reads
    (Some c.in-Err.refusal) (λ armed u r ds ends. ends) (c.in-Err.ensures.carried (rest_of h ev)) c.in-Err.ensures.rest c.in-Err.ensures.unarmed c.requires.ready.told
