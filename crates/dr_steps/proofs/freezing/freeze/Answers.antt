use Rattle.std.proofs.Common.{◌++◌, ap, sym, ◌∙◌, arith, Some, None}
use Rattle.std.specs.Prelude.{is_some}
use Rattle.dr_model.specs.declared.said.Said.TheVariants.{Refused}
use Rattle.dr_model.specs.Runs.{said}
use Rattle.dr_model.specs.WriteEntries.{freeze_entries}
use Rattle.dr_volume.specs.View.{ids_of}
use Rattle.dr_freeze.specs.Checks.{owner_in, freeze_checks}
use Rattle.dr_steps.specs.Here.{here, rest_of}
use Rattle.dr_steps.proofs.RelationLemmas.{relations-fit}
use Rattle.dr_steps.proofs.PathLemmas.{owner-nowhere, owner-there}
use Rattle.dr_steps.proofs.FreezeLemmas.{freeze-nowhere, freeze-foreign, freeze-off, freeze-done, freeze-failed, ready-ends}
use Rattle.dr_steps.proofs.freezing.freeze.Goals as goal

pub returns-in_default-clause-step : goal.returns-in_default-clause-step
returns-in_default-clause-step g c line =
    let s = g.P.Plant.state c.args.plant.now in let t = c.args.config.now in let h = c.args.tables.now in let ev = c.args.journal.now.events in
    owner-nowhere s t h ev line c.in_default.ensures.sound c.args.src.0 _ (sym c.in_default.ensures.value)
    ∙ ap (λ r. said (here s t h ev) line (Refused r)) (sym c.unknown_lss.ensures)

pub returns-in_default-lss_owner-clause-step : goal.returns-in_default-lss_owner-clause-step
returns-in_default-lss_owner-clause-step g c line =
    let s = g.P.Plant.state c.args.plant.now in let t = c.args.config.now in let h = c.args.tables.now in let ev = c.args.journal.now.events in
    owner-there s t h ev line c.in-Some.ensures.sound c.args.src.0 c.in-Some.first.0 _ (sym c.in-Some.ensures.value)
    ∙ owner-nowhere s t h ev line c.in-Some.ensures.sound c.args.tgt.0 _ (sym c.in_default-lss_owner.ensures.value)
    ∙ ap (λ r. said (here s t h ev) line (Refused r)) (sym c.unknown_lss-in_default-lss_owner.ensures)

pub returns-in_default-path-clause-step : goal.returns-in_default-path-clause-step
returns-in_default-path-clause-step g c line =
    let s = g.P.Plant.state c.args.plant.now in let t = c.args.config.now in let h = c.args.tables.now in let ev = c.args.journal.now.events in
    freeze-nowhere s t h ev line c.in-Some.ensures.sound c.args.devs.now c.args.src.0 c.args.tgt.0 c.in-Some.first.0 c.in-Some-lss_owner.second.0 (sym c.in-Some.ensures.value) (sym c.in-Some-lss_owner.ensures.value) c.in-Some.ensures.defined.below (ap is_some (sym c.in_default-path.ensures))

pub returns-then-not-are_named-clause-step : goal.returns-then-not-are_named-clause-step
returns-then-not-are_named-clause-step g c line =
    let s = g.P.Plant.state c.args.plant.now in let t = c.args.config.now in let h = c.args.tables.now in let ev = c.args.journal.now.events in
    freeze-foreign s t h ev line c.in-Some.ensures.sound c.args.devs.now c.args.src.0 c.args.tgt.0 c.in-Some.first.0 c.in-Some-lss_owner.second.0 (sym c.in-Some.ensures.value) (sym c.in-Some-lss_owner.ensures.value) c.in-Some.ensures.defined.below (ap is_some (sym c.in-Some-path.ensures)) (sym (c.are_named.ensures s h ev) ∙ c.if-not-are_named.true)
    ∙ ap (λ r. said (here s t h ev) line (Refused r)) (sym c.unknown_server.ensures)

pub returns-then-not-is_on-clause-step : goal.returns-then-not-is_on-clause-step
returns-then-not-is_on-clause-step g c line =
    let s = g.P.Plant.state c.args.plant.now in let t = c.args.config.now in let h = c.args.tables.now in let ev = c.args.journal.now.events in
    freeze-off s t h ev line c.in-Some.ensures.sound c.args.devs.now c.args.src.0 c.args.tgt.0 c.in-Some.first.0 c.in-Some-lss_owner.second.0 (sym c.in-Some.ensures.value) (sym c.in-Some-lss_owner.ensures.value) c.in-Some.ensures.defined.below (ap is_some (sym c.in-Some-path.ensures)) (sym (c.are_named.ensures s h ev) ∙ c.if-not-are_named.false) (sym c.is_on.ensures ∙ c.if-not-is_on.true)

pub freeze-requires-clause-fit : goal.freeze-requires-clause-fit
freeze-requires-clause-fit g c = relations-fit (g.P.Plant.state c.args.plant.now) c.args.config.now c.args.tables.now c.args.journal.now.events c.requires.sound

pub freeze-requires-clause-room : goal.freeze-requires-clause-room
freeze-requires-clause-room g c = let few = c.in-Some.ensures.sound.few_volumes in let room = c.requires.room in omega (arith, few, room)

pub returns-in-Ok-clause-step : goal.returns-in-Ok-clause-step
returns-in-Ok-clause-step g c line =
    let s = g.P.Plant.state c.args.plant.now in let t = c.args.config.now in let h = c.args.tables.now in let ev = c.args.journal.now.events in
    freeze-done s t h ev line c.in-Some.ensures.sound c.args.devs.now c.args.src.0 c.args.tgt.0 c.in-Some.first.0 c.in-Some-lss_owner.second.0 (sym c.in-Some.ensures.value) (sym c.in-Some-lss_owner.ensures.value) c.in-Some.ensures.defined.below (g.P.Plant.state c.freeze.new.plant) c.freeze.new.config c.freeze.new.journal.events c.requires.ready.reads (sym (c.are_named.ensures s h ev) ∙ c.if-not-are_named.false) (sym c.is_on.ensures ∙ c.if-not-is_on.false) (ap is_some (sym c.in-Some-path.ensures)) (c.in-Ok.ensures.carried (rest_of h ev))

pub returns-in-Err-clause-step : goal.returns-in-Err-clause-step
returns-in-Err-clause-step g c line =
    let s = g.P.Plant.state c.args.plant.now in let t = c.args.config.now in let h = c.args.tables.now in let ev = c.args.journal.now.events in
    freeze-failed s t h ev line c.in-Some.ensures.sound c.args.devs.now c.args.src.0 c.args.tgt.0 c.in-Some.first.0 c.in-Some-lss_owner.second.0 (sym c.in-Some.ensures.value) (sym c.in-Some-lss_owner.ensures.value) c.in-Some.ensures.defined.below (g.P.Plant.state c.freeze.new.plant) c.freeze.new.config c.freeze.new.journal.events c.requires.ready.reads (sym (c.are_named.ensures s h ev) ∙ c.if-not-are_named.false) (sym c.is_on.ensures ∙ c.if-not-is_on.false) (ap is_some (sym c.in-Some-path.ensures)) c.in-Err.refusal (c.in-Err.ensures.carried (rest_of h ev))

pub returns-in-Ok-clause-ready : goal.returns-in-Ok-clause-ready
returns-in-Ok-clause-ready g c =
    let s = g.P.Plant.state c.args.plant.now in let t = c.args.config.now in let h = c.args.tables.now in let ev = c.args.journal.now.events in
    ready-ends s (g.P.Plant.state c.freeze.new.plant) t c.freeze.new.config h ev c.freeze.new.journal.events None (freeze_checks (owner_in t c.args.src.0) c.args.src.0 c.args.tgt.0 ++ freeze_entries (ids_of t.volumes) c.args.src.0 c.args.tgt.0) (c.in-Ok.ensures.carried (rest_of h ev)) c.in-Ok.ensures.rest c.in-Ok.ensures.unarmed c.requires.ready

pub returns-in-Ok-clause-room : goal.returns-in-Ok-clause-room
returns-in-Ok-clause-room g c = let few = c.in-Some.ensures.sound.few_volumes in let room = c.requires.room in let left = c.in-Ok.ensures.room in omega (arith, few, room, left)

pub returns-in-Err-clause-ready : goal.returns-in-Err-clause-ready
returns-in-Err-clause-ready g c =
    let s = g.P.Plant.state c.args.plant.now in let t = c.args.config.now in let h = c.args.tables.now in let ev = c.args.journal.now.events in
    ready-ends s (g.P.Plant.state c.freeze.new.plant) t c.freeze.new.config h ev c.freeze.new.journal.events (Some c.in-Err.refusal) (freeze_checks (owner_in t c.args.src.0) c.args.src.0 c.args.tgt.0 ++ freeze_entries (ids_of t.volumes) c.args.src.0 c.args.tgt.0) (c.in-Err.ensures.carried (rest_of h ev)) c.in-Err.ensures.rest c.in-Err.ensures.unarmed c.requires.ready

pub returns-in-Err-clause-room : goal.returns-in-Err-clause-room
returns-in-Err-clause-room g c = let few = c.in-Some.ensures.sound.few_volumes in let room = c.requires.room in let left = c.in-Err.ensures.room in omega (arith, few, room, left)
