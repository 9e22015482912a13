use Rattle.std.proofs.Common.{◌++◌, ap, map, sym, ◌∙◌, arith, Some, None}
use Rattle.dr_model.specs.declared.said.Said.TheVariants.{Refused}
use Rattle.dr_model.specs.Runs.{said}
use Rattle.dr_model.specs.WriteEntries.{flash_free_on}
use Rattle.dr_volume.specs.View.{ids_of}
use Rattle.dr_freeze.specs.Checks.{owner_in, thaw_checks}
use Rattle.dr_steps.specs.Here.{here, rest_of}
use Rattle.dr_steps.proofs.RelationLemmas.{relations-fit}
use Rattle.dr_steps.proofs.PathLemmas.{owner-nowhere}
use Rattle.dr_steps.proofs.FreezeLemmas.{ready-ends}
use Rattle.dr_steps.proofs.ReleaseLemmas.{release-foreign, release-off, release-done, release-failed}
use Rattle.dr_steps.proofs.flash.unfreeze_flash.Goals as goal

pub returns-in_default-clause-step : goal.returns-in_default-clause-step
returns-in_default-clause-step g c line =
    let s = g.P.Plant.state c.args.plant.now in let t = c.args.config.now in let h = c.args.tables.now in let ev = c.args.journal.now.events in
    owner-nowhere s t h ev line c.in_default.ensures.sound c.args.l.0 _ (sym c.in_default.ensures.value)
    ∙ ap (λ r. said (here s t h ev) line (Refused r)) (sym c.unknown_lss.ensures)

pub returns-then-not-is_named-clause-step : goal.returns-then-not-is_named-clause-step
returns-then-not-is_named-clause-step g c line =
    let s = g.P.Plant.state c.args.plant.now in let t = c.args.config.now in let h = c.args.tables.now in let ev = c.args.journal.now.events in
    release-foreign s t h ev line c.in-Some.ensures.sound c.args.dev.now c.args.l.0 c.in-Some.server.0 (sym c.in-Some.ensures.value) c.in-Some.ensures.defined.below (sym (c.is_named.ensures s h ev) ∙ c.if-not-is_named.true)
    ∙ ap (λ r. said (here s t h ev) line (Refused r)) (sym c.unknown_server.ensures)

pub returns-then-not-is_on-clause-step : goal.returns-then-not-is_on-clause-step
returns-then-not-is_on-clause-step g c line =
    let s = g.P.Plant.state c.args.plant.now in let t = c.args.config.now in let h = c.args.tables.now in let ev = c.args.journal.now.events in
    release-off s t h ev line c.in-Some.ensures.sound c.args.dev.now c.args.l.0 c.in-Some.server.0 (sym c.in-Some.ensures.value) c.in-Some.ensures.defined.below (sym (c.is_named.ensures s h ev) ∙ c.if-not-is_named.false) (sym c.is_on.ensures ∙ c.if-not-is_on.true)

pub unfreeze-requires-clause-fit : goal.unfreeze-requires-clause-fit
unfreeze-requires-clause-fit g c = relations-fit (g.P.Plant.state c.args.plant.now) c.args.config.now c.args.tables.now c.args.journal.now.events c.requires.sound

pub unfreeze-requires-clause-room : goal.unfreeze-requires-clause-room
unfreeze-requires-clause-room g c = let few = c.in-Some.ensures.sound.few_volumes in let room = c.requires.room in omega (arith, few, room)

pub returns-in-Ok-clause-step : goal.returns-in-Ok-clause-step
returns-in-Ok-clause-step g c line =
    let s = g.P.Plant.state c.args.plant.now in let t = c.args.config.now in let h = c.args.tables.now in let ev = c.args.journal.now.events in
    release-done s t h ev line c.in-Some.ensures.sound c.args.dev.now c.args.l.0 c.in-Some.server.0 (sym c.in-Some.ensures.value) c.in-Some.ensures.defined.below (g.P.Plant.state c.unfreeze.new.plant) c.unfreeze.new.journal.events c.requires.ready.reads (sym (c.is_named.ensures s h ev) ∙ c.if-not-is_named.false) (sym c.is_on.ensures ∙ c.if-not-is_on.false) (c.in-Ok.ensures.carried (rest_of h ev))

pub returns-in-Err-clause-step : goal.returns-in-Err-clause-step
returns-in-Err-clause-step g c line =
    let s = g.P.Plant.state c.args.plant.now in let t = c.args.config.now in let h = c.args.tables.now in let ev = c.args.journal.now.events in
    release-failed s t h ev line c.in-Some.ensures.sound c.args.dev.now c.args.l.0 c.in-Some.server.0 (sym c.in-Some.ensures.value) c.in-Some.ensures.defined.below (g.P.Plant.state c.unfreeze.new.plant) c.unfreeze.new.journal.events c.requires.ready.reads (sym (c.is_named.ensures s h ev) ∙ c.if-not-is_named.false) (sym c.is_on.ensures ∙ c.if-not-is_on.false) c.in-Err.refusal (c.in-Err.ensures.carried (rest_of h ev))

pub returns-in-Ok-clause-ready : goal.returns-in-Ok-clause-ready
returns-in-Ok-clause-ready g c =
    let s = g.P.Plant.state c.args.plant.now in let t = c.args.config.now in let h = c.args.tables.now in let ev = c.args.journal.now.events in
    ready-ends s (g.P.Plant.state c.unfreeze.new.plant) t t h ev c.unfreeze.new.journal.events None (thaw_checks (owner_in t c.args.l.0) ++ map (flash_free_on c.args.l.0) (ids_of t.volumes)) (c.in-Ok.ensures.carried (rest_of h ev)) c.in-Ok.ensures.rest c.in-Ok.ensures.unarmed c.requires.ready

pub returns-in-Ok-clause-room : goal.returns-in-Ok-clause-room
returns-in-Ok-clause-room g c = let few = c.in-Some.ensures.sound.few_volumes in let room = c.requires.room in let left = c.in-Ok.ensures.room in omega (arith, few, room, left)

pub returns-in-Err-clause-ready : goal.returns-in-Err-clause-ready
returns-in-Err-clause-ready g c =
    let s = g.P.Plant.state c.args.plant.now in let t = c.args.config.now in let h = c.args.tables.now in let ev = c.args.journal.now.events in
    ready-ends s (g.P.Plant.state c.unfreeze.new.plant) t t h ev c.unfreeze.new.journal.events (Some c.in-Err.refusal) (thaw_checks (owner_in t c.args.l.0) ++ map (flash_free_on c.args.l.0) (ids_of t.volumes)) (c.in-Err.ensures.carried (rest_of h ev)) c.in-Err.ensures.rest c.in-Err.ensures.unarmed c.requires.ready

pub returns-in-Err-clause-room : goal.returns-in-Err-clause-room
returns-in-Err-clause-room g c = let few = c.in-Some.ensures.sound.few_volumes in let room = c.requires.room in let left = c.in-Err.ensures.room in omega (arith, few, room, left)
