use Rattle.std.proofs.Common.{ap, sym, ◌∙◌, ◌<◌, subst, refl}
use Rattle.dr_model.specs.declared.said.Said.TheVariants.{Done}
use Rattle.dr_model.specs.declared.said.Addition.TheVariants.{Showed}
use Rattle.dr_model.specs.Runs.{said}
use Rattle.dr_steps.specs.Here.{here, IsReady}
use Rattle.dr_steps.proofs.StepLemmas.{showed-nowhere, showed-off, showed-on, calm-nowhere}
use Rattle.dr_metro.proofs.ToldLemmas.{told-ready}
use Rattle.dr_steps.proofs.RelationLemmas.{relations-fit}
use Rattle.dr_steps.proofs.steps.show.Goals as goal

pub returns-in-Err-clause-step : goal.returns-in-Err-clause-step
returns-in-Err-clause-step g c =
    let s = g.P.Plant.state c.args.plant.now in let t = c.args.config.now in let h = c.args.tables.now in let ev = c.args.journal.now.events in
    showed-nowhere s t h ev c.args.line c.args.volume.0 c.args.track c.in-Err.refusal (c.in-Err.ensures s h ev)

pub returns-in-Err-clause-faults : goal.returns-in-Err-clause-faults
returns-in-Err-clause-faults g c =
    let s = g.P.Plant.state c.args.plant.now in let t = c.args.config.now in let h = c.args.tables.now in let ev = c.args.journal.now.events in
    calm-nowhere s t h ev c.args.volume.0 c.args.track c.in-Err.refusal s (c.in-Err.ensures s h ev)

pub is_on-requires : goal.is_on-requires
is_on-requires g c = (c.in-Ok.ensures (g.P.Plant.state c.args.plant.now) c.args.tables.now c.args.journal.now.events).1.known

pub returns-then-not-is_on-clause-step : goal.returns-then-not-is_on-clause-step
returns-then-not-is_on-clause-step g c =
    let s = g.P.Plant.state c.args.plant.now in let t = c.args.config.now in let h = c.args.tables.now in let ev = c.args.journal.now.events in
    let at = c.in-Ok.ensures s h ev in
    showed-off s t h ev c.args.line c.args.volume.0 c.args.track c.in-Ok.place at.0 at.1 (sym c.if-not-is_on.ensures)

pub read_running-bytes-requires : goal.read_running-bytes-requires
read_running-bytes-requires g c =
    let s = g.P.Plant.state c.args.plant.now in
    let at = (c.in-Ok.ensures s c.args.tables.now c.args.journal.now.events).1 in
    record {
      ready = c.requires.ready;
      defined = at.defined;
      running = ap s.on at.server ∙ sym c.if-not-is_on.ensures;
      known = subst (λ o. o < 8) (sym at.server) at.known;
      fit = relations-fit s c.args.config.now c.args.tables.now c.args.journal.now.events c.requires.sound;
      within = at.within;
    }

pub returns-clause-step : goal.returns-clause-step
returns-clause-step g c =
    let s = g.P.Plant.state c.args.plant.now in let t = c.args.config.now in let h = c.args.tables.now in let ev = c.args.journal.now.events in
    let at = c.in-Ok.ensures s h ev in
    showed-on s t h ev c.args.line c.args.volume.0 c.args.track c.push.new.self.events c.in-Ok.place c.read_running-bytes.result c.requires.sound at.0 at.1 (sym c.if-not-is_on.ensures) c.read_running-bytes.ensures.bytes c.push.ensures.events
    ∙ ap (λ x. said (here x t h c.push.new.self.events) c.args.line (Done Showed)) (sym c.read_running-bytes.ensures.same)

pub returns-clause-ready : goal.returns-clause-ready
returns-clause-ready g c =
    subst (λ s. IsReady s c.args.config.now c.args.tables.now c.push.new.self.events) (sym c.read_running-bytes.ensures.same)
    (told-ready _ c.args.config.now c.args.tables.now.host c.args.journal.now.events c.push.new.self.events _ (λ x. refl) c.push.ensures.events c.requires.ready)
