use Rattle.std.proofs.Common.{refl, ap, ◌∙◌, sym, Err}
use Rattle.dr_model.specs.declared.event.Event.TheVariants.{Server}
use Rattle.dr_steps.proofs.DefineLemmas.{server-refused-here, server-defined, rest-server, on-refusal, along-table}
use Rattle.dr_metro.proofs.ToldLemmas.{told-push}
use Rattle.dr_config.specs.Rules.{refusal_of}
use Rattle.dr_model.specs.declared.said.Addition.{Addition}
use Rattle.dr_steps.proofs.WantLemmas.{on-no-memory, server-wants}
use Rattle.dr_steps.proofs.define.define_server.Goals as goal

pub returns-in-Ok-clause-step : goal.returns-in-Ok-clause-step
returns-in-Ok-clause-step g c line =
    server-defined (g.P.Plant.state c.args.plant.now) c.args.config.now c.args.tables.now c.args.journal.now.events line c.args.name.now c.push.new.self.events
    c.add_server.new.self c.in-Ok.server.0 c.bytes_of.result.now c.in-Ok.ensures.refused
    c.in-Ok.ensures.number c.bytes_of.ensures c.in-Ok.ensures.added c.push.ensures.events

pub returns-in-Ok-clause-ready : goal.returns-in-Ok-clause-ready
returns-in-Ok-clause-ready g c = record {
  rest = along-table (g.P.Plant.state c.args.plant.now) c.add_server.new.self _ c.in-Ok.ensures.added (rest-server (g.P.Plant.state c.args.plant.now) c.args.config.now c.bytes_of.result.now c.requires.ready.rest);
  reads = c.requires.ready.reads;
  told = told-push c.args.tables.now.host c.args.journal.now.events c.push.new.self.events (Server c.in-Ok.server.0 c.args.name.now.len c.args.name.now.bytes) (λ x. refl) c.push.ensures.events c.requires.ready.told;
}

pub returns-in-Err-clause-step : goal.returns-in-Err-clause-step
returns-in-Err-clause-step g c =
    on-refusal c.in-Err.fault _ _ c.in-Err.ensures.refused (λ r is line.
    server-refused-here (g.P.Plant.state c.args.plant.now) c.args.config.now c.args.tables.now c.args.journal.now.events line c.args.name.now c.add_server.new.self c.bytes_of.result.now r c.bytes_of.ensures is c.in-Err.ensures.same)

pub returns-in-Err-clause-wanted : goal.returns-in-Err-clause-wanted
returns-in-Err-clause-wanted g c =
    on-no-memory Addition c.in-Err.fault _ (λ is.
    server-wants (g.P.Plant.state c.args.plant.now) c.args.config.now c.args.tables.now c.args.journal.now.events c.args.name.now c.bytes_of.result.now c.bytes_of.ensures
    (ap (λ f. refusal_of {T = Unit {0}} (Err f)) (sym is) ∙ c.in-Err.ensures.refused))
