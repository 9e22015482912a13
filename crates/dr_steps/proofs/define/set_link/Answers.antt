use Rattle.std.proofs.Common.{sym, ap, ◌∙◌}
use Rattle.dr_model.specs.declared.said.Said.TheVariants.{Refused}
use Rattle.dr_model.specs.Plans.{on_server, link_between}
use Rattle.dr_model.specs.Runs.{said}
use Rattle.dr_steps.specs.Here.{here}
use Rattle.dr_steps.proofs.DefineLemmas.{link-refused, link-set, ready-link}
use Rattle.dr_steps.proofs.StopLemmas.{unknown-server, known-server}
use Rattle.dr_steps.proofs.define.set_link.Goals as goal

pub returns-in_default-clause-step : goal.returns-in_default-clause-step
returns-in_default-clause-step g c line =
    let s = g.P.Plant.state c.args.plant.now in let t = c.args.config.now in let h = c.args.tables.now in let ev = c.args.journal.now.events in
    let k = (here s t h ev).control in
    unknown-server s t h ev line (λ x. on_server k c.args.second.now (λ y. link_between x y c.args.up)) c.args.first.now c.bytes_of.result.now c.bytes_of.ensures (sym c.in_default.ensures.place)
    ∙ ap (λ r. said (here s t h ev) line (Refused r)) (sym c.unknown_server.ensures)

pub returns-in_default-server_named-clause-step : goal.returns-in_default-server_named-clause-step
returns-in_default-server_named-clause-step g c line =
    let s = g.P.Plant.state c.args.plant.now in let t = c.args.config.now in let h = c.args.tables.now in let ev = c.args.journal.now.events in
    let k = (here s t h ev).control in
    known-server s t h ev line (λ x. on_server k c.args.second.now (λ y. link_between x y c.args.up)) c.args.first.now c.bytes_of.result.now c.in-Some.a.0 _ c.bytes_of.ensures (sym c.in-Some.ensures.place)
    (unknown-server s t h ev line (λ y. link_between c.in-Some.a.0 y c.args.up) c.args.second.now c.bytes_of-2.result.now c.bytes_of-2.ensures (sym c.in_default-server_named.ensures.place))
    ∙ ap (λ r. said (here s t h ev) line (Refused r)) (sym c.unknown_server-in_default-server_named.ensures)

pub returns-in-Ok-clause-step : goal.returns-in-Ok-clause-step
returns-in-Ok-clause-step g c line =
    link-set (g.P.Plant.state c.args.plant.now) c.args.config.now c.args.tables.now c.args.journal.now.events line c.args.first.now c.args.second.now c.args.up c.in-Some.a.0 c.in-Some-server_named.b.0
    c.bytes_of.result.now c.bytes_of-2.result.now c.bytes_of.ensures (sym c.in-Some.ensures.place) c.bytes_of-2.ensures (sym c.in-Some-server_named.ensures.place) c.set_link.new.self
    c.in-Some.ensures.sound c.in-Some.ensures.defined.defined c.in-Some-server_named.ensures.defined.defined c.in-Ok.ensures.refused c.in-Ok.ensures.set

pub returns-in-Ok-clause-ready : goal.returns-in-Ok-clause-ready
returns-in-Ok-clause-ready g c =
    ready-link (g.P.Plant.state c.args.plant.now) c.args.config.now c.set_link.new.self c.args.tables.now c.args.journal.now.events c.in-Some.a.0 c.in-Some-server_named.b.0 c.args.up c.in-Ok.ensures.set c.requires.ready

pub returns-in-Err-clause-step : goal.returns-in-Err-clause-step
returns-in-Err-clause-step g c line =
    link-refused (g.P.Plant.state c.args.plant.now) c.args.config.now c.args.tables.now c.args.journal.now.events line c.args.first.now c.args.second.now c.args.up c.in-Some.a.0 c.in-Some-server_named.b.0
    c.bytes_of.result.now c.bytes_of-2.result.now c.bytes_of.ensures (sym c.in-Some.ensures.place) c.bytes_of-2.ensures (sym c.in-Some-server_named.ensures.place) c.set_link.new.self c.in-Err.refusal
    c.in-Err.ensures.refused c.in-Err.ensures.same
