use Rattle.std.proofs.Common.{sym, ap, ◌∙◌}
use Rattle.dr_model.specs.declared.said.Said.TheVariants.{Done, Refused}
use Rattle.dr_model.specs.declared.said.Addition.TheVariants.{Alone}
use Rattle.dr_model.specs.Plans.{arm_on}
use Rattle.dr_model.specs.Runs.{said}
use Rattle.dr_steps.specs.Here.{here}
use Rattle.dr_steps.proofs.StopLemmas.{unknown-server, known-server, armed-now}
use Rattle.dr_steps.proofs.stops.arm.Goals as goal

pub returns-in_default-clause-step : goal.returns-in_default-clause-step
returns-in_default-clause-step g c line =
    let s = g.P.Plant.state c.args.plant.now in let t = c.args.config.now in let h = c.args.tables.now in let ev = c.args.journal.now.events in
    unknown-server s t h ev line (arm_on c.args.writes c.args.word) c.args.name.now c.bytes_of.result.now c.bytes_of.ensures (sym c.in_default.ensures.place)
    ∙ ap (λ r. said (here s t h ev) line (Refused r)) (sym c.unknown_server.ensures)

pub returns-clause-step : goal.returns-clause-step
returns-clause-step g c line =
    let s = g.P.Plant.state c.args.plant.now in let t = c.args.config.now in let h = c.args.tables.now in let ev = c.args.journal.now.events in
    let u = g.P.Plant.state c.arm_writes.new.self in
    known-server s t h ev line (arm_on c.args.writes c.args.word) c.args.name.now c.bytes_of.result.now c.in-Some.server.0 (said (here u t h ev) line (Done Alone)) c.bytes_of.ensures (sym c.in-Some.ensures.place)
    (armed-now s t h ev line c.in-Some.server.0 c.args.writes c.args.word c.torn.result u c.in-Some.ensures.defined.below c.torn.ensures c.arm_writes.ensures)
