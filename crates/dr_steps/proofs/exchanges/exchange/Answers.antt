use Rattle.std.proofs.Common.{ap, sym, ◌∙◌}
use Rattle.dr_model.specs.declared.said.Said.TheVariants.{Refused}
use Rattle.dr_model.specs.Runs.{said}
use Rattle.dr_model.specs.Sessions.{session_in}
use Rattle.dr_steps.specs.Here.{here}
use Rattle.dr_steps.proofs.ExchangeLemmas.{some-defined, exchange_for, exchange-goes}
use Rattle.dr_steps.proofs.NamedLemmas.{named-nowhere, named-foreign}
use Rattle.dr_steps.proofs.exchanges.exchange.Goals as goal
use Rattle.dr_steps.proofs.SessionLemmas.{not-defined}

pub returns-then-not-is_defined-clause-step : goal.returns-then-not-is_defined-clause-step
returns-then-not-is_defined-clause-step g c line =
    let s = g.P.Plant.state c.args.plant.now in let t = c.args.config.now in let h = c.args.tables.now in let ev = c.args.journal.now.events in let n = c.args.s.0 in
    named-nowhere s t h ev line n c.args.name.now (exchange_for (here s t h ev).control n c.args.reply) (not-defined c.is_defined.result (session_in h.sessions.sessions n) c.if-not-is_defined.true c.is_defined.ensures)
    ∙ ap (λ r. said (here s t h ev) line (Refused r)) (sym c.unknown_session.ensures)

pub returns-in_default-clause-step : goal.returns-in_default-clause-step
returns-in_default-clause-step g c line =
    let s = g.P.Plant.state c.args.plant.now in let t = c.args.config.now in let h = c.args.tables.now in let ev = c.args.journal.now.events in let n = c.args.s.0 in
    let x = some-defined c.is_defined.result (session_in h.sessions.sessions n) c.if-not-is_defined.false c.is_defined.ensures in
    named-foreign s t h ev line n c.args.name.now (exchange_for (here s t h ev).control n c.args.reply) x.0 x.1 c.bytes_of.result.now c.bytes_of.ensures (sym c.in_default.ensures.place)
    ∙ ap (λ r. said (here s t h ev) line (Refused r)) (sym c.unknown_server.ensures)

pub returns-clause-step : goal.returns-clause-step
returns-clause-step g c line =
    let s = g.P.Plant.state c.args.plant.now in let t = c.args.config.now in let h = c.args.tables.now in let ev = c.args.journal.now.events in let n = c.args.s.0 in
    let x = some-defined c.is_defined.result (session_in h.sessions.sessions n) c.if-not-is_defined.false c.is_defined.ensures in
    exchange-goes s t h ev line n c.args.name.now c.args.reply x.0 x.1 c.bytes_of.result.now c.bytes_of.ensures c.in-Some.server.0 _ _ (sym c.in-Some.ensures.place) c.ask_server.ensures.step
