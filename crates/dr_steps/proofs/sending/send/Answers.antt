use Rattle.std.proofs.Common.{ap, sym, ◌∙◌}
use Rattle.dr_model.specs.declared.said.Addition.{Addition}
use Rattle.dr_model.specs.declared.said.Said.TheVariants.{Refused}
use Rattle.dr_model.specs.Runs.{after_plan, said}
use Rattle.dr_model.specs.Sessions.{session_in}
use Rattle.dr_steps.specs.Here.{here}
use Rattle.dr_steps.proofs.ExchangeLemmas.{some-defined}
use Rattle.dr_steps.proofs.NamedLemmas.{named-nowhere, named-foreign, named-goes}
use Rattle.dr_steps.proofs.SendLemmas.{send_for, send-at, send-wants}
use Rattle.dr_steps.proofs.SessionLemmas.{not-defined}
use Rattle.dr_steps.proofs.StepLemmas.{answer-weaker}
use Rattle.dr_steps.proofs.WantLemmas.{no-memory-then}
use Rattle.dr_steps.proofs.sending.send.Goals as goal

pub returns-then-not-is_defined-clause-step : goal.returns-then-not-is_defined-clause-step
returns-then-not-is_defined-clause-step g c line =
    let s = g.P.Plant.state c.args.plant.now in let t = c.args.config.now in let h = c.args.tables.now in let ev = c.args.journal.now.events in let n = c.args.s.0 in
    named-nowhere s t h ev line n c.args.name.now (send_for (here s t h ev).control n) (not-defined c.is_defined.result (session_in h.sessions.sessions n) c.if-not-is_defined.true c.is_defined.ensures)
    ∙ ap (λ r. said (here s t h ev) line (Refused r)) (sym c.unknown_session.ensures)

pub returns-in_default-clause-step : goal.returns-in_default-clause-step
returns-in_default-clause-step g c line =
    let s = g.P.Plant.state c.args.plant.now in let t = c.args.config.now in let h = c.args.tables.now in let ev = c.args.journal.now.events in let n = c.args.s.0 in
    let x = some-defined c.is_defined.result (session_in h.sessions.sessions n) c.if-not-is_defined.false c.is_defined.ensures in
    named-foreign s t h ev line n c.args.name.now (send_for (here s t h ev).control n) x.0 x.1 c.bytes_of.result.now c.bytes_of.ensures (sym c.in_default.ensures.place)
    ∙ ap (λ r. said (here s t h ev) line (Refused r)) (sym c.unknown_server.ensures)

pub returns-clause-step : goal.returns-clause-step
returns-clause-step g c =
    let s = g.P.Plant.state c.args.plant.now in let t = c.args.config.now in let h = c.args.tables.now in let ev = c.args.journal.now.events in let n = c.args.s.0 in
    let server = c.in-Some.server.0 in
    let x = some-defined c.is_defined.result (session_in h.sessions.sessions n) c.if-not-is_defined.false c.is_defined.ensures in
    answer-weaker c.send_to.result _ _ (λ a leads line.
    named-goes s t h ev line n c.args.name.now (send_for (here s t h ev).control n) x.0 x.1 c.bytes_of.result.now c.bytes_of.ensures server (said (here s t c.send_to.new.tables c.send_to.new.journal.events) line a) (sym c.in-Some.ensures.place)
    (ap (after_plan (here s t h ev) line) (send-at s t h ev n server x.0 x.1) ∙ leads line)) c.send_to.ensures.step

pub returns-clause-wanted : goal.returns-clause-wanted
returns-clause-wanted g c =
    let s = g.P.Plant.state c.args.plant.now in let t = c.args.config.now in let h = c.args.tables.now in let ev = c.args.journal.now.events in let n = c.args.s.0 in
    let x = some-defined c.is_defined.result (session_in h.sessions.sessions n) c.if-not-is_defined.false c.is_defined.ensures in
    no-memory-then Addition c.send_to.result _ _ (send-wants s t h ev n c.in-Some.server.0 c.args.name.now x.0 x.1 c.bytes_of.result.now c.bytes_of.ensures (sym c.in-Some.ensures.place)) c.send_to.ensures.wanted
