use Rattle.std.proofs.Common.{sym, ap, ◌∙◌}
use Rattle.std.specs.Option.{option_or}
use Rattle.dr_model.specs.declared.said.Said.TheVariants.{Refused}
use Rattle.dr_model.specs.Runs.{said}
use Rattle.dr_model.specs.SessionPlans.{master_refusal}
use Rattle.dr_model.specs.Sessions.{session_in, mirror_in}
use Rattle.dr_steps.specs.Here.{here}
use Rattle.dr_steps.proofs.SessionLemmas.{is-defined, not-defined, some-session, abort-nowhere, abort-refused, abort-done, master-low}
use Rattle.dr_steps.proofs.sessions.abort_attempt.Goals as goal

pub returns-then-not-is_defined-clause-step : goal.returns-then-not-is_defined-clause-step
returns-then-not-is_defined-clause-step g c line =
    let s = g.P.Plant.state c.args.plant.now in let t = c.args.config.now in let h = c.args.tables.now in let ev = c.args.journal.now.events in
    abort-nowhere s t h ev line c.args.s.0 (not-defined _ _ c.if-not-is_defined.true c.is_defined.ensures)
    ∙ ap (λ r. said (here s t h ev) line (Refused r)) (sym c.unknown_session.ensures)

pub returns-in-Some-clause-step : goal.returns-in-Some-clause-step
returns-in-Some-clause-step g c line =
    let s = g.P.Plant.state c.args.plant.now in let t = c.args.config.now in let h = c.args.tables.now in let ev = c.args.journal.now.events in
    let at = some-session _ (is-defined _ _ c.if-not-is_defined.false c.is_defined.ensures) in
    let k = (here s t h ev).control in
    abort-refused s t h ev line c.args.s.0 at.0 at.1 c.in-Some.why (ap (λ o. option_or o (master_refusal k (mirror_in (session_in h.sessions.sessions c.args.s.0)))) c.in-Some.ensures.refusal)

pub returns-in-Some-master_refusal-clause-step : goal.returns-in-Some-master_refusal-clause-step
returns-in-Some-master_refusal-clause-step g c line =
    let s = g.P.Plant.state c.args.plant.now in let t = c.args.config.now in let h = c.args.tables.now in let ev = c.args.journal.now.events in
    let at = some-session _ (is-defined _ _ c.if-not-is_defined.false c.is_defined.ensures) in
    abort-refused s t h ev line c.args.s.0 at.0 at.1 c.in-Some-master_refusal.why (λ i. option_or (c.in_default.ensures.refusal i) (c.in-Some-master_refusal.ensures.refusal t h ev i))

pub returns-in-Ok-clause-step : goal.returns-in-Ok-clause-step
returns-in-Ok-clause-step g c line =
    let s = g.P.Plant.state c.args.plant.now in let t = c.args.config.now in let h = c.args.tables.now in let ev = c.args.journal.now.events in
    let at = some-session _ (is-defined _ _ c.if-not-is_defined.false c.is_defined.ensures) in
    abort-done s t h ev line c.args.s.0 at.0 at.1 c.abort.new.self c.raise_if.new.flight c.is_lost-lost.result c.phase_of.result (λ i. option_or (c.in_default.ensures.refusal i) (c.in_default-master_refusal.ensures.refusal t h ev i))
    (ap (λ x. x.sessions) c.in-Ok.ensures.aborted) c.is_lost-lost.ensures c.raise_if.ensures c.phase_of.ensures

pub master_refusal-requires : goal.master_refusal-requires
master_refusal-requires g c =
    record { known = master-low (g.P.Plant.state c.args.plant.now) c.args.config.now c.args.tables.now c.args.journal.now.events c.args.s.0 c.requires.sound }

pub raise_if-requires : goal.raise_if-requires
raise_if-requires g c = record { count = c.requires.counts.epochs c.args.s.0 }
