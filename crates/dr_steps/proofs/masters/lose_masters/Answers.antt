use Rattle.std.proofs.Common.{ap, not, ◌∙◌}
use Rattle.dr_ctl.specs.Kept.{flight_in}
use Rattle.dr_volume.specs.View.{on_seen}
use Rattle.dr_steps.proofs.EpochLemmas.{epochs-all, no-sessions, none-lost, none-begin}
use Rattle.dr_steps.proofs.masters.lose_masters.Goals as goal

pub returns-then-is_none-clause-sessions : goal.returns-then-is_none-clause-sessions
returns-then-is_none-clause-sessions g c s was =
    let t = c.args.sessions.now in
    let none = no-sessions t.sessions c.session_at.result c.session_at.ensures.value (c.is_none.ensures ∙ ap not c.if-is_none.true) in
    λ i. record t { sessions = none-lost (on_seen s) (on_seen (g.P.Plant.state c.args.plant.now)) t.sessions none i }

pub returns-then-is_none-clause-flight : goal.returns-then-is_none-clause-flight
returns-then-is_none-clause-flight g c s was =
    let ss = c.args.sessions.now.sessions in
    let none = no-sessions ss c.session_at.result c.session_at.ensures.value (c.is_none.ensures ∙ ap not c.if-is_none.true) in
    none-begin (on_seen s) (on_seen (g.P.Plant.state c.args.plant.now)) ss (flight_in c.args.flight.now) none

pub returns-clause-flight : goal.returns-clause-flight
returns-clause-flight g c s was =
    c.raise_epochs.ensures.raised ∙ epochs-all s (g.P.Plant.state c.args.plant.now) c.args.before.now was c.args.sessions.now.sessions (flight_in c.args.flight.now)
