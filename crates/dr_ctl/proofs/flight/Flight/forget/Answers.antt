use Rattle.std.proofs.Common.{◌==◌, not, refl, ap, ◌∙◌}
use Rattle.dr_model.specs.Messages as model
use Rattle.dr_ctl.specs.Kept.{flight_in}
use Rattle.dr_ctl.specs.Seen.{kept_of}
use Rattle.dr_ctl.proofs.Places.{forgotten-there}
use Rattle.dr_ctl.proofs.Sound.{sound-filter}
use Rattle.dr_ctl.proofs.flight.Flight.forget.Goals as goal

pub invariant_of-self : goal.invariant_of-self
invariant_of-self c =
    sound-filter (kept_of c.self.inside) _ (λ m. not (m.session == c.args.s.0)) (forgotten-there c.self.inside.messages.items c.args.s.0 c.take_session_out.new.messages.items c.take_session_out.ensures) refl refl c.self.invariant

pub returns : goal.returns
returns c =
    (λ j. record (flight_in (kept_of c.self.inside)) { messages = forgotten-there c.self.inside.messages.items c.args.s.0 c.take_session_out.new.messages.items c.take_session_out.ensures j })
    ∙ ap (λ t. model.forgotten c.args.s.0 (flight_in t)) c.self.view_is
