use Rattle.std.proofs.Common.{◌==◌, not, map, refl, ap, sym, ◌∙◌}
use Rattle.std.specs.List.{position}
use Rattle.dr_model.specs.Messages as model
use Rattle.dr_ctl.specs.Kept.{flight_in, lose_refusal}
use Rattle.dr_ctl.specs.Seen.{seen, kept_of}
use Rattle.dr_ctl.proofs.Places.{lost-there, found-nowhere, known}
use Rattle.dr_ctl.proofs.Sound.{sound-filter}
use Rattle.dr_ctl.proofs.flight.Flight.lose.Goals as goal

pub invariant_of-self : goal.invariant_of-self
invariant_of-self c =
    let place = ap (λ xs. position (λ m. m.number == c.args.m) (map seen xs)) (sym c.deref.ensures.value) ∙ (sym c.place_of.ensures ∙ c.in-Some.is) in
    sound-filter (kept_of c.self.inside) _ (λ m. not (m.number == c.args.m))
    (lost-there c.self.inside.messages.items c.args.m c.in-Some.i c.take_out.new.messages.items c.self.invariant.numbered.order place c.take_out.ensures) refl refl c.self.invariant

pub returns-in-Some-clause-refused : goal.returns-in-Some-clause-refused
returns-in-Some-clause-refused c =
    let place = ap (λ xs. position (λ m. m.number == c.args.m) (map seen xs)) (sym c.deref.ensures.value) ∙ (sym c.place_of.ensures ∙ c.in-Some.is) in
    sym (sym (ap (λ t. lose_refusal (model.message_in (flight_in t) c.args.m)) c.self.view_is) ∙ known (map seen c.self.inside.messages.items) c.args.m c.in-Some.i place)

pub returns-in-Some-clause-lost : goal.returns-in-Some-clause-lost
returns-in-Some-clause-lost c =
    let place = ap (λ xs. position (λ m. m.number == c.args.m) (map seen xs)) (sym c.deref.ensures.value) ∙ (sym c.place_of.ensures ∙ c.in-Some.is) in
    let gone = lost-there c.self.inside.messages.items c.args.m c.in-Some.i c.take_out.new.messages.items c.self.invariant.numbered.order place c.take_out.ensures in
    (λ j. record (flight_in (kept_of c.self.inside)) { messages = gone j }) ∙ ap (λ t. model.lost c.args.m (flight_in t)) c.self.view_is

pub returns-in-None-clause-refused : goal.returns-in-None-clause-refused
returns-in-None-clause-refused c =
    let place = ap (λ xs. position (λ m. m.number == c.args.m) (map seen xs)) (sym c.deref.ensures.value) ∙ (sym c.place_of.ensures ∙ c.in-None.is) in
    sym (sym (ap (λ t. lose_refusal (model.message_in (flight_in t) c.args.m)) c.self.view_is) ∙ ap lose_refusal (found-nowhere (map seen c.self.inside.messages.items) c.args.m place))
