use Rattle.std.proofs.Common.{◌<◌, ◌==◌, All, List, map, subst, sym, ap}
use Rattle.dr_model.specs.Messages.{Message}
use Rattle.dr_ctl.specs.Seen.{message_of, seen}
use Rattle.dr_ctl.proofs.Places.{found-is, mapped-is}
use Rattle.dr_ctl.proofs.flight.Flight.get.Goals as goal

pub returns-clause-low : goal.returns-clause-low
returns-clause-low c =
    let low = subst (λ (ms : List Message). All (λ m. m.server < 8) ms) (ap (map seen) (sym c.deref.ensures.value)) c.self.invariant.low in
    mapped-is (message_of c.args.m) (λ m. m.server < 8) c.message_numbered.result _ c.message_numbered.ensures (found-is (λ m. m.server < 8) (λ m. m.number == c.args.m) (map seen c.deref.result.now) low)
