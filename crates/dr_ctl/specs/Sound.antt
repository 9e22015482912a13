-- What is true of every flight.
use Rattle.std.specs.Prelude.{◌<◌, ◌≤◌, All, AllPairs}
use Rattle.dr_model.specs.Messages.{Flight}
use Rattle.dr_ctl.specs.Kept.{KeptFlight, flight_in, AreRows}

-- Each message has a number that was given, and numbers rise in the order in which messages were made: so none is that of two.
pub record IsNumbered (f : Flight) : Type 0 where
  pub given : All (λ m. m.number ≤ f.made) f.messages
  pub order : AllPairs (λ m q. m.number < q.number) f.messages

-- And each goes to one of eight servers, or comes from one; each row of fences has one for each of these.
pub record IsSoundFlight (t : KeptFlight) : Type 0 where
  pub numbered : IsNumbered (flight_in t)
  pub low : All (λ m. m.server < 8) t.messages
  pub rows : AreRows t.fences
