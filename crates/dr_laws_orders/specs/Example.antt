-- An example: session 7 was asked to commit, its master was lost, and server 1 has reported for the epoch after that.
use Rattle.std.specs.Prelude.{ℕ, [], ◌∷◌}
use Rattle.dr_logic.specs.Tables.{at, at2}
use Rattle.dr_model.specs.Phases as phases
use Rattle.dr_model.specs.Control.{Control}
use Rattle.dr_model.specs.Messages.{Message, Asks, Flight, no_flight}
use Rattle.dr_laws_attempts.specs.Example.{one_committed}

-- the order to commit number 1, as message n of epoch e, to server 1
abbrev pub order : ℕ → ℕ → Message
order n e = record { number = n; session = 7; epoch = e; server = 1; order = record { work = phases.Commit; number = 1 }; body = Asks 0 }

-- message 1 is of epoch 1, and message 2 of the next one, for which the server has reported
abbrev pub flight : Flight
flight = record no_flight { messages = order 1 1 ∷ order 2 2 ∷ []; made = 2; epoch = at no_flight.epoch 7 2; fence = at2 no_flight.fence 7 1 2 }

-- one of two flashed targets is committed, and server 1 has the other one's primary
abbrev pub fenced : Control
fenced = record one_committed { flight = flight }
