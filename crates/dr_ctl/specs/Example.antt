-- A flight as an example: session 1 asks two servers for the hold of its first attempt; the second replies, and again as the order comes
-- once more; then the order to the first is lost.
use Rattle.dr_model.specs.Phases.{Order, Hold, Done}
use Rattle.dr_model.specs.Messages.{Message, Asks, Flight, no_flight, sent, answered, lost}

-- the hold of the first attempt
abbrev pub first_hold : Order
first_hold = record { work = Hold; number = 1 }

-- the order to server 1, which is message 2
abbrev pub second_order : Message
second_order = record { number = 2; session = 1; epoch = 0; server = 1; order = first_hold; body = Asks 0 }

-- both orders are in flight
abbrev pub asked : Flight
asked = sent 1 1 first_hold (sent 1 0 first_hold no_flight)

-- the second was answered twice, and the first is lost
abbrev pub replied : Flight
replied = lost 1 (answered second_order Done (answered second_order Done asked))
