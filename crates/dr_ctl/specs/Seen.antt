-- What the model sees of messages in flight, and of the counts that are kept of servers and of sessions.
use Rattle.std.specs.Prelude.{ℕ, ◌+◌, [], ◌∷◌, ◌++◌, map, nat_lt, vec_len}
use Rattle.std.specs.Vec.{vec_capacity}
use Rattle.dr_model.specs.Messages as model
use Rattle.dr_master.specs.Seen.{order_of, reply_of}
use Rattle.dr_ctl.specs.declared.message.Message.{Message}
use Rattle.dr_ctl.specs.declared.message.Message.TheVariants.{Order, Reply}
use Rattle.dr_ctl.specs.declared.message.Numbered.{Numbered}
use Rattle.dr_ctl.specs.declared.flight.Flight.TheInside as flight
use Rattle.dr_ctl.specs.Kept.{KeptFlight}

-- the message of that number
abbrev pub message_of : ℕ → Message → model.Message
message_of n (Order s epoch server order starts) = record { number = n; session = s.0; epoch = epoch; server = server.0; order = order_of order; body = model.Asks starts }
message_of n (Reply s epoch server order reply) = record { number = n; session = s.0; epoch = epoch; server = server.0; order = order_of order; body = model.Replies (reply_of reply) }

-- a message with its number
abbrev pub seen : Numbered → model.Message
seen x = message_of x.number x.message

-- one message more, which has the next number
abbrev pub with_next : Message → model.Flight → model.Flight
with_next m f = record f { messages = f.messages ++ message_of (f.made + 1) m ∷ []; made = f.made + 1 }

-- the messages and the counts, with whether one more message takes no memory
abbrev pub kept_of : flight.Inside → KeptFlight
kept_of f = record {
  messages = map seen f.messages.items;
  made = f.made;
  starts = f.starts;
  epochs = f.epochs;
  fences = f.fences;
  room = nat_lt (vec_len f.messages) (vec_capacity f.messages);
}
