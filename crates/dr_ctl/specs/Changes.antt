-- All that becomes of a flight, one change at a time, and what each change leaves.
use Rattle.std.specs.Prelude.{◌≡◌, ◌≢◌, ◌≤◌, ℕ, ◌+◌, ⊤}
use Rattle.dr_model.specs.Phases.{Order, Reply}
use Rattle.dr_model.specs.Messages as model
use Rattle.dr_model.specs.Messages.{Message, Flight}

-- an order is sent; a message is answered; one is lost, or all of a session; a server starts; an epoch begins; a server has reported
pub data Change : Type 0 where
  Sends : (s server : ℕ) → (o : Order) → Change
  Answers : (m : Message) → (reply : Reply) → Change
  Loses : (n : ℕ) → Change
  Forgets : (s : ℕ) → Change
  Starts : (server : ℕ) → Change
  Raises : (s : ℕ) → Change
  Fences : (s server epoch : ℕ) → Change

-- the message that is next, where an order is sent
abbrev pub next_order : ℕ → ℕ → Order → Flight → Message
next_order s server o f = record { number = f.made + 1; session = s; epoch = f.epoch s; server = server; order = o; body = model.Asks (f.starts server) }

-- and where a message is answered
abbrev pub next_reply : Message → Reply → Flight → Message
next_reply m reply f = record m { number = f.made + 1; body = model.Replies reply }

-- the flight behind a change
abbrev pub after : Change → Flight → Flight
after (Sends s server o) f = model.sent s server o f
after (Answers m reply) f = model.answered m reply f
after (Loses n) f = model.lost n f
after (Forgets s) f = model.forgotten s f
after (Starts server) f = model.started server f
after (Raises s) f = model.raised s f
after (Fences s server epoch) f = model.fenced s server epoch f

-- the change takes another message out, or none
abbrev pub Spares : Change → Message → Type 0
Spares (Loses n) m = n ≢ m.number
Spares (Forgets s) m = s ≢ m.session
Spares c m = ⊤

-- the change is no start of the message's server, and no report of that for a later epoch of its session
abbrev pub Passes : Change → Message → Type 0
Passes (Starts server) m = server ≢ m.server
Passes (Fences s server epoch) m = s ≡ m.session → server ≡ m.server → epoch ≤ m.epoch
Passes c m = ⊤

-- no count is lower in the second flight
pub record NoLower (f g : Flight) : Type 0 where
  pub made : f.made ≤ g.made
  pub starts : (server : ℕ) → f.starts server ≤ g.starts server
  pub epochs : (s : ℕ) → f.epoch s ≤ g.epoch s
  pub fences : (s server : ℕ) → f.fence s server ≤ g.fence s server
