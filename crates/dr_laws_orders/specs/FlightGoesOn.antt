-- What no step takes back of the messages in flight and their counts.
use Rattle.std.specs.Prelude.{◌⊎◌, ◌<◌, ◌≤◌, ℕ}
use Rattle.dr_model.specs.Messages.{Flight, Message}
use Rattle.dr_model.specs.Groups.{In}

-- One flight comes after another: no fewer messages were made, and no server was started and no epoch begun less often; no fence is lower;
-- and each message was in flight before, or has a number that none had.
pub record FlightGoesOn (f g : Flight) : Type 0 where
  pub made : f.made ≤ g.made
  pub starts : (server : ℕ) → f.starts server ≤ g.starts server
  pub epochs : (s : ℕ) → f.epoch s ≤ g.epoch s
  pub fences : (s server : ℕ) → f.fence s server ≤ g.fence s server
  pub messages : (m : Message) → In m g.messages → In m f.messages ⊎ (f.made < m.number)
