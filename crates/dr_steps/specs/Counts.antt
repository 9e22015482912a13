-- What is counted of the messages in flight, where so many servers are defined.
use Rattle.std.specs.Prelude.{ℕ, ◌<◌}
use Rattle.dr_model.specs.Groups.{In}
use Rattle.dr_model.specs.Messages.{Message, Flight}

-- One more message may be made, each server may be started once more, and for each session one more epoch may begin: a number of four bytes
-- counts them. Each message in flight is to or from one of the servers.
pub record HasCounts (servers : ℕ) (f : Flight) : Type 0 where
  pub made : f.made < 4294967295
  pub starts : (server : ℕ) → f.starts server < 4294967295
  pub epochs : (s : ℕ) → f.epoch s < 4294967295
  pub homes : (m : Message) → In m f.messages → m.server < servers
