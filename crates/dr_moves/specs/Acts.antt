-- An act that takes no device write: as the machine knows it, what is heard of it, and what is told.
use Rattle.std.specs.Prelude.{List, [], ◌∷◌, Option, Some, None}
use Rattle.dr_model.specs.declared.event.Event.{Event}
use Rattle.dr_model.specs.declared.event.Event.TheVariants.{Ack, Frozen, Thawed, Recovered}
use Rattle.dr_model.specs.Carry as machine
use Rattle.dr_moves.specs.declared.beside.News.{News}
use Rattle.dr_moves.specs.declared.beside.News.TheVariants.{Settled, Removed}
use Rattle.dr_moves.specs.declared.performing.Act.{Act}
use Rattle.dr_moves.specs.declared.performing.Act.TheVariants as act

-- an act as the machine knows it
abbrev pub act_of : Act → machine.Act
act_of (act.Acknowledge w) = machine.Acknowledge w.0
act_of (act.Drop w) = machine.Drop w.0
act_of (act.EndFreeze l m) = machine.EndFreeze l.0 m.0
act_of (act.EndThaw l m) = machine.EndThaw l.0 m.0
act_of (act.EndRecovery s n) = machine.EndRecovery s.0 n

-- what is heard of it
abbrev pub act_news : Act → Option News
act_news (act.Acknowledge w) = Some (Settled w)
act_news (act.Drop w) = Some (Settled w)
act_news (act.EndFreeze l m) = Some (Removed l m)
act_news _ = None

-- what is told of it
abbrev pub act_told : Act → List Event
act_told (act.Acknowledge w) = Ack w.0 ∷ []
act_told (act.Drop w) = []
act_told (act.EndFreeze l m) = Frozen l.0 m.0 ∷ []
act_told (act.EndThaw l m) = Thawed l.0 m.0 ∷ []
act_told (act.EndRecovery s n) = Recovered s.0 n ∷ []
