-- The machine's state that plant, configuration, what else a run knows, host and journal show.
use Rattle.std.specs.Prelude.{List}
use Rattle.dr_plant.specs.State.{PlantState}
use Rattle.dr_config.specs.Table.{ConfigTable}
use Rattle.dr_host.specs.Hearing.{with_writes}
use Rattle.dr_host.specs.Writes.{Writes}
use Rattle.dr_model.specs.Control.{World}
use Rattle.dr_model.specs.declared.event.Event.{Event}
use Rattle.dr_volume.specs.View.{Rest, world}

-- the rest of a state, with the host's writes and a journal in it
abbrev pub rest_of : Rest → Writes → List Event → Rest
rest_of r h events = record (with_writes r h) { events = events }

-- the state that plant, configuration, the rest, the host's writes and a journal show
abbrev pub here : PlantState → ConfigTable → Rest → Writes → List Event → World
here s t r h events = world s t (rest_of r h events)
