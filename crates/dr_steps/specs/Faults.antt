-- CountsStop of faults.
use Rattle.std.specs.Prelude.{Bool, true, false, List, nat_eq}
use Rattle.std.specs.List.{list_any}
use Rattle.dr_logic.specs.Counts.{Counted}
use Rattle.dr_ids.specs.declared.refusal.Refusal.TheVariants.{Stopped}
use Rattle.dr_plant.specs.State.{PlantState}
use Rattle.dr_model.specs.declared.said.Said.{Said}
use Rattle.dr_model.specs.declared.said.Said.TheVariants.{Refused}
use Rattle.dr_model.specs.declared.event.Event.{Event}
use Rattle.dr_model.specs.declared.event.Event.TheVariants.{Answer}

-- a step was answered by the stop of a server in it
abbrev pub is_stop : Event → Bool
is_stop (Answer line code a b c) = nat_eq code 21
is_stop _ = false

-- the events tell of a step that was stopped
abbrev pub told_stop : List Event → Bool
told_stop events = list_any is_stop events

-- a step is answered by the stop of a server in it
abbrev pub is_stopped : Said → Bool
is_stopped (Refused (Stopped server)) = true
is_stopped _ = false

-- the plant's count of faults rose exactly where the answer says a stop
abbrev pub CountsStop : Said → PlantState → PlantState → Type 0
CountsStop a s s' = Counted (is_stopped a) s.faults s'.faults
