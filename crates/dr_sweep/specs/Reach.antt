-- Which server of a disaster stopped first in a step.
use Rattle.std.specs.Prelude.{ℕ, Bool, true, false, List, drop, take, position, slice_get, nat_eq, Option, Some, None, if◌then◌else◌}
use Rattle.std.specs.List.{filter_map, fold}
use Rattle.std.specs.Str.{bytes_eq}
use Rattle.dr_model.specs.declared.event.Event.{Event}
use Rattle.dr_model.specs.declared.event.Event.TheVariants.{Stopped}
use Rattle.dr_model.specs.declared.step.Name.{Name}
use Rattle.dr_model.specs.LineText.{name_text}
use Rattle.dr_model.specs.Text.{Heard, heard, untold, told_name}
use Rattle.dr_sweep.specs.declared.reach.FirstStop.{FirstStop}
use Rattle.dr_sweep.specs.declared.reach.FirstStop.TheVariants.{Own, Other, Nobody}

-- the place of a server among some
abbrev pub server_of : List Name → List ℕ → Option ℕ
server_of names server = position (λ name. bytes_eq (name_text name) server) names

-- the place among some servers of the one whose stop an event tells, by the names that were told
abbrev pub stopped_by : Heard → List Name → Event → Option ℕ
stopped_by told names (Stopped server write) = server_of names (told_name told server)
stopped_by told names _ = None

-- the names of servers that the first events, that many, tell
abbrev pub told_before : ℕ → List Event → Heard
told_before from events = fold heard untold (take from events)

-- the places of those whose stops the events from a place on tell, in order
abbrev pub stopped_since : List Name → ℕ → List Event → List ℕ
stopped_since names from events = filter_map (stopped_by (told_before from events) names) (drop from events)

-- by the place of the server that stopped first, whose stop that is to the server at a place
abbrev pub stop_by : ℕ → Option ℕ → FirstStop
stop_by server None = Nobody
stop_by server (Some other) = if nat_eq other server then Own else Other other

-- of some servers, whose stop the events from a place on tell first, to the one at a place
abbrev pub stop_since : List Name → ℕ → ℕ → List Event → FirstStop
stop_since names server from events = stop_by server (slice_get (stopped_since names from events) 0)

-- it is its own
abbrev pub is_own : FirstStop → Bool
is_own Own = true
is_own _ = false
