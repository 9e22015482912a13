-- The status of a run whose input was read to its end, and of one that was halted.
use Rattle.std.specs.Prelude.{ℕ, Bool, false, List, slice_get, Result, Ok, Err, if◌then◌else◌}
use Rattle.std.specs.Option.{option_map_or}
use Rattle.dr_model.specs.declared.event.Event.{Event}
use Rattle.dr_top.specs.declared.status.Status.{Status}
use Rattle.dr_top.specs.declared.status.Status.TheVariants.{Done, DoneRefused, WriteFault, NoMemory, TooLong}
use Rattle.dr_top.specs.declared.carry.Bar.{Bar}
use Rattle.dr_top.specs.declared.carry.Bar.TheVariants.{Full as BarFull, NoMemory as BarNoMemory}
use Rattle.dr_top.specs.declared.run.Halt.{Halt}
use Rattle.dr_top.specs.declared.run.Halt.TheVariants.{WriteFault as OnSink, NoMemory as OnMemory, Full}
use Rattle.dr_top.specs.Outcome.{is_refusal}

-- the event at a place, where there is one, is a refusal
abbrev pub refusal_at : List Event → ℕ → Bool
refusal_at events place = option_map_or is_refusal (slice_get events place) false

-- whether a step was refused
abbrev pub whole_status : Bool → Status
whole_status refused = if refused then DoneRefused else Done

-- the status of a run that was halted
abbrev pub halt_status : Halt → Status
halt_status OnSink = WriteFault
halt_status OnMemory = NoMemory
halt_status Full = TooLong

-- the status of a text that was carried out so, or halted
abbrev pub text_status : Result (Unit {0}) Bar → Bool → Status
text_status (Ok x) refused = whole_status refused
text_status (Err BarFull) refused = TooLong
text_status (Err BarNoMemory) refused = NoMemory
