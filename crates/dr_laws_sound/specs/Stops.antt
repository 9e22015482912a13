-- The stops that a journal tells, and those that refuse a step.
use Rattle.std.specs.Prelude.{◌≡◌, ℕ, List, [], ◌∷◌, ◌++◌, Option, Some, None}
use Rattle.std.specs.Option.{option_or}
use Rattle.dr_ids.specs.declared.refusal.Refusal.{Refusal}
use Rattle.dr_ids.specs.declared.refusal.Refusal.TheVariants.{Stopped as StoppedIn}
use Rattle.dr_model.specs.declared.event.Event.{Event}
use Rattle.dr_model.specs.declared.event.Event.TheVariants.{Stopped}
use Rattle.dr_model.specs.Control.{World}

-- the server of the first stop among events
abbrev pub stop_in : Event → Option ℕ
stop_in (Stopped s w) = Some s
stop_in _ = None

-- the first stop that events tell of
abbrev pub first_stop : List Event → Option ℕ
first_stop [] = None
first_stop (e ∷ es) = option_or (stop_in e) (first_stop es)

-- the server whose stop a refusal says
abbrev pub refused_stop : Option Refusal → Option ℕ
refused_stop (Some (StoppedIn s)) = Some s.0
refused_stop _ = None

-- From w to u the journal was told of exactly this stop, or of none.
pub record StopsTold (w u : World) (stop : Option ℕ) : Type 0 where
  pub events : List Event
  pub told : u.events ≡ w.events ++ events
  pub tells : first_stop events ≡ stop
