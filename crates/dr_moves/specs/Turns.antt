-- What is told in a stop, and how an entry of a plan leads on.
use Rattle.std.specs.Prelude.{ℕ, Bool, List, [], ◌∷◌, ◌++◌, Option, if◌then◌else◌}
use Rattle.dr_ids.specs.declared.refusal.Refusal.{Refusal}
use Rattle.dr_model.specs.declared.event.Event.{Event}
use Rattle.dr_model.specs.declared.event.Event.TheVariants.{Stopped}
use Rattle.dr_model.specs.Control.{Volume, World}
use Rattle.dr_model.specs.Carry.{Entry}
use Rattle.dr_model.specs.ReadStops.{Ends}
use Rattle.dr_model.specs.Moves as machine

-- what the journal is told where the server stopped in a move that counts as done or doesn't
abbrev pub told_in_stop : Bool → machine.Move → Volume → ℕ → List Event
told_in_stop done m u s = if done then machine.told_in_stop m u ++ Stopped s (machine.landed m) ∷ [] else Stopped s 0 ∷ []

-- from w the entry leads to v: what ends the entries that follow ends all
abbrev pub Advances : World → Entry → World → Type 0
Advances w d v = (armed : ℕ → Bool) (u : World) (r : Option Refusal) (ds : List Entry) → Ends armed u r v ds → Ends armed u r w (d ∷ ds)

-- from w the entry ends all entries
abbrev pub Halts : (ℕ → Bool) → World → Entry → World → Option Refusal → Type 0
Halts armed w d u r = (ds : List Entry) → Ends armed u r w (d ∷ ds)

-- the same of several entries
abbrev pub Leads : World → List Entry → World → Type 0
Leads w es v = (armed : ℕ → Bool) (u : World) (r : Option Refusal) (ds : List Entry) → Ends armed u r v ds → Ends armed u r w (es ++ ds)

-- or end all of them, however the plan goes on
abbrev pub Fails : (ℕ → Bool) → World → List Entry → World → Option Refusal → Type 0
Fails armed w es u r = (ds : List Entry) → Ends armed u r w (es ++ ds)
