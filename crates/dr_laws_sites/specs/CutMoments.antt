-- The moments of a run at which volumes are cut.
use Rattle.std.specs.Prelude.{◌≡◌, ℕ, List, [], ◌∷◌, ◌++◌}
use Rattle.dr_model.specs.declared.event.Event.{Event}
use Rattle.dr_model.specs.declared.event.Event.TheVariants.{Cut, Stopped}
use Rattle.dr_model.specs.Control.{World}
use Rattle.dr_model.specs.Cuts.{CutAt}
use Rattle.dr_model.specs.Runs.{Task, run}
use Rattle.dr_laws_freezes.specs.Moments.{moments}

-- nothing, or the stop of a server
abbrev pub AtMostStop : List Event → Type 0
AtMostStop [] = Unit {0}
AtMostStop (Stopped server landed ∷ []) = Unit {0}
AtMostStop es = ⊥

-- At this moment volume a has just been cut for attempt n of session s, after these events: the journal ends with the cut, or with the stop of
-- a's server after it.
pub record IsJustCut (w : World) (front : List Event) (s n a : ℕ) : Type 0 where
  pub after : List Event
  pub is : w.events ≡ front ++ Cut s n a ∷ after
  pub last : AtMostStop after

-- a run has such a moment
pub record HasCutMoment (tasks : List Task) (front : List Event) (s n a : ℕ) : Type 0 where
  pub before : List World
  pub moment : World
  pub later : List World
  pub is : moments tasks ≡ before ++ (moment ∷ later)
  pub cut : IsJustCut moment front s n a

-- it has one for each cut of its journal
abbrev pub CutsAreMoments : List Task → Type 0
CutsAreMoments tasks = (s n a : ℕ) → (c : CutAt (run tasks).events s n a) → HasCutMoment tasks c.before s n a
