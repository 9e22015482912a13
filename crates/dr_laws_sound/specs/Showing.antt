-- A step that shows a track prints what the track reads as on the devices.
use Rattle.std.specs.Prelude.{◌≡◌, ℕ, List, [], ◌∷◌, ◌++◌, Ok}
use Rattle.dr_model.specs.declared.event.Event.TheVariants.{Shown}
use Rattle.dr_model.specs.declared.said.Addition.{Addition}
use Rattle.dr_model.specs.declared.said.Addition.TheVariants.{Showed}
use Rattle.dr_model.specs.declared.said.Said.TheVariants.{Done}
use Rattle.dr_model.specs.declared.step.Step.TheVariants.{Show}
use Rattle.dr_model.specs.Answers.{answer}
use Rattle.dr_model.specs.Layout.{Blocks}
use Rattle.dr_model.specs.Control.{Control}
use Rattle.dr_model.specs.Fits.{on_device}
use Rattle.dr_model.specs.Views.{view}
use Rattle.dr_model.specs.Runs.{Task, run}
use Rattle.dr_laws_sound.specs.Acknowledged.{said_in}

-- what a track reads as on the devices: its own block, or that of the source whose track a target doesn't hold
abbrev pub reads_as : Control → (ℕ → Blocks) → ℕ → ℕ → List ℕ
reads_as k device v q = view (λ u. (k.volume u).fields) (on_device k device) v q

-- Where the last step of a run shows track q of volume v, and isn't refused, it tells the journal the bytes that the track reads as on these
-- devices, and answers with them.
abbrev pub ShowsDevices : List Task → (ℕ → Blocks) → Type 0
ShowsDevices tasks device =
    (before : List Task) (t : Task) (v q : ℕ) (said : Addition) → tasks ≡ before ++ t ∷ [] → t.asked ≡ Ok (Show v q) → said_in (run before) t ≡ Done said
    → (run tasks).events ≡ (run before).events ++ Shown t.line v q (reads_as (run tasks).control device v q) ∷ answer t.line (Done Showed) ∷ []
