-- A comparison of two volumes is answered as their devices are.
use Rattle.std.specs.Prelude.{◌≡◌, ◌≢◌, ◌<◌, ℕ, List, [], ◌∷◌, ◌++◌, Ok}
use Rattle.dr_ids.specs.declared.refusal.Refusal.TheVariants.{NotIdentical}
use Rattle.dr_model.specs.declared.said.Said.{Said}
use Rattle.dr_model.specs.declared.said.Said.TheVariants.{Done, Refused}
use Rattle.dr_model.specs.declared.step.Step.TheVariants.{Compare}
use Rattle.dr_model.specs.Layout.{Blocks}
use Rattle.dr_model.specs.Control.{Control}
use Rattle.dr_model.specs.Fits.{on_device}
use Rattle.dr_model.specs.Runs.{Task, run}
use Rattle.dr_laws_sound.specs.Acknowledged.{said_in}

module _ (k : Control) (contents : ℕ → ℕ → List ℕ) (v u : ℕ) where
  -- two volumes have as many tracks, and each below n contains the same
  pub record AreSame (n : ℕ) : Type 0 where
    pub size : (k.volume v).tracks ≡ (k.volume u).tracks
    pub tracks : (t : ℕ) → t < n → contents v t ≡ contents u t

  -- track n is the first that doesn't
  pub record DifferFirst (n : ℕ) : Type 0 where
    pub within : n < (k.volume v).tracks
    pub before : AreSame n
    pub differs : contents v n ≢ contents u n

  -- What an answer says of two volumes: ok, that all tracks contain the same; and a refusal for a track, that this is the first one that doesn't.
  -- As one excludes the other, neither of the two is given where the other is so.
  abbrev pub Tells : Said → Type 0
  Tells (Done addition) = AreSame (k.volume v).tracks
  Tells (Refused (NotIdentical n)) = DifferFirst n
  Tells _ = Unit {0}

-- where the last step of a run compares two volumes, its answer says what these devices contain
abbrev pub ComparesDevices : List Task → (ℕ → Blocks) → Type 0
ComparesDevices tasks device =
    (before : List Task) (t : Task) (v u : ℕ) → tasks ≡ before ++ t ∷ [] → t.asked ≡ Ok (Compare v u)
    → Tells (run tasks).control (on_device (run tasks).control device) v u (said_in (run before) t)
