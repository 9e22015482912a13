-- The plan by which a staged track goes to its place is allowed along.
use Rattle.std.proofs.Common.{ℕ, refl, [], ◌∷◌, Option, Some, None}
use Rattle.dr_model.specs.Control.{World}
use Rattle.dr_model.specs.Moves.{Unstage}
use Rattle.dr_model.specs.Carry.{Redo, Do, now}
use Rattle.dr_model.specs.Entries.{is_running}
use Rattle.dr_model.specs.Plans.{is_defined, redo_now, destage_entries, destage_plan}
use Rattle.dr_model.specs.Laws.{Sound}
use Rattle.dr_model.specs.Allowed.{Runs}
use Rattle.dr_laws_sound.proofs.RowsAfter.{idle}
use Rattle.dr_laws_sound.proofs.Turns.{server_at, fused}
use Rattle.dr_laws_sound.proofs.KeepsSound.{Along, StepHolds, over, decides, moves, checked}
use Rattle.dr_laws_sound.proofs.FitsFlash.{as_begun, sound-begun, holds-entries}

module _ (w : World) (x : Sound w) (v : ℕ) where
  abbrev first : World
  first = as_begun w

  destages : Runs first v → (staged : Option ℕ) → Along first (destage_entries staged v)
  destages on None = over first (sound-begun w x)
  destages on (Some t) =
      decides first (redo_now v) (now (Unstage v) ∷ []) (Do (Redo v)) refl (
        on,
        λ f y. moves (fused first (server_at first v) f) (Unstage v) [] (record { runs = on; allowed = tt; fits = tt; group = tt; ready = idle (fused first (server_at first v) f) v y.queue on }) (λ g z. over _ z),
      )

  pub along-destage : Along first (destage_plan w.control v).entries
  along-destage =
      checked first (is_defined v) _ _ (sound-begun w x) (λ there.
      checked first (is_running v) _ _ (sound-begun w x) (λ on. destages on (w.control.volume v).staged))

  pub holds-destage : StepHolds w (destage_plan w.control v)
  holds-destage = holds-entries w _ _ x along-destage
