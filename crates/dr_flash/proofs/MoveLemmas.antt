-- What a move of a target asks, and what it left.
use Rattle.std.proofs.Common.{ℕ, List, [], ◌≡◌, ◌<◌, true, ◌∙◌, ap, refl, Some}
use Rattle.std.specs.Prelude.{if◌then◌else◌}
use Rattle.std.specs.FinSet.{contains}
use Rattle.dr_logic.specs.Bytes.{zeros}
use Rattle.dr_plant.specs.State.{PlantState}
use Rattle.dr_config.specs.Table.{ConfigTable}
use Rattle.dr_model.specs.Histories.{histories}
use Rattle.dr_model.specs.Layout.{Fields}
use Rattle.dr_model.specs.Lawful.{IsLawful}
use Rattle.dr_model.specs.Moves.{Overwrite, fields_left, carried}
use Rattle.dr_volume.specs.View.{volume_seen, track_seen}
use Rattle.dr_volume.specs.Update.{IsMoved}
use Rattle.dr_moves.specs.Fit.{RelationsFit}
use Rattle.dr_moves.proofs.MoveFits.{MoveFits, fits-by}
use Rattle.dr_flash.proofs.CheckLemmas.{same-test}

-- a host write on a target, whatever its bytes
pub overwrite-fits : (s : PlantState) (t : ConfigTable) (v : ℕ) → RelationsFit s t → IsLawful (volume_seen s t v).tracks (volume_seen s t v).fields → (volume_seen s t v).fields.related ≡ true → (k : ℕ) → k < (volume_seen s t v).tracks → (w : ℕ) (bytes : List ℕ)
    → MoveFits s t v (fields_left (Overwrite w v k) (volume_seen s t v)) (Some (k, bytes))
overwrite-fits s t v fit lawful related k low w bytes =
    let write = (histories []).write in
    let fits = fits-by s t fit (Overwrite w v k) v (fields_left (Overwrite w v k) (volume_seen s t v)) (carried (Overwrite w v k) (volume_seen s t) (track_seen s t) write) write refl refl refl lawful (low, related) in
    record { lawful = fits.lawful; covers = fits.covers; leaves = fits.leaves }

-- the track that a volume stored
pub stored-track : (s u : PlantState) (c : ConfigTable) (v k : ℕ) (f : Fields) (bytes : List ℕ) → IsMoved s u c v f (Some (k, bytes)) → track_seen u c v k ≡ bytes
stored-track s u c v k f bytes is =
    ap (λ (z : ℕ → List ℕ). z k) is.tracks ∙ ap (λ b. if b then bytes else if contains f.blank k then zeros else track_seen s c v k) (same-test k k refl)
