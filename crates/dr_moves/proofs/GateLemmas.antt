-- What a move leaves is at rest.
use Rattle.std.proofs.Common.{ℕ, Bool, ◌≡◌, ◌≤◌, ◌⊎◌, inl, inr, sym, ◌∙◌, ap, subst}
use Rattle.std.proofs.lemmas.Bool.{cases_eq}
use Rattle.dr_plant.specs.State.{PlantState}
use Rattle.dr_config.specs.Table.{ConfigTable, StandsFor}
use Rattle.dr_model.specs.Control.{Volume}
use Rattle.dr_model.specs.Layout.{Fields}
use Rattle.dr_model.specs.Moves.{Carried}
use Rattle.dr_volume.specs.View.{volume_seen}
use Rattle.dr_volume.specs.Update.{IsAsBefore, IsMovedKeeping, OthersStay}
use Rattle.dr_moves.specs.Here.{IsAtRest}

pub rest-after : {keeps : Bool} (c : ConfigTable) (s t : PlantState) (v : ℕ) (f : Fields) (m : Carried) → IsAtRest s c → StandsFor c t → IsAsBefore s t c v ⊎ IsMovedKeeping keeps s t c v f m → OthersStay s t c v → IsAtRest t c
rest-after {keeps = keeps} c s t v f m rest stands here there = record {
  stands = stands;
  sizes = λ q. subst (λ n. n ≤ 256) (sym (tracks q)) (rest.sizes q);
}
  where
    own : IsAsBefore s t c v ⊎ IsMovedKeeping keeps s t c v f m → (volume_seen t c v).tracks ≡ (volume_seen s c v).tracks
    own (inl x) = ap (λ (w : Volume). w.tracks) x.volume
    own (inr x) = ap (λ (w : Volume). w.tracks) x.volume

    tracks : (q : ℕ) → (volume_seen t c q).tracks ≡ (volume_seen s c q).tracks
    tracks q = elim (cases_eq q v) [
      | inl is ↦ ap (λ z. (volume_seen t c z).tracks) is ∙ own here ∙ ap (λ z. (volume_seen s c z).tracks) (sym is)
      | inr ne ↦ ap (λ (w : Volume). w.tracks) (there q ne).volume
    ]
