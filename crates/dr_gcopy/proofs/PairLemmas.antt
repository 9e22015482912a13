-- What a move that changes one part of a volume in a pair leaves of the other part.
use Rattle.std.proofs.Common.{ℕ, ◌≡◌, inl, inr, sym, ◌∙◌, ap, None}
use Rattle.std.proofs.lemmas.Bool.{cases_eq}
use Rattle.dr_plant.specs.State.{PlantState}
use Rattle.dr_config.specs.Table.{ConfigTable}
use Rattle.dr_model.specs.Layout.{Fields}
use Rattle.dr_model.specs.Control.{Volume}
use Rattle.dr_volume.specs.View.{volume_seen}
use Rattle.dr_volume.specs.Update.{IsMoved, OthersStay}

-- a move that leaves a volume's part as a primary leaves that of each
pub primary-stays : (s u : PlantState) (t : ConfigTable) (v : ℕ) (f : Fields) → IsMoved s u t v f None → f.primary ≡ (volume_seen s t v).fields.primary → OthersStay s u t v → (q : ℕ) → (volume_seen u t q).fields.primary ≡ (volume_seen s t q).fields.primary
primary-stays s u t v f is same others q = elim (cases_eq q v) [
  | inl p ↦ ap (λ z. (volume_seen u t z).fields.primary) p ∙ ap (λ (x : Volume). x.fields.primary) is.volume ∙ same ∙ ap (λ z. (volume_seen s t z).fields.primary) (sym p)
  | inr ne ↦ ap (λ (x : Volume). x.fields.primary) (others q ne).volume
]
