-- What a track reads as, by what was opened; volumes of one server can be read together.
use Rattle.std.proofs.Common.{ℕ, ◌≡◌, Bool, true, false, ◌&&◌, not, cond, refl, ◌∙◌, ap}
use Rattle.std.specs.Prelude.{if◌then◌else◌}
use Rattle.std.specs.FinSet.{contains}
use Rattle.dr_plant.specs.State.{PlantState, after_read, can_read}
use Rattle.dr_plant.proofs.StateLemmas.{read_done}
use Rattle.dr_config.specs.Table.{ConfigTable}
use Rattle.dr_model.specs.Control.{Volume}
use Rattle.dr_volume.specs.View.{volume_seen, track_seen}
use Rattle.dr_flash.specs.Views.{view_seen}

-- where the read of a device passes, the read of a track's own block passes too, wanted or not
pub own-read : (s : PlantState) (d : ℕ) (wanted : Bool) → can_read s d ≡ true → (if wanted then after_read s d else s) ≡ s
own-read s d true can = read_done s d can
own-read s d false can = refl

pub own-done : (s : PlantState) (d : ℕ) (wanted : Bool) → can_read s d ≡ true → (if wanted then can_read s d else true) ≡ true
own-done s d true can = can
own-done s d false can = refl

-- a target that doesn't hold the track shows its source's
pub view-source : (s : PlantState) (c : ConfigTable) (v k : ℕ) (f : Volume) → volume_seen s c v ≡ f → f.fields.related ≡ true → contains f.fields.own k ≡ false → view_seen s c v k ≡ track_seen s c f.fields.source k
view-source s c v k f is related missing =
    (λ i. cond ((is i).fields.related && not (contains (is i).fields.own k)) (track_seen s c (is i).fields.source k) (track_seen s c v k))
    ∙ ap (λ b. cond (b && not (contains f.fields.own k)) (track_seen s c f.fields.source k) (track_seen s c v k)) related
    ∙ ap (λ b. cond (not b) (track_seen s c f.fields.source k) (track_seen s c v k)) missing

-- any other volume its own
pub view-own : (s : PlantState) (c : ConfigTable) (v k : ℕ) → ((volume_seen s c v).fields.related && not (contains (volume_seen s c v).fields.own k)) ≡ false → view_seen s c v k ≡ track_seen s c v k
view-own s c v k own = ap (λ b. cond b (track_seen s c (volume_seen s c v).fields.source k) (track_seen s c v k)) own
