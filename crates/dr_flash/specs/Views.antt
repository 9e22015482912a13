-- What a track of a plant's volume reads as.
use Rattle.std.specs.Prelude.{◌≡◌, ◌≢◌, ℕ, Bool, true, not, ◌&&◌, List}
use Rattle.std.specs.FinSet.{contains}
use Rattle.dr_plant.specs.State.{PlantState}
use Rattle.dr_config.specs.Table.{ConfigTable}
use Rattle.dr_model.specs.Layout.{Fields}
use Rattle.dr_model.specs.Entries.{copies_from}
use Rattle.dr_model.specs.Views.{view}
use Rattle.dr_volume.specs.View.{volume_seen, track_seen}

-- of a target its own track or its source's, else the volume's track
abbrev pub view_seen : PlantState → ConfigTable → ℕ → ℕ → List ℕ
view_seen s t = view (λ u. (volume_seen s t u).fields) (track_seen s t)

-- From s to u every track of every volume shows what it did.
abbrev pub AllShow : PlantState → PlantState → ConfigTable → Type 0
AllShow s u t = (q k : ℕ) → view_seen u t q k ≡ view_seen s t q k

-- From s to u every track of every volume but v shows what it did.
abbrev pub OthersShow : PlantState → PlantState → ConfigTable → ℕ → Type 0
OthersShow s u t v = (q k : ℕ) → q ≢ v → view_seen u t q k ≡ view_seen s t q k

-- a volume with these fields is a target of v that isn't restored onto it
abbrev pub kept_for : ℕ → Fields → Bool
kept_for v f = copies_from v f && not f.reversing

-- q holds track k, or is no target
abbrev pub HoldsTrack : PlantState → ConfigTable → ℕ → ℕ → Type 0
HoldsTrack s t k q = (volume_seen s t q).fields.related ≡ true → contains (volume_seen s t q).fields.own k ≡ true

-- Where q was in s a target of v that isn't restored onto it, it holds track k in u, or is no target any more.
abbrev pub KeepsTrack : PlantState → PlantState → ConfigTable → ℕ → ℕ → ℕ → Type 0
KeepsTrack s u t v k q = kept_for v (volume_seen s t q).fields ≡ true → HoldsTrack u t k q
