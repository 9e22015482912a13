-- Fields at hand are those of a volume, and stay so where the same is seen of it.
use Rattle.std.proofs.Common.{ℕ, ◌≡◌, ◌<◌, sym, ◌∙◌, ap, subst, refl, Option, Some, None}
use Rattle.std.specs.Prelude.{IfSome, slice_get, unwrap_or, if◌then◌else◌}
use Rattle.std.proofs.lemmas.Bool.{lt-ltb, eq-eqb}
use Rattle.std.specs.FinSet.{contains}
use Rattle.dr_logic.specs.Bytes.{zeros}
use Rattle.dr_ids.specs.Sizes.{track_block}
use Rattle.dr_plant.specs.State.{PlantState}
use Rattle.dr_config.specs.Table.{ConfigTable, place_of}
use Rattle.dr_config.specs.declared.entries.VolumeEntry.{VolumeEntry}
use Rattle.dr_model.specs.Control.{Volume}
use Rattle.dr_model.specs.Layout as layout
use Rattle.dr_model.specs.Layout.{Blocks, chosen}
use Rattle.dr_model.specs.Lawful.{IsLawful}
use Rattle.dr_volume.specs.declared.fields.Fields.{Fields}
use Rattle.dr_volume.specs.Plain.{plain}
use Rattle.dr_volume.specs.Update.{IsAsBefore, track_with}
use Rattle.dr_volume.specs.View.{volume_seen, volume_at, track_at, volume_on, track_on, device_of}
use Rattle.dr_volume.specs.Volume.{Shows, Says}
use Rattle.dr_volume.proofs.ReadingLaws.{staged-low}
use Rattle.dr_volume.proofs.RedoLaws.{shows-staged}
use Rattle.dr_volume.proofs.VolumeLaws.{physical_is}

-- a staged track reads as its staged bytes
physical-staged : (n : ℕ) (b : Blocks) (k : ℕ) → layout.staged n b ≡ Some k → layout.physical n b k ≡ chosen b 5
physical-staged n b k is =
    physical_is n b k
    ∙ ap (λ o. if layout.is_staged o k then chosen b 5 else if contains (layout.fields n b).blank k then zeros else b (track_block k)) is
    ∙ ap (λ x. if x then chosen b 5 else if contains (layout.fields n b).blank k then zeros else b (track_block k)) (eq-eqb k k refl)

on-device : (b : Blocks) (e : Option VolumeEntry) (k : ℕ) → (volume_on b e).staged ≡ Some k → track_on b e k ≡ chosen b 5
on-device b None k is = absurd (let never : None ≡ Some k = is in cc)
on-device b (Some e) k is =
    let low : k < e.tracks = subst (λ o. IfSome o (λ t. t < e.tracks)) is (staged-low e.tracks b) in
    ap (λ x. if x then layout.physical e.tracks b k else zeros) (lt-ltb k e.tracks low) ∙ physical-staged e.tracks b k is

at-place : (s : PlantState) (t : ConfigTable) (o : Option ℕ) (k : ℕ) → (volume_at s t o).staged ≡ Some k → track_at s t o k ≡ chosen (s.block (unwrap_or o 0)) 5
at-place s t None k is = absurd (let never : None ≡ Some k = is in cc)
at-place s t (Some d) k is = on-device (s.block d) (slice_get t.volumes d) k is

-- what is staged, by what is seen
seen-by : (s u : PlantState) (t : ConfigTable) (v : ℕ) → IsAsBefore s u t v → (o : Option ℕ) → (volume_seen s t v).staged ≡ o → track_with o (chosen (u.block (device_of t v)) 5) ≡ track_with o (chosen (s.block (device_of t v)) 5)
seen-by s u t v same None is = refl
seen-by s u t v same (Some k) is =
    let there : (volume_seen u t v).staged ≡ Some k = ap (λ (w : Volume). w.staged) same.volume ∙ is in
    ap (λ bytes. Some (k, bytes)) (sym (at-place u t (place_of t v) k there) ∙ ap (λ z. z k) same.tracks ∙ at-place s t (place_of t v) k is)

pub says-along : (s u : PlantState) (t : ConfigTable) (v : ℕ) (f : Fields) → IsAsBefore s u t v → Says s t v f → Says u t v f
says-along s u t v f same says = record {
  fields = says.fields ∙ sym (ap (λ (w : Volume). w.fields) same.volume);
  staged =
      says.staged
      ∙ sym (seen-by s u t v same (volume_seen s t v).staged refl)
      ∙ ap (λ (w : Volume). track_with w.staged (chosen (u.block (device_of t v)) 5)) (sym same.volume);
  lawful = subst (λ (w : Volume). IsLawful w.tracks (plain f)) (sym same.volume) says.lawful;
}

-- as a read of its record shows them
pub shows-says : (s : PlantState) (t : ConfigTable) (v : ℕ) (f : Fields) → Shows s t v f → Says s t v f
shows-says s t v f shows = record { fields = shows.fields; staged = shows-staged t s v f shows; lawful = shows.lawful }
