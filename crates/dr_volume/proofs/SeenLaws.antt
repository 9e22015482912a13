-- What the machine sees of the volumes of a plant, once the device of one of them was read and written.
use Rattle.std.proofs.Common.{ℕ, ◌≡◌, ◌≢◌, ◌≤◌, ◌<◌, Bool, List, refl, sym, ◌∙◌, ap, arith, None, Some}
use Rattle.std.specs.Prelude.{slice_get}
use Rattle.dr_plant.specs.State.{PlantState}
use Rattle.dr_config.specs.Table.{ConfigTable, place_of, StandsFor}
use Rattle.dr_config.specs.declared.entries.VolumeEntry.{VolumeEntry}
use Rattle.dr_config.proofs.Lookups.{entry-at-place}
use Rattle.dr_model.specs.Moves.{Carried, moved_keeping, tracks_after, saved_after}
use Rattle.dr_volume.specs.declared.fields.Fields.{Fields}
use Rattle.dr_volume.specs.Plain.{plain}
use Rattle.dr_volume.specs.View.{volume_seen, volume_at, volume_on, track_seen, track_at, track_on, saved_seen, saved_at, saved_on}
use Rattle.dr_volume.specs.Volume.{LiesOn}
use Rattle.dr_volume.specs.Update.{IsAsBefore, IsMovedKeeping, OthersStay}
use Rattle.dr_volume.proofs.VolumeLaws.{entry, volume-placed, track-placed}
use Rattle.dr_volume.proofs.ReadingLaws.{ReadsAs, ReadsNext, Fitting, volume-same, track-same, saved-same, volume-next, track-next, saved-next}

-- The volume v lies on the device d of its server, and e is what is defined of it.
pub record Lies (c : ConfigTable) (s : PlantState) (v d : ℕ) (e : VolumeEntry) : Type 0 where
  pub place : place_of c v ≡ Some d
  pub entry : slice_get c.volumes d ≡ Some e
  pub owner : s.owner d ≡ e.server
  pub low : s.owner d < 8
  pub few : e.tracks ≤ 256

pub lies-of : (c : ConfigTable) (s : PlantState) (v d n : ℕ) → LiesOn c v d n → StandsFor c s → (e : VolumeEntry) × Lies c s v d e
lies-of c s v d n lies stands =
    let x = entry c v d n lies in
    let device = stands.device d x.0 x.1 in
    let owner : s.owner d ≡ x.0.server = device.0 in
    let low : x.0.server < 8 = device.2 in
    let tracks : x.0.tracks ≡ n = x.2 in
    let few : n ≤ 256 = lies.few in
    (x.0, record { place = lies.place; entry = x.1; owner = owner; low = omega arith; few = omega arith })

pub seen : (c : ConfigTable) (s : PlantState) (v d : ℕ) (e : VolumeEntry) → Lies c s v d e → (t : PlantState) → volume_seen t c v ≡ volume_on (t.block d) (Some e)
seen c s v d e lies t = volume-placed t c v d e lies.place lies.entry

pub track-seen : (c : ConfigTable) (s : PlantState) (v d : ℕ) (e : VolumeEntry) → Lies c s v d e → (t : PlantState) (k : ℕ) → track_seen t c v k ≡ track_on (t.block d) (Some e) k
track-seen c s v d e lies t k = track-placed t c v d k e lies.place lies.entry

saved-seen : (c : ConfigTable) (s : PlantState) (v d : ℕ) (e : VolumeEntry) → Lies c s v d e → (t : PlantState) (k : ℕ) → saved_seen t c v k ≡ saved_on (t.block d) (Some e) k
saved-seen c s v d e lies t k = ap (λ o. saved_at t c o k) lies.place ∙ ap (λ o. saved_on (t.block d) o k) lies.entry

pub is-before : (c : ConfigTable) (s t : PlantState) (v d : ℕ) (e : VolumeEntry) → Lies c s v d e → ReadsAs e.tracks (s.block d) (t.block d) → IsAsBefore s t c v
is-before c s t v d e lies h = record {
  volume = seen c s v d e lies t ∙ volume-same (s.block d) (t.block d) e lies.few h ∙ sym (seen c s v d e lies s);
  tracks = λ i k. (track-seen c s v d e lies t k ∙ track-same (s.block d) (t.block d) e k lies.few h ∙ sym (track-seen c s v d e lies s k)) i;
  saved = λ i k. (saved-seen c s v d e lies t k ∙ saved-same (s.block d) (t.block d) e k lies.few h ∙ sym (saved-seen c s v d e lies s k)) i;
}

pub is-moved : (c : ConfigTable) (s t : PlantState) (v d : ℕ) (e : VolumeEntry) (keeps : Bool) (f : Fields) (m : Carried) → Lies c s v d e → Fitting e.tracks (s.block d) keeps f m → ReadsNext e.tracks (s.block d) (t.block d) keeps f m → IsMovedKeeping keeps s t c v (plain f) m
is-moved c s t v d e keeps f m lies fit h =
    let before : track_on (s.block d) (Some e) ≡ track_seen s c v = (λ i k. sym (track-seen c s v d e lies s k) i) in
    let saved : saved_on (s.block d) (Some e) ≡ saved_seen s c v = (λ i k. sym (saved-seen c s v d e lies s k) i) in
    let was : volume_on (s.block d) (Some e) ≡ volume_seen s c v = sym (seen c s v d e lies s) in
    record {
      volume = seen c s v d e lies t ∙ volume-next (s.block d) (t.block d) e keeps f m fit h ∙ ap (λ w. moved_keeping keeps w (plain f) m) (sym (seen c s v d e lies s));
      tracks = λ i k. (track-seen c s v d e lies t k ∙ track-next (s.block d) (t.block d) e keeps f m k fit h ∙ ap (λ old. tracks_after (plain f) m old k) before) i;
      saved = λ i k. (saved-seen c s v d e lies t k ∙ saved-next (s.block d) (t.block d) e keeps f m k fit h ∙ (λ j. saved_after (was j).fields.entries f.entries (before j) (saved j) k)) i;
    }

-- another volume lies on another device
pub apart_devices : (c : ConfigTable) (s : PlantState) (v u d j : ℕ) (e : VolumeEntry) → Lies c s v d e → u ≢ v → place_of c u ≡ Some j → j ≢ d
apart_devices c s v u d j e lies ne place same =
    let x = entry-at-place c u j place in
    let y = entry-at-place c v d lies.place in
    let one : Some x.0 ≡ Some y.0 = sym x.1 ∙ ap (slice_get c.volumes) same ∙ y.1 in
    let ids : x.0.id ≡ y.0.id = (let e : x.0 ≡ y.0 = cc in ap (λ (z : VolumeEntry). z.id) e) in
    ne (sym x.3 ∙ ids ∙ y.3)

-- and it is as it was where only the one device's blocks changed
pub others-stay : (c : ConfigTable) (s t : PlantState) (v d : ℕ) (e : VolumeEntry) → Lies c s v d e → ((j b : ℕ) → j ≢ d → t.block j b ≡ s.block j b) → OthersStay s t c v
others-stay c s t v d e lies apart u ne = record {
  volume = elim (place_of c u) as (λ o. place_of c u ≡ o → volume_at t c o ≡ volume_at s c o) [
    | None ↦ λ is. refl
    | Some j ↦ λ is. ap (λ (b : ℕ → List ℕ). volume_on b (slice_get c.volumes j)) (λ i b. apart j b (apart_devices c s v u d j e lies ne is) i)
  ] refl;
  tracks = elim (place_of c u) as (λ o. place_of c u ≡ o → track_at t c o ≡ track_at s c o) [
    | None ↦ λ is. refl
    | Some j ↦ λ is. ap (λ (b : ℕ → List ℕ). track_on b (slice_get c.volumes j)) (λ i b. apart j b (apart_devices c s v u d j e lies ne is) i)
  ] refl;
  saved = elim (place_of c u) as (λ o. place_of c u ≡ o → saved_at t c o ≡ saved_at s c o) [
    | None ↦ λ is. refl
    | Some j ↦ λ is. ap (λ (b : ℕ → List ℕ). saved_on b (slice_get c.volumes j)) (λ i b. apart j b (apart_devices c s v u d j e lies ne is) i)
  ] refl;
}
