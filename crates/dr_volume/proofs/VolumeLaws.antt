-- The laws of reading a volume: what its device's chosen slot gives is what the machine sees.
use Rattle.std.proofs.Common.{ℕ, ◌≡◌, ◌≤◌, ◌<◌, ◌+◌, ◌/◌, ◌%◌, ◌^◌, Bool, true, false, arith, sym, ◌∙◌, ap, refl, subst, nat_eq, Option, None, Some}
use Rattle.std.specs.Prelude.{is_some, option_map, slice_get, unwrap_or, if◌then◌else◌}
use Rattle.dr_plant.specs.State.{PlantState, HasBlock}
use Rattle.dr_record.specs.Taken.{taken_from}
use Rattle.dr_record.specs.Slots.{Chooses, slot_of}
use Rattle.dr_plant.specs.Writes.{IsDevice}
use Rattle.dr_config.specs.Table.{ConfigTable, place_of, entry_of, IsSoundConfig, StandsFor}
use Rattle.dr_config.specs.declared.entries.VolumeEntry.{VolumeEntry}
use Rattle.dr_config.proofs.Lists.{position-within}
use Rattle.dr_config.proofs.Lookups.{entry-at-place}
use Rattle.dr_plant.specs.declared.plant.DeviceId.{DeviceId}
use Rattle.dr_model.specs.Control.{Volume}
use Rattle.dr_model.specs.Layout as layout
use Rattle.dr_model.specs.Layout.{Blocks, chosen, slot_chosen, slot_begin, only_if}
use Rattle.std.specs.FinSet.{contains}
use Rattle.dr_logic.specs.Bytes.{zeros}
use Rattle.dr_ids.specs.Sizes.{blocks_of, record_blocks, track_block}
use Rattle.dr_bits.specs.Membership.{lt_true}
use Rattle.dr_volume.specs.declared.fields.Fields.{Fields}
use Rattle.dr_model.specs.Lawful.{IsLawful}
use Rattle.dr_volume.specs.Plain.{plain, normal}
use Rattle.dr_volume.specs.Record.{with_block, no_record, raw_of}
use Rattle.dr_volume.specs.View.{volume_seen, volume_at, volume_on, track_seen, track_at, track_on, device_of}
use Rattle.dr_volume.specs.Volume.{LiesOn, Shows}
use Rattle.dr_volume.proofs.LawfulLaws.{lawful-normal}
use Rattle.dr_volume.proofs.RecordLaws.{plain-normal, staged-normal, staged_bytes-normal}

entry_of_tracks : (o : Option VolumeEntry) (n : ℕ) → option_map (λ (e : VolumeEntry). e.tracks) o ≡ Some n → (e : VolumeEntry) × (o ≡ Some e) × (e.tracks ≡ n)
entry_of_tracks None n is = absurd (cc is)
entry_of_tracks (Some e) n is = (e, refl, (cc is))

-- the entry of a volume that is defined
pub entry : (t : ConfigTable) (v d n : ℕ) → LiesOn t v d n → (e : VolumeEntry) × (slice_get t.volumes d ≡ Some e) × (e.tracks ≡ n)
entry t v d n lies = entry_of_tracks (slice_get t.volumes d) n lies.tracks

pub tracks-of : (t : ConfigTable) (v d n : ℕ) → LiesOn t v d n → (e : VolumeEntry) → slice_get t.volumes d ≡ Some e → e.tracks ≡ n
tracks-of t v d n lies e is =
    let x = entry t v d n lies in
    let same : Some x.0 ≡ Some e = sym x.1 ∙ is in
    let one : x.0 ≡ e = cc in
    ap (λ (y : VolumeEntry). y.tracks) (sym one) ∙ x.2

device_found : (o : Option DeviceId) (d : DeviceId) (p : Option ℕ) → option_map (λ (x : DeviceId). x.0) o ≡ p → o ≡ Some d → p ≡ Some d.0
device_found o d p place is = sym place ∙ ap (λ q. option_map (λ (x : DeviceId). x.0) q) is

-- the tracks of a volume's entry are found where its device is
pub tracks_found : (t : ConfigTable) (v : ℕ) (o : Option DeviceId) (d : DeviceId) (m : Option ℕ) → option_map (λ (x : DeviceId). x.0) o ≡ place_of t v → o ≡ Some d → m ≡ option_map (λ (e : VolumeEntry). e.tracks) (entry_of t v) → m ≡ option_map (λ (e : VolumeEntry). e.tracks) (slice_get t.volumes d.0)
tracks_found t v o d m place is found =
    let e = entry-at-place t v d.0 (device_found o d (place_of t v) place is) in
    found ∙ ap (λ q. option_map (λ (x : VolumeEntry). x.tracks) q) (e.2 ∙ sym e.1)

pub tracks_some : (t : ConfigTable) (v : ℕ) (o : Option DeviceId) (d : DeviceId) (m : Option ℕ) → option_map (λ (x : DeviceId). x.0) o ≡ place_of t v → o ≡ Some d → m ≡ option_map (λ (e : VolumeEntry). e.tracks) (entry_of t v) → is_some m ≡ true
tracks_some t v o d m place is found =
    let e = entry-at-place t v d.0 (device_found o d (place_of t v) place is) in
    ap (λ q. is_some q) (found ∙ ap (λ q. option_map (λ (x : VolumeEntry). x.tracks) q) e.2)

pub lies_on : (t : ConfigTable) (v n : ℕ) (o : Option DeviceId) (d : DeviceId) (m : Option ℕ) → option_map (λ (x : DeviceId). x.0) o ≡ place_of t v → o ≡ Some d → m ≡ option_map (λ (e : VolumeEntry). e.tracks) (entry_of t v) → m ≡ Some n → n ≤ 256 → LiesOn t v d.0 n
lies_on t v n o d m place is found tracks few = record {
  place = device_found o d (place_of t v) place is;
  tracks = sym (tracks_found t v o d m place is found) ∙ tracks;
  few = few;
}

-- where a volume that is defined lies
pub placed : (t : ConfigTable) (v : ℕ) → is_some (place_of t v) ≡ true → (d : ℕ) × (e : VolumeEntry) × (place_of t v ≡ Some d) × (slice_get t.volumes d ≡ Some e)
placed t v defined =
    elim (place_of t v) as (λ o. place_of t v ≡ o → is_some o ≡ true → (d : ℕ) × (e : VolumeEntry) × (place_of t v ≡ Some d) × (slice_get t.volumes d ≡ Some e)) [
      | None ↦ λ is some. absurd (cc some)
      | Some d ↦ λ is some. let e = entry-at-place t v d is in (d, e.0, is, e.1)
    ] refl defined

pub device-placed : (t : ConfigTable) (v d : ℕ) → place_of t v ≡ Some d → device_of t v ≡ d
device-placed t v d place = ap (λ o. unwrap_or o 0) place

-- what the machine sees of a volume and its tracks
pub volume-placed : (s : PlantState) (t : ConfigTable) (v d : ℕ) (e : VolumeEntry) → place_of t v ≡ Some d → slice_get t.volumes d ≡ Some e → volume_seen s t v ≡ volume_on (s.block d) (Some e)
volume-placed s t v d e place is = ap (λ o. volume_at s t o) place ∙ ap (λ o. volume_on (s.block d) o) is

pub track-placed : (s : PlantState) (t : ConfigTable) (v d k : ℕ) (e : VolumeEntry) → place_of t v ≡ Some d → slice_get t.volumes d ≡ Some e → track_seen s t v k ≡ track_on (s.block d) (Some e) k
track-placed s t v d k e place is = ap (λ o. track_at s t o k) place ∙ ap (λ o. track_on (s.block d) o k) is

-- the device exists, with its blocks
pub device-stands : (s : PlantState) (t : ConfigTable) (v d : ℕ) (e : VolumeEntry) → place_of t v ≡ Some d → slice_get t.volumes d ≡ Some e → StandsFor t s → (d < s.count) × (s.size d ≡ blocks_of e.tracks)
device-stands s t v d e place is stands =
    let within = position-within (λ (x : VolumeEntry). nat_eq x.id v) t.volumes d place in
    let count = stands.count in
    let device = stands.device d e is in
    ((omega arith), device.1)

-- the gate, as the record and as the layout read it
gate_same : (n : ℕ) → nat_eq (n % 2) 1 ≡ nat_eq ((n / 2 ^ 0) % 2) 1
gate_same n = ap (λ m. nat_eq m 1) (let e : n % 2 ≡ (n / 2 ^ 0) % 2 = omega arith in e)

-- the value that a device chooses is what its chosen slot gives
pub chosen_value : (s : PlantState) (d : ℕ) (slot : Bool) (x : Fields) → Chooses with_block 6 no_record s d slot x → x ≡ raw_of (chosen (s.block d))
unfolding taken_from
chosen_value s d slot x chooses =
    let is : slot ≡ slot_chosen (s.block d) = sym chooses.gate ∙ gate_same (layout.byte (s.block d 0) 0) in
    sym chooses.value ∙ ap (λ b. raw_of (λ k. s.block d (slot_begin b + k))) is

pub chosen_slot : (s : PlantState) (d : ℕ) → slot_of s d ≡ slot_chosen (s.block d)
chosen_slot s d = gate_same (layout.byte (s.block d 0) 0)

-- the normal form of what the chosen slot gives is what the machine sees
pub shows-normal : (s : PlantState) (t : ConfigTable) (v d n : ℕ) (f : Fields) → LiesOn t v d n → f ≡ normal n (raw_of (chosen (s.block d))) → Shows s t v f
shows-normal s t v d n f lies is =
    let e = entry t v d n lies in
    let seen = volume-placed s t v d e.0 lies.place e.1 in
    let slot : Blocks = chosen (s.block d) in
    record {
      fields = ap (λ g. plain g) is ∙ plain-normal n slot lies.few ∙ sym (ap (λ (w : Volume). w.fields) seen ∙ ap (λ m. layout.fields_of m slot) e.2);
      staged = ap (λ g. g.staged) is ∙ staged-normal n slot ∙ sym (ap (λ (w : Volume). w.staged) seen ∙ ap (λ m. layout.staged_of m slot) e.2);
      staged_bytes =
          ap (λ g. g.staged_bytes) is ∙ staged_bytes-normal n slot
          ∙ sym (
          ap (λ (w : Volume). only_if (is_some w.staged) (chosen (s.block (device_of t v)) 5) zeros) seen
          ∙ (λ i. only_if (is_some (layout.staged_of (e.2 i) slot)) (chosen (s.block (device-placed t v d lies.place i)) 5) zeros));
      lawful = subst (λ m. IsLawful m (plain f)) (sym (ap (λ (w : Volume). w.tracks) seen ∙ e.2)) (subst (λ g. IsLawful n (plain g)) (sym is) (lawful-normal n (raw_of slot)));
    }

-- A track that is staged reads as the staged bytes, else one that is blank as zeros, else as its own block.
pub physical_is : (n : ℕ) (b : Blocks) (k : ℕ) → layout.physical n b k ≡ (if layout.is_staged (layout.staged n b) k then chosen b 5 else if contains (layout.fields n b).blank k then zeros else b (track_block k))
unfolding layout.physical
physical_is n b k = refl

pub some_of_staged : (o : Option ℕ) (k : ℕ) → layout.is_staged o k ≡ true → is_some o ≡ true
some_of_staged None k is = absurd (cc is)
some_of_staged (Some t) k is = refl

seen_track : (s : PlantState) (t : ConfigTable) (v d k : ℕ) (e : VolumeEntry) → place_of t v ≡ Some d → slice_get t.volumes d ≡ Some e → k < (volume_seen s t v).tracks → track_seen s t v k ≡ layout.physical e.tracks (s.block d) k
seen_track s t v d k e place is within =
    let low : k < e.tracks = subst (λ m. k < m) (ap (λ (w : Volume). w.tracks) (volume-placed s t v d e place is)) within in
    track-placed s t v d k e place is ∙ ap (λ b. if b then layout.physical e.tracks (s.block d) k else zeros) (lt_true k e.tracks low)

seen_staged : (s : PlantState) (t : ConfigTable) (v d : ℕ) (e : VolumeEntry) (f : Fields) → place_of t v ≡ Some d → slice_get t.volumes d ≡ Some e → Shows s t v f → f.staged ≡ layout.staged e.tracks (s.block d)
seen_staged s t v d e f place is shows = shows.staged ∙ ap (λ (w : Volume). w.staged) (volume-placed s t v d e place is)

pub track-staged : (s : PlantState) (t : ConfigTable) (v k : ℕ) (f : Fields) → is_some (place_of t v) ≡ true → k < (volume_seen s t v).tracks → Shows s t v f → layout.is_staged f.staged k ≡ true → f.staged_bytes ≡ track_seen s t v k
track-staged s t v k f defined within shows staged =
    let at = placed t v defined in
    let b : Blocks = s.block at.0 in
    let o = seen_staged s t v at.0 at.1 f at.2 at.3 shows in
    shows.staged_bytes
    ∙ ap (λ q. only_if (is_some q) (chosen (s.block (device_of t v)) 5) zeros) (sym shows.staged)
    ∙ ap (λ there. only_if there (chosen (s.block (device_of t v)) 5) zeros) (some_of_staged f.staged k staged)
    ∙ ap (λ d. chosen (s.block d) 5) (device-placed t v at.0 at.2)
    ∙ sym (seen_track s t v at.0 k at.1 at.2 at.3 within
    ∙ physical_is at.1.tracks b k
    ∙ ap (λ there. if there then chosen b 5 else if contains (layout.fields at.1.tracks b).blank k then zeros else b (track_block k)) (ap (λ q. layout.is_staged q k) (sym o) ∙ staged))

pub track-not_staged : (s : PlantState) (t : ConfigTable) (v d k : ℕ) (e : VolumeEntry) (f : Fields) (blank : Bool) → place_of t v ≡ Some d → slice_get t.volumes d ≡ Some e → k < (volume_seen s t v).tracks → Shows s t v f → layout.is_staged f.staged k ≡ false → contains f.blank k ≡ blank → (if blank then zeros else s.block d (track_block k)) ≡ track_seen s t v k
track-not_staged s t v d k e f blank place is within shows staged there =
    let b : Blocks = s.block d in
    let o = seen_staged s t v d e f place is shows in
    let g : f.blank ≡ (layout.fields e.tracks b).blank = ap (λ (x : layout.Fields). x.blank) shows.fields ∙ ap (λ (w : Volume). w.fields.blank) (volume-placed s t v d e place is) in
    sym (seen_track s t v d k e place is within
    ∙ physical_is e.tracks b k
    ∙ ap (λ q. if q then chosen b 5 else if contains (layout.fields e.tracks b).blank k then zeros else b (track_block k)) (ap (λ q. layout.is_staged q k) (sym o) ∙ staged)
    ∙ ap (λ q. if q then zeros else b (track_block k)) (ap (λ x. contains x k) (sym g) ∙ there))

pub track-blank : (s : PlantState) (t : ConfigTable) (v k : ℕ) (f : Fields) → is_some (place_of t v) ≡ true → k < (volume_seen s t v).tracks → Shows s t v f → layout.is_staged f.staged k ≡ false → contains f.blank k ≡ true → zeros ≡ track_seen s t v k
track-blank s t v k f defined within shows staged there = let at = placed t v defined in track-not_staged s t v at.0 k at.1 f true at.2 at.3 within shows staged there

-- a track's own block exists
pub own-block : (s : PlantState) (t : ConfigTable) (v d k : ℕ) → is_some (place_of t v) ≡ true → StandsFor t s → d ≡ device_of t v → k < (volume_seen s t v).tracks → HasBlock s d (track_block k)
own-block s t v d k defined stands is within =
    let at = placed t v defined in
    let low : k < at.1.tracks = subst (λ m. k < m) (ap (λ (w : Volume). w.tracks) (volume-placed s t v at.0 at.1 at.2 at.3)) within in
    let device = device-stands s t v at.0 at.1 at.2 at.3 stands in
    let size = device.1 in
    subst (λ q. HasBlock s q (track_block k)) (sym (is ∙ device-placed t v at.0 at.2)) (record { device = device.0; block = omega arith })

-- in a sound configuration a volume has at most 256 tracks
pub lies-sound : (t : ConfigTable) (v d : ℕ) → IsSoundConfig t → place_of t v ≡ Some d → (n : ℕ) × LiesOn t v d n
lies-sound t v d sound place =
    let e = entry-at-place t v d place in
    (e.0.tracks, record { place = place; tracks = ap (λ o. option_map (λ (x : VolumeEntry). x.tracks) o) e.1; few = (sound.volume d e.0 e.1).most })

pub track-few : (s : PlantState) (t : ConfigTable) (v k : ℕ) → IsSoundConfig t → is_some (place_of t v) ≡ true → k < (volume_seen s t v).tracks → k < 256
track-few s t v k sound defined within =
    let at = placed t v defined in
    let low : k < at.1.tracks = subst (λ m. k < m) (ap (λ (w : Volume). w.tracks) (volume-placed s t v at.0 at.1 at.2 at.3)) within in
    let few = (sound.volume at.0 at.1 at.3).most in
    omega arith

-- where an opened volume lies
pub lies-opened : (t : ConfigTable) (v d : ℕ) → IsSoundConfig t → is_some (place_of t v) ≡ true → d ≡ device_of t v → (n : ℕ) × LiesOn t v d n
lies-opened t v d sound defined is =
    let at = placed t v defined in
    lies-sound t v d sound (at.2 ∙ ap (λ q. Some q) (sym (is ∙ device-placed t v at.0 at.2)))

-- a volume's device has its record, and room for each track
pub device-lies : (s : PlantState) (t : ConfigTable) (v d n : ℕ) → LiesOn t v d n → StandsFor t s → IsDevice s d record_blocks
device-lies s t v d n lies stands =
    let e = entry t v d n lies in
    let device = device-stands s t v d e.0 lies.place e.1 stands in
    let size = device.1 in
    record { device = device.0; blocks = omega arith }
