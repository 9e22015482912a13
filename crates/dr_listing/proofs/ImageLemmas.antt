-- Images of a plant: what is listed of each volume, and that it is all of it.
use Rattle.std.proofs.Common.{ℕ, ◌≡◌, ◌≤◌, ◌<◌, ◌+◌, Bool, true, false, not, arith, List, [], ◌∷◌, length, map, take, refl, sym, ◌∙◌, ap, subst, cond, nat_eq, nat_lt, slice_get, Option, Some, None}
use Rattle.std.specs.Prelude.{All, IfSome, Result, option_map, ◌==◌, is_some}
use Rattle.std.specs.List.{position_or_len, flat_map}
use Rattle.std.specs.Option.{unwrap_or}
use Rattle.std.proofs.lemmas.List.{length-map, take_all}
use Rattle.std.proofs.lemmas.Simd.{map-map}
use Rattle.std.proofs.lemmas.List.Folds.{flat_map-map}
use Rattle.std.proofs.lemmas.List.Elements.{All-map}
use Rattle.std.proofs.lemmas.Option.{slice_get-map, same_Some}
use Rattle.dr_bits.specs.Membership.{lt_true}
use Rattle.dr_ids.specs.Sizes.{blocks_of, most_tracks, record_blocks}
use Rattle.dr_ids.specs.declared.names.ServerId.{ServerId}
use Rattle.dr_ids.specs.declared.names.VolumeId.{VolumeId}
use Rattle.dr_plant.specs.State.{PlantState, HasBlock}
use Rattle.dr_plant.specs.declared.plant.DeviceId.{DeviceId}
use Rattle.dr_logic.proofs.Options.{if-some}
use Rattle.dr_config.specs.Table.{ConfigTable, IsSoundConfig, StandsFor, place_of, entry_of, server_of}
use Rattle.dr_config.specs.declared.entries.VolumeEntry.{VolumeEntry}
use Rattle.dr_config.proofs.Lookups.{entry-at-place}
use Rattle.dr_config.proofs.KeyLaws.{eqb-turned}
use Rattle.dr_model.specs.Control as control
use Rattle.dr_model.specs.Fits.{device_of}
use Rattle.dr_logic.specs.Bytes.{zeros}
use Rattle.dr_model.specs.Layout.{Blocks, fields, staged, physical}
use Rattle.dr_model.specs.Limits.{image_events}
use Rattle.dr_model.specs.Listed.{Lists, ListsAll, ListsBy, ListsIf, IsListed, listed_by, listing, listing_of, task_on}
use Rattle.dr_model.specs.Plans.{has_room_for}
use Rattle.dr_model.specs.declared.step.Step.{Step}
use Rattle.dr_model.specs.Runs.{OwnCourse, Groups, Volumes, Devices, own_course, volume_told, blocks_told}
use Rattle.dr_model.specs.declared.event.Event.TheVariants.{ImageVolume}
use Rattle.dr_model.specs.PlantImage.{Volume, device_blocks}
use Rattle.dr_volume.specs.View.{Rest, world, control_seen, ids_of, volume_seen, volume_on}
use Rattle.dr_volume.proofs.HeadLaws.{entry-there}
use Rattle.dr_volume.proofs.VolumeLaws.{placed, volume-placed, track-placed, device-placed, device-stands}
use Rattle.dr_listing.specs.Told.{IsBlock, IsReadable}
use Rattle.dr_listing.proofs.KeptLemmas.{Agree, same-block, kept-whole, kept-ordered, slot-agrees, fields-agree, staged-agrees, physical-agrees}

-- the volume at a place, as the configuration gives it
pub id-at : (t : ConfigTable) (place : ℕ) (o : Option VolumeId) (u : VolumeId) → option_map (λ (v : VolumeId). v.0) o ≡ option_map (λ (e : VolumeEntry). e.id) (slice_get t.volumes place) → o ≡ Some u → slice_get (ids_of t.volumes) place ≡ Some u.0
id-at t place o u value is = slice_get-map (λ (e : VolumeEntry). e.id) t.volumes place ∙ sym value ∙ ap (option_map (λ (v : VolumeId). v.0)) is

same_place : (es : List VolumeEntry) (v : ℕ) → position_or_len (nat_eq v) (ids_of es) ≡ position_or_len (λ (e : VolumeEntry). e.id == v) es
same_place [] v = refl
same_place (e ∷ es) v = (λ i. cond (not (eqb-turned v e.id i)) (1 + same_place es v i) 0)

-- the machine's number of a volume's device is its place
pub device-listed : (s : PlantState) (t : ConfigTable) (r : Rest) (v d : ℕ) → place_of t v ≡ Some d → device_of (control_seen s t r) v ≡ d
device-listed s t r v d place =
    ap (λ o. unwrap_or o 0) ((λ i. let n : ℕ = same_place t.volumes v i in cond (nat_lt n (length-map t.volumes (λ (e : VolumeEntry). e.id) i)) (Some n) None) ∙ place)

listed-ids : (k : control.Control) (device : ℕ → Blocks) (vs : List ℕ) → map (λ (v : Volume). v.volume) (map (listing_of k device) vs) ≡ vs
listed-ids k device [] = refl
listed-ids k device (v ∷ vs) = ap (λ us. v ∷ us) (listed-ids k device vs)

-- the lines of all volumes, and of their blocks
pub listed-volumes : (s : PlantState) (t : ConfigTable) (r : Rest) → map (λ (v : ℕ). ImageVolume v (volume_seen s t v).server (volume_seen s t v).tracks) (ids_of t.volumes) ≡ map volume_told (listing (control_seen s t r) s.block)
listed-volumes s t r = sym (map-map volume_told (listing_of (control_seen s t r) s.block) (ids_of t.volumes))

pub listed-blocks : (s : PlantState) (t : ConfigTable) (r : Rest) → flat_map (λ (v : ℕ). blocks_told (listing_of (control_seen s t r) s.block v)) (ids_of t.volumes) ≡ flat_map blocks_told (listing (control_seen s t r) s.block)
listed-blocks s t r = sym (flat_map-map blocks_told (listing_of (control_seen s t r) s.block) (ids_of t.volumes))

-- a place below the count has its volume
pub there-at : (t : ConfigTable) (place n : ℕ) (o : Option VolumeId) → option_map (λ (v : VolumeId). v.0) o ≡ option_map (λ (e : VolumeEntry). e.id) (slice_get t.volumes place) → n ≡ length t.volumes → place < n → is_some o ≡ true
there-at t place n o value count low = by o (value ∙ ap (option_map (λ (e : VolumeEntry). e.id)) (there).1)
  where
    there : (e : VolumeEntry) × (slice_get t.volumes place ≡ Some e)
    there = entry-there t place (omega (arith, count, low))

    by : (o : Option VolumeId) → option_map (λ (v : VolumeId). v.0) o ≡ Some there.0.id → is_some o ≡ true
    by None h = absurd cc
    by (Some v) h = refl

pub placed-at : (t : ConfigTable) (place : ℕ) (o : Option VolumeId) (u : VolumeId) → IfSome o (λ v. place_of t v.0 ≡ Some place) → o ≡ Some u → is_some (place_of t u.0) ≡ true
placed-at t place o u places is = ap is_some (if-some (λ (v : VolumeId). place_of t v.0 ≡ Some place) o u is places)

-- the device of a volume that is defined has its blocks
pub placed-on : (t : ConfigTable) (v : ℕ) (o : Option DeviceId) (d : DeviceId) → option_map (λ (d : DeviceId). d.0) o ≡ place_of t v → o ≡ Some d → place_of t v ≡ Some d.0
placed-on t v o d place is = sym place ∙ ap (option_map (λ (d : DeviceId). d.0)) is

pub has-block : (s : PlantState) (t : ConfigTable) (v d k : ℕ) → StandsFor t s → place_of t v ≡ Some d → k < blocks_of (volume_seen s t v).tracks → HasBlock s d k
has-block s t v d k stands place low =
    let e = entry-at-place t v d place in
    let there : volume_seen s t v ≡ volume_on (s.block d) (Some e.0) = volume-placed s t v d e.0 place e.1 in
    let tracks : (volume_seen s t v).tracks ≡ e.0.tracks = ap (λ (y : control.Volume). y.tracks) there in
    let sizes = device-stands s t v d e.0 place e.1 stands in
    let size = sizes.1 in
    record { device = sizes.0; block = omega (arith, low, tracks, size) }

-- all places are the volumes
pub all-taken : (t : ConfigTable) (place n : ℕ) → n ≡ length t.volumes → n ≤ place → take place (ids_of t.volumes) ≡ ids_of t.volumes
all-taken t place n count all = take_all place (ids_of t.volumes) (let size = length-map t.volumes (λ (e : VolumeEntry). e.id) in omega (arith, size, count, all))

-- the server and the size of a volume that is defined
pub tracks-found : (t : ConfigTable) (v : ℕ) (r : Option ℕ) → is_some (place_of t v) ≡ true → r ≡ option_map (λ (e : VolumeEntry). e.tracks) (entry_of t v) → is_some r ≡ true
tracks-found t v r defined value =
    let at = placed t v defined in
    let e = entry-at-place t v at.0 at.2 in
    ap is_some (value ∙ ap (option_map (λ (e : VolumeEntry). e.tracks)) e.2)

pub server-seen : (s : PlantState) (t : ConfigTable) (v : ℕ) (r : Option ServerId) (o : ServerId) → is_some (place_of t v) ≡ true → option_map (λ (s : ServerId). s.0) r ≡ server_of t v → r ≡ Some o → o.0 ≡ (volume_seen s t v).server
server-seen s t v r o defined value is =
    let at = placed t v defined in
    let e = entry-at-place t v at.0 at.2 in
    let there : volume_seen s t v ≡ volume_on (s.block at.0) (Some e.0) = volume-placed s t v at.0 e.0 at.2 e.1 in
    let same : Some o.0 ≡ Some e.0.server = sym (ap (option_map (λ (s : ServerId). s.0)) is) ∙ value ∙ ap (option_map (λ (e : VolumeEntry). e.server)) e.2 in
    same_Some o.0 e.0.server same ∙ sym (ap (λ (y : control.Volume). y.server) there)

pub tracks-seen : (s : PlantState) (t : ConfigTable) (v : ℕ) (r : Option ℕ) (n : ℕ) → is_some (place_of t v) ≡ true → r ≡ option_map (λ (e : VolumeEntry). e.tracks) (entry_of t v) → r ≡ Some n → n ≡ (volume_seen s t v).tracks
tracks-seen s t v r n defined value is =
    let at = placed t v defined in
    let e = entry-at-place t v at.0 at.2 in
    let there : volume_seen s t v ≡ volume_on (s.block at.0) (Some e.0) = volume-placed s t v at.0 e.0 at.2 e.1 in
    let same : Some n ≡ Some e.0.tracks = sym is ∙ value ∙ ap (option_map (λ (e : VolumeEntry). e.tracks)) e.2 in
    same_Some n e.0.tracks same ∙ sym (ap (λ (y : control.Volume). y.tracks) there)

module _ (s : PlantState) (t : ConfigTable) (r : Rest) (sound : IsSoundConfig t) (stands : StandsFor t s) where
  -- a volume with its device
  lists-volume : (v d : ℕ) (e : VolumeEntry) → place_of t v ≡ Some d → slice_get t.volumes d ≡ Some e → IsReadable s t v → IsListed (world s t r) (listing_of (control_seen s t r) s.block v)
  lists-volume v d e place is readable =
      let x = listing_of (control_seen s t r) s.block v in
      let there : volume_seen s t v ≡ volume_on (s.block d) (Some e) = volume-placed s t v d e place is in
      let tracks : (volume_seen s t v).tracks ≡ e.tracks = ap (λ (y : control.Volume). y.tracks) there in
      let server : (volume_seen s t v).server ≡ e.server = ap (λ (y : control.Volume). y.server) there in
      let device : device_of (control_seen s t r) v ≡ d = device-listed s t r v d place in
      let blocks : s.block (device_of (control_seen s t r) v) ≡ s.block d = ap s.block device in
      let whole = subst (λ (b : Blocks). (k : ℕ) → k < blocks_of (volume_seen s t v).tracks → IsBlock (b k)) (ap s.block (device-placed t v d place)) readable.blocks in
      let wide = subst (λ (b : Blocks). (k : ℕ) → k < blocks_of (volume_seen s t v).tracks → IsBlock (b k)) (sym blocks) whole in
      let n : ℕ = blocks_of (volume_seen s t v).tracks in
      let fits : record_blocks ≤ n = omega arith in
      let same : Agree n (device_blocks x) (s.block d) = (λ k low. same-block n k (s.block (device_of (control_seen s t r) v)) wide low ∙ ap (λ (b : Blocks). b k) blocks) in
      let head : Agree record_blocks (device_blocks x) (s.block d) = (λ k low. same k (omega (arith, low))) in
      let low = stands.device d e is in
      let size = sound.volume d e is in
      record {
        proper = record {
          volume = readable.number;
          server = (let a : e.server < 8 = low.2 in omega (arith, server, a));
          some_tracks = (let a : 1 ≤ e.tracks = size.some in omega (arith, tracks, a));
          tracks = (let a : e.tracks ≤ most_tracks = size.most in omega (arith, tracks, a));
          kept = kept-whole n n (s.block (device_of (control_seen s t r) v)) wide (omega arith);
          in_order = kept-ordered n (s.block (device_of (control_seen s t r) v));
        };
        server = refl;
        tracks = refl;
        says = record {
          slot = slot-agrees (device_blocks x) (s.block d) head ∙ sym (ap (λ (y : control.Volume). y.slot) there);
          fields = fields-agree (volume_seen s t v).tracks (device_blocks x) (s.block d) head ∙ ap (λ k. fields k (s.block d)) tracks ∙ sym (ap (λ (y : control.Volume). y.fields) there);
          staged = staged-agrees (volume_seen s t v).tracks (device_blocks x) (s.block d) head ∙ ap (λ k. staged k (s.block d)) tracks ∙ sym (ap (λ (y : control.Volume). y.staged) there);
        };
        holds = λ q low.
            let within : q < e.tracks = (omega (arith, low, tracks)) in
            physical-agrees (volume_seen s t v).tracks q (device_blocks x) (s.block d) same low ∙ ap (λ k. physical k (s.block d) q) tracks
            ∙ sym (track-placed s t v d q e place is ∙ ap (λ b. cond b (physical e.tracks (s.block d) q) zeros) (lt_true q e.tracks within));
      }

  -- a volume that is read is defined
  lists-read : (v : ℕ) → IsReadable s t v → IsListed (world s t r) (listing_of (control_seen s t r) s.block v)
  lists-read v readable = let at = placed t v readable.defined in lists-volume v at.0 at.1 at.2 at.3 readable

  pub lists-all : All (IsReadable s t) (ids_of t.volumes) → ListsAll (world s t r) (listing (control_seen s t r) s.block)
  lists-all readable = record {
    volumes = listed-ids (control_seen s t r) s.block (ids_of t.volumes);
    each = All-map (IsListed (world s t r)) (listing_of (control_seen s t r) s.block) (ids_of t.volumes) (λ i d low. lists-read _ (readable i d low));
  }

-- where all volumes are listed so, each step lists what it should: an image that the journal has room for all of them, and no other any
pub lists-asked : (w : control.World) (device : ℕ → Blocks) (line : ℕ) (asked : Result Step ℕ) → ListsAll w (listing w.control device) → Lists w (task_on w device line asked)
lists-asked w device line asked all = by (own_course asked)
  where
    room : (b : Bool) → ListsIf b w (cond b (listing w.control device) [])
    room true = all
    room false = refl

    by : (o : Option OwnCourse) → ListsBy w (listed_by w device o) o
    by None = refl
    by (Some (Groups s n)) = refl
    by (Some (Volumes v u)) = refl
    by (Some Devices) = room (has_room_for image_events w.events)
