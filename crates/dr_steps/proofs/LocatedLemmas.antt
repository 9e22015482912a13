-- A volume that the configuration finds is one of the machine's, with its server and its size.
use Rattle.std.proofs.Common.{ℕ, ◌≡◌, ◌<◌, ◌≤◌, List, refl, ap, ◌∙◌, arith, true, not, cond, nat_lt, Option, Some, None}
use Rattle.std.specs.Prelude.{is_some, option_map, Ok, Err}
use Rattle.dr_ids.specs.declared.names.ServerId.{ServerId}
use Rattle.dr_steps.specs.Located.{Located}
use Rattle.dr_model.specs.Fits.{device_of}
use Rattle.dr_bits.specs.Membership.{lt_true, lt_false}
use Rattle.dr_plant.specs.State.{PlantState}
use Rattle.dr_config.specs.Table.{ConfigTable, place_of, entry_of}
use Rattle.dr_config.specs.declared.entries.VolumeEntry.{VolumeEntry}
use Rattle.dr_config.proofs.Lookups.{place-of-entry, none-mapped}
use Rattle.dr_model.specs.declared.event.Event.{Event}
use Rattle.dr_model.specs.Control.{is_volume}
use Rattle.dr_ids.specs.declared.refusal.Kind.TheVariants.{Volume as OfVolume, Track as OfTrack}
use Rattle.dr_model.specs.Refusals.{unknown}
use Rattle.dr_model.specs.Plans.{track_refusal}
use Rattle.dr_volume.specs.View.{volume_seen}
use Rattle.dr_volume.proofs.VolumeLaws.{volume-placed}
use Rattle.dr_listing.proofs.ImageLemmas.{device-listed}
use Rattle.dr_steps.specs.Here.{here, rest_of}
use Rattle.dr_steps.specs.declared.tables.Tables.{Tables}
use Rattle.dr_volume.proofs.WorldLaws.{any_id}

-- the machine has a volume exactly where the configuration has
pub is_volume-here : (s : PlantState) (t : ConfigTable) (h : Tables) (events : List Event) (v : ℕ) → is_volume (here s t h events).control v ≡ is_some (entry_of t v)
is_volume-here s t h events v = any_id t.volumes v

pub some_entry : (o : Option VolumeEntry) → is_some o ≡ true → (e : VolumeEntry) × (o ≡ Some e)
some_entry None h = absurd (cc)
some_entry (Some e) h = (e, refl)

-- the number of its device is its place there, too
pub device-here : (s : PlantState) (t : ConfigTable) (h : Tables) (events : List Event) (v d : ℕ) → place_of t v ≡ Some d → device_of (here s t h events).control v ≡ d
device-here s t h events v d place = device-listed s t (rest_of h events) v d place

-- where an entry is found, the volume is on its device
pub seen-entry : (s : PlantState) (t : ConfigTable) (v : ℕ) (e : VolumeEntry) → entry_of t v ≡ Some e → ((volume_seen s t v).server ≡ e.server) × ((volume_seen s t v).tracks ≡ e.tracks) × (is_some (place_of t v) ≡ true)
seen-entry s t v e found =
    let at = place-of-entry t v e found in
    let on = volume-placed s t v at.0 e at.1 at.2 in
    (ap (λ x. x.server) on, ap (λ x. x.tracks) on, ap is_some at.1)

pub refusal-entry : (s : PlantState) (t : ConfigTable) (h : Tables) (events : List Event) (v k : ℕ) (e : VolumeEntry) → entry_of t v ≡ Some e → track_refusal (here s t h events).control v k ≡ cond (nat_lt k e.tracks) None (Some (unknown OfTrack))
refusal-entry s t h events v k e found =
    ap (λ b. cond (not b) (Some (unknown OfVolume)) (cond (nat_lt k (volume_seen s t v).tracks) None (Some (unknown OfTrack)))) (is_volume-here s t h events v ∙ ap is_some found)
    ∙ ap (λ n. cond (nat_lt k n) None (Some (unknown OfTrack))) (seen-entry s t v e found).1

pub mapped_some : {A B : Type 0} (f : A → B) (o : Option A) (y : B) → Some y ≡ option_map f o → (x : A) × (o ≡ Some x) × (f x ≡ y)
mapped_some f None y e = cc
mapped_some f (Some x) y e = (x, refl, cc)

-- the track is there
pub located-some : (t : ConfigTable) (v k : ℕ) (tracks : ℕ) (server : ServerId) → Some tracks ≡ option_map (λ (e : VolumeEntry). e.tracks) (entry_of t v) → Some server.0 ≡ option_map (λ (e : VolumeEntry). e.server) (entry_of t v)
    → server.0 < 8 → k < tracks → Located t v k (Ok (record { server = server; track = k }))
located-some t v k tracks server sized owned known lt s h events =
    let a = mapped_some (λ (e : VolumeEntry). e.tracks) (entry_of t v) tracks sized in
    let b = mapped_some (λ (e : VolumeEntry). e.server) (entry_of t v) server.0 owned in
    let seen = seen-entry s t v a.0 a.1 in
    let other = seen-entry s t v b.0 b.1 in
    let big : k < (volume_seen s t v).tracks = (let e = seen.1 in let f = a.2 in omega arith) in (
      refusal-entry s t h events v k a.0 a.1 ∙ ap (λ x. cond x None (Some (unknown OfTrack))) (lt_true k a.0.tracks (let f = a.2 in omega arith)),
      record { defined = seen.2; server = other.0 ∙ b.2; known = known; track = refl; within = big },
    )

pub located-past : (t : ConfigTable) (v k : ℕ) (tracks : ℕ) → Some tracks ≡ option_map (λ (e : VolumeEntry). e.tracks) (entry_of t v) → tracks ≤ k → Located t v k (Err (unknown OfTrack))
located-past t v k tracks sized le s h events =
    let a = mapped_some (λ (e : VolumeEntry). e.tracks) (entry_of t v) tracks sized in
    refusal-entry s t h events v k a.0 a.1 ∙ ap (λ x. cond x None (Some (unknown OfTrack))) (lt_false k a.0.tracks (let f = a.2 in omega arith))

pub located-undefined : (t : ConfigTable) (v k : ℕ) → None ≡ option_map (λ (e : VolumeEntry). e.tracks) (entry_of t v) → Located t v k (Err (unknown OfVolume))
located-undefined t v k none s h events =
    ap (λ b. cond (not b) (Some (unknown OfVolume)) (cond (nat_lt k (volume_seen s t v).tracks) None (Some (unknown OfTrack)))) (is_volume-here s t h events v ∙ ap is_some (none-mapped (λ (e : VolumeEntry). e.tracks) (entry_of t v) none))

pub located-unowned : (t : ConfigTable) (v k : ℕ) → None ≡ option_map (λ (e : VolumeEntry). e.server) (entry_of t v) → Located t v k (Err (unknown OfVolume))
located-unowned t v k none s h events =
    ap (λ b. cond (not b) (Some (unknown OfVolume)) (cond (nat_lt k (volume_seen s t v).tracks) None (Some (unknown OfTrack)))) (is_volume-here s t h events v ∙ ap is_some (none-mapped (λ (e : VolumeEntry). e.server) (entry_of t v) none))
