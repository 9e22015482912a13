-- A volume that is defined, with its server and its size.
use Rattle.std.proofs.Common.{ℕ, ◌≡◌, ◌≤◌, true, Option, None, Some, refl, ap, ◌∙◌, sym, subst}
use Rattle.std.specs.Prelude.{is_some, option_map}
use Rattle.std.proofs.lemmas.Option.{same_Some}
use Rattle.dr_plant.specs.State.{PlantState}
use Rattle.dr_config.specs.Table.{ConfigTable, StandsFor, place_of, entry_of}
use Rattle.dr_config.specs.declared.entries.VolumeEntry.{VolumeEntry}
use Rattle.dr_config.proofs.Lookups.{entry-at-place}
use Rattle.dr_model.specs.Lawful.{IsLawful}
use Rattle.dr_model.specs.Layout.{chosen}
use Rattle.dr_volume.specs.Plain.{normal}
use Rattle.dr_volume.specs.Record.{raw_of}
use Rattle.dr_volume.specs.View.{volume_seen, device_of}
use Rattle.dr_volume.specs.Volume.{LiesOn}
use Rattle.dr_volume.proofs.UnreadLaws.{lies-at}
use Rattle.dr_volume.proofs.VolumeLaws.{placed, volume-placed, shows-normal}

-- what is defined of it
pub entry-found : (t : ConfigTable) (v : ℕ) → is_some (place_of t v) ≡ true → (e : VolumeEntry) × (entry_of t v ≡ Some e) × ((s : PlantState) → (volume_seen s t v).server ≡ e.server) × ((s : PlantState) → (volume_seen s t v).tracks ≡ e.tracks)
entry-found t v defined =
    let x = placed t v defined in
    let y = entry-at-place t v x.0 x.2 in
    (y.0, y.2, (λ s. ap (λ w. w.server) (volume-placed s t v x.0 y.0 x.2 y.1)), (λ s. ap (λ w. w.tracks) (volume-placed s t v x.0 y.0 x.2 y.1)))

mapped : {A B C : Type 0} (f : A → C) (g : B → C) (o : Option A) (b : B) → option_map f o ≡ Some (g b) → is_some o ≡ true
mapped f g None b e = absurd cc
mapped f g (Some a) b e = refl

pub looked-up : {A C : Type 0} (t : ConfigTable) (v : ℕ) (f : A → C) (g : VolumeEntry → C) (o : Option A) → is_some (place_of t v) ≡ true → option_map f o ≡ option_map g (entry_of t v) → is_some o ≡ true
looked-up t v f g o defined is = let x = entry-found t v defined in mapped f g o x.0 (is ∙ ap (option_map g) x.1)

pub found-is : {A C : Type 0} (t : ConfigTable) (v : ℕ) (f : A → C) (g : VolumeEntry → C) (o : Option A) (a : A) (defined : is_some (place_of t v) ≡ true) → option_map f o ≡ option_map g (entry_of t v) → o ≡ Some a → g (entry-found t v defined).0 ≡ f a
found-is t v f g o a defined is some =
    let x = entry-found t v defined in same_Some _ _ (sym (ap (option_map g) x.1) ∙ sym is ∙ ap (option_map f) some)

-- the fields that a volume's device gives are lawful
pub seen-lawful : (s : PlantState) (t : ConfigTable) (v : ℕ) → is_some (place_of t v) ≡ true → (volume_seen s t v).tracks ≤ 256 → StandsFor t s → IsLawful (volume_seen s t v).tracks (volume_seen s t v).fields
seen-lawful s t v defined size stands =
    let x = lies-at t s v defined size stands in
    let lies : LiesOn t v (device_of t v) x.0.tracks = record { place = x.1.place; tracks = ap (option_map (λ (e : VolumeEntry). e.tracks)) x.1.entry; few = x.1.few } in
    let shows = shows-normal s t v (device_of t v) x.0.tracks (normal x.0.tracks (raw_of (chosen (s.block (device_of t v))))) lies refl in
    subst (IsLawful (volume_seen s t v).tracks) shows.fields shows.lawful
