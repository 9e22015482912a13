-- What a failover and a failback leave of the volumes of a pair.
use Rattle.std.specs.Prelude.{ℕ, ◌≡◌, ◌≢◌, ◌<◌, true, false, ◌&&◌, List, Some, is_some}
use Rattle.std.specs.FinSet.{empty, union, contains}
use Rattle.dr_logic.specs.Bytes.{zeros}
use Rattle.dr_plant.specs.State.{PlantState}
use Rattle.dr_config.specs.Table.{ConfigTable, place_of}
use Rattle.dr_model.specs.declared.state.Part.{Part}
use Rattle.dr_model.specs.declared.state.PairState.TheVariants.{Suspended}
use Rattle.dr_model.specs.Layout.{Tracks, Fields, is_part}
use Rattle.dr_model.specs.Pairs.{is_metro, is_full_duplex, is_last, received, struck, state_with, fallen_back, yielded}
use Rattle.dr_model.specs.Relations.{is_bare, lowest}
use Rattle.dr_volume.specs.View.{volume_seen, track_seen}

-- A Suspended primary of a, of that kind, with nothing out of sync, that is no secondary and has no seal.
pub record IsTakenFrom (a : ℕ) (kind : Part) (f : Fields) : Type 0 where
  pub kind_is : f.primary ≡ kind
  pub partner : f.primary_partner ≡ a
  pub state : f.primary_state ≡ Suspended
  pub in_sync : f.out_of_sync ≡ empty
  pub unchanged : f.change_recording ≡ empty
  pub free : is_part f.secondary ≡ false
  pub seal : f.seal ≡ 0

-- Where it is a primary, its partner is a volume of the plant, on another server and of the same size.
pub record HasPartner (s : PlantState) (t : ConfigTable) (x : ℕ) : Type 0 where
  pub there : is_part (volume_seen s t x).fields.primary ≡ true → is_some (place_of t (volume_seen s t x).fields.primary_partner) ≡ true
  pub apart : is_part (volume_seen s t x).fields.primary ≡ true → (volume_seen s t x).server ≢ (volume_seen s t (volume_seen s t x).fields.primary_partner).server
  pub size : is_part (volume_seen s t x).fields.primary ≡ true → (volume_seen s t (volume_seen s t x).fields.primary_partner).tracks ≡ (volume_seen s t x).tracks

-- what y hasn't sent
abbrev pub unsent_seen : PlantState → ConfigTable → ℕ → Tracks
unsent_seen s t y = union (volume_seen s t y).fields.out_of_sync (volume_seen s t y).fields.change_recording

-- x as it falls back on y
abbrev pub fallen_seen : PlantState → ConfigTable → ℕ → ℕ → Fields
fallen_seen s t x y = fallen_back (unsent_seen s t y) (state_with (unsent_seen s t y) (volume_seen s t x).fields) (volume_seen s t x).fields

-- y as it becomes the secondary of x
abbrev pub yielded_seen : PlantState → ConfigTable → ℕ → ℕ → Fields
yielded_seen s t y x = yielded x (volume_seen s t x).fields.primary (volume_seen s t x).fields.primary_state (volume_seen s t y).fields

-- From s to u both have happened.
pub record Turned (s u : PlantState) (t : ConfigTable) (x y : ℕ) : Type 0 where
  pub first : (volume_seen u t x).fields ≡ fallen_seen s t x y
  pub second : (volume_seen u t y).fields ≡ yielded x (volume_seen u t x).fields.primary (volume_seen u t x).fields.primary_state (volume_seen s t y).fields

-- Blank tracks contain zeros, as in each sound world.
abbrev pub ZerosThere : PlantState → ConfigTable → Type 0
ZerosThere s t = (v k : ℕ) → contains (volume_seen s t v).fields.blank k ≡ true → track_seen s t v k ≡ zeros

-- From s to u each track of each volume contains what it contained.
abbrev pub SameTracks : PlantState → PlantState → ConfigTable → Type 0
SameTracks s u t = (v k : ℕ) → track_seen u t v k ≡ track_seen s t v k

-- With these fields x is the primary of y, which is its secondary, of that kind; x neither records nor is held by coordination, y has
-- no seal, and both are Full Duplex exactly where the pair is a Metro Mirror and nothing is out of sync.
pub record IsTurned (x y : ℕ) (kind : Part) (f g : Fields) : Type 0 where
  pub leads : f.primary ≡ kind
  pub partner : f.primary_partner ≡ y
  pub recording : f.recording ≡ false
  pub held : f.coordination ≡ false
  pub follows : g.secondary ≡ kind
  pub primary : g.secondary_partner ≡ x
  pub free : is_part g.primary ≡ false
  pub seal : g.seal ≡ 0
  pub duplex : is_full_duplex f.primary_state ≡ (is_metro kind && is_bare f.out_of_sync)
  pub alike : g.secondary_state ≡ f.primary_state

-- Of a primary with n tracks the lowest track that was out of sync is out of it, and no other; its secondary has stored it, and where it
-- was the last of a Metro Mirror pair both are Full Duplex. Their fields were f and h, and are g and k.
pub record IsOneSent (n : ℕ) (f g h k : Fields) : Type 0 where
  pub track : ℕ
  pub is_lowest : lowest n f.out_of_sync ≡ Some track
  pub sent : g ≡ struck (is_last f track) f track
  pub stored : k ≡ received (is_last f track) h track

-- Track t is the first of n tracks on which two volumes differ.
pub record DifferFirst (x y : ℕ → List ℕ) (n t : ℕ) : Type 0 where
  pub low : t < n
  pub other : x t ≢ y t
  pub before : (k : ℕ) → k < t → x k ≡ y k
