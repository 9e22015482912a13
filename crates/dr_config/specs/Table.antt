-- What contracts see of a configuration, and what it says of servers, volumes and the devices below.
use Rattle.std.specs.Prelude.{◌≡◌, ℕ, ◌/◌, ◌<◌, ◌≤◌, ◌==◌, Bool, true, not, List, length, slice_get, Option, Some, option_map}
use Rattle.std.specs.List.{position, find}
use Rattle.std.specs.Str.{bytes_eq}
use Rattle.dr_ids.specs.Sizes.{blocks_of, most_tracks}
use Rattle.dr_ids.specs.Paths.{Path}
use Rattle.dr_plant.specs.State.{PlantState}
use Rattle.dr_config.specs.declared.entries.VolumeEntry.{VolumeEntry}
use Rattle.dr_config.specs.Links.{is_down, IsSquare}

-- The servers' names and the volumes, in order of definition, which links are down, and the paths between
-- logical subsystems, in order of definition.
pub record ConfigTable : Type 0 where
  pub names : List (List ℕ)
  pub volumes : List VolumeEntry
  pub down : List (List Bool)
  pub paths : List Path

-- The number of the server of that name, which is its place.
abbrev pub server_named : ConfigTable → List ℕ → Option ℕ
server_named t name = position (λ (n : List ℕ). bytes_eq name n) t.names

-- The place of that volume, which is the number of its device.
abbrev pub place_of : ConfigTable → ℕ → Option ℕ
place_of t v = position (λ (e : VolumeEntry). e.id == v) t.volumes

-- What is defined of that volume.
abbrev pub entry_of : ConfigTable → ℕ → Option VolumeEntry
entry_of t v = find (λ (e : VolumeEntry). e.id == v) t.volumes

-- The server of that volume, if it is defined.
abbrev pub server_of : ConfigTable → ℕ → Option ℕ
server_of t v = option_map (λ (e : VolumeEntry). e.server) (entry_of t v)

-- The logical subsystem of a volume: the high byte of its identifier.
abbrev pub lss_of : ℕ → ℕ
lss_of v = v / 256

-- The server of the volumes of that logical subsystem, if it has any.
abbrev pub lss_owner : ConfigTable → ℕ → Option ℕ
lss_owner t l = option_map (λ (e : VolumeEntry). e.server) (find (λ (e : VolumeEntry). lss_of e.id == l) t.volumes)

-- Whether the link from server x to server y is up; from or to no server of 0 to 7 it is.
abbrev pub link_up : ConfigTable → ℕ → ℕ → Bool
link_up t x y = not (is_down t.down x y)

-- A name has 1 to 24 bytes.
pub record IsName (n : List ℕ) : Type 0 where
  pub some : 1 ≤ length n
  pub short : length n ≤ 24

-- The server at place k: its name is well formed and no other server's.
pub record IsServer (t : ConfigTable) (k : ℕ) (n : List ℕ) : Type 0 where
  pub name : IsName n
  pub own : server_named t n ≡ Some k

-- The volume at place d: its server is defined, it has 1 to 256 tracks, its identifier is no other
-- volume's, and each volume of its logical subsystem belongs to its server.
pub record IsVolume (t : ConfigTable) (d : ℕ) (e : VolumeEntry) : Type 0 where
  pub server : e.server < length t.names
  pub some : 1 ≤ e.tracks
  pub most : e.tracks ≤ most_tracks
  pub own : place_of t e.id ≡ Some d
  pub lss : lss_owner t (lss_of e.id) ≡ Some e.server

-- What is true of every configuration.
pub record IsSoundConfig (t : ConfigTable) : Type 0 where
  pub few_servers : length t.names ≤ 8
  pub few_volumes : length t.volumes ≤ 64
  pub server : (k : ℕ) (n : List ℕ) → slice_get t.names k ≡ Some n → IsServer t k n
  pub volume : (d : ℕ) (e : VolumeEntry) → slice_get t.volumes d ≡ Some e → IsVolume t d e
  pub square : IsSquare t.down
  pub both_ways : (x y : ℕ) → link_up t x y ≡ link_up t y x
  pub own_link : (x : ℕ) → link_up t x x ≡ true

-- The server is defined, and so one of the servers 0 to 7.
pub record HasServer (t : ConfigTable) (s : ℕ) : Type 0 where
  pub defined : s < length t.names
  pub below : s < 8

-- Each volume has its device: owned by its server, with the blocks of a volume of its tracks.
pub record StandsFor (t : ConfigTable) (s : PlantState) : Type 0 where
  pub count : s.count ≡ length t.volumes
  pub device : (d : ℕ) (e : VolumeEntry) → slice_get t.volumes d ≡ Some e → (s.owner d ≡ e.server) × (s.size d ≡ blocks_of e.tracks) × (e.server < 8)
