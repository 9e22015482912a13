-- The control state: everything that a run knows but the bytes of the tracks.
use Rattle.std.specs.Prelude.{ℕ, Bool, true, false, List, [], Option, None, nat_eq}
use Rattle.std.specs.List.{list_any}
use Rattle.dr_logic.specs.Bytes.{zeros}
use Rattle.dr_ids.specs.Paths.{Path}
use Rattle.dr_model.specs.declared.event.Event.{Event}
use Rattle.dr_model.specs.Layout.{Fields, no_fields}
use Rattle.dr_model.specs.Sessions.{Session}
use Rattle.dr_model.specs.Messages.{Flight, no_flight}

-- how many writes of a server still pass, and what the next one leaves in its block: None for what stood there
pub record Fuse : Type 0 where
  pub after : ℕ
  pub torn : Option (List ℕ)

-- a host write that isn't acknowledged; it has landed where a stop took its acknowledgement
pub record Pending : Type 0 where
  pub w : ℕ
  pub volume : ℕ
  pub track : ℕ
  pub landed : Bool

-- a volume: its server, its size, and what its control record says
pub record Volume : Type 0 where
  pub server : ℕ
  pub tracks : ℕ
  pub slot : Bool
  pub fields : Fields
  pub staged : Option ℕ

-- a volume as it is defined
abbrev pub new_volume : ℕ → ℕ → Volume
new_volume server tracks = record { server = server; tracks = tracks; slot = false; fields = no_fields; staged = None }

-- servers and volumes in order of definition (a server's number is its place), which servers are on, their
-- fuses, which links between them are up, the paths between logical subsystems, each volume, how many writes were issued, and those that are pending, in
-- order of issue, the sessions, and the messages in flight
pub record Control : Type 0 where
  pub servers : List (List ℕ)
  pub on : ℕ → Bool
  pub fuse : ℕ → Option Fuse
  pub link : ℕ → ℕ → Bool
  pub paths : List Path
  pub volumes : List ℕ
  pub volume : ℕ → Volume
  pub issued : ℕ
  pub pending : List Pending
  pub sessions : List Session
  pub flight : Flight

-- nothing is defined, every server is on, no fuse is armed and every link is up
abbrev pub no_control : Control
no_control = record {
  servers = [];
  on = λ s. true;
  fuse = λ s. None;
  link = λ a b. true;
  paths = [];
  volumes = [];
  volume = λ v. new_volume 0 0;
  issued = 0;
  pending = [];
  sessions = [];
  flight = no_flight;
}

-- the volume is defined
abbrev pub is_volume : Control → ℕ → Bool
is_volume k v = list_any (nat_eq v) k.volumes

-- control, what each track contains, what is saved of each track that an entry of its volume names (zeros of any other), and the
-- journal
pub record World : Type 0 where
  pub control : Control
  pub contents : ℕ → ℕ → List ℕ
  pub saved : ℕ → ℕ → List ℕ
  pub events : List Event

-- before the first step
abbrev pub nothing : World
nothing = record { control = no_control; contents = λ v t. zeros; saved = λ v t. zeros; events = [] }
